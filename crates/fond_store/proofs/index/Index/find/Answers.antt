use Rattle.std.proofs.Common.{◌∙◌, ap}
use Rattle.fond_store.specs.Texts.{number_by}
use Rattle.fond_store.proofs.Entries.{number_at}
use Rattle.fond_store.proofs.index.Index.find.Goals as goal

pub returns : goal.returns
returns g c =
    let list = c.args.list.now in
    let same = g.T.PartialEq.eq in
    c.copied.ensures ∙ c.get.ensures.value ∙ number_at g.met.T.Eq.laws c.self.inside.numbers.entries list ∙ ap (λ items. number_by same items list) c.self.view_is
