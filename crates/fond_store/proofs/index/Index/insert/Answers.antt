use Rattle.std.proofs.Common.{◌≡◌, ◌∙◌, None, is_some, sym, ap, subst}
use Rattle.fond_store.specs.Texts.{number_by, Inserts}
use Rattle.fond_store.proofs.Entries.{shown, put_in, passed_over, not_some}
use Rattle.fond_store.proofs.index.Index.insert.Goals as goal

pub returns-then-is_some-clause-ok : goal.returns-then-is_some-clause-ok
returns-then-is_some-clause-ok g c =
    let same = g.T.PartialEq.eq in
    passed_over g.met.T.Eq.laws c.args.self.now c.args.list.items c.args.number
    (ap (λ list. is_some (number_by same c.args.self.now list)) (sym c.deref.ensures.value) ∙ ap is_some (sym c.find.ensures) ∙ sym c.is_some.ensures ∙ c.if-is_some.true)

pub returns-clause-ok : goal.returns-clause-ok
returns-clause-ok g c =
    let list = c.args.list in
    let numbers = c.self.inside.numbers in
    let same = g.T.PartialEq.eq in
    let none : number_by same c.args.self.now list.items ≡ None =
    ap (number_by same c.args.self.now) (sym c.deref.ensures.value) ∙ sym c.find.ensures ∙ not_some c.find.result (sym c.is_some.ensures ∙ c.if-is_some.false) in
    let updates = c.in_ok-insert.ensures.updates in
    subst (λ items. Inserts same items list.items c.args.number (shown g.met.T.Eq.laws c.insert.new.self.entries)) c.self.view_is
    (put_in g.met.T.Eq.laws numbers.entries c.insert.new.self.entries list c.args.number (ap (λ items. number_by same items list.items) c.self.view_is ∙ none) updates.1 updates.3)
