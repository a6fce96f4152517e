use Rattle.std.proofs.Common.{◌≡◌, ◌∙◌, true, not, length, sym, ap, arith}
use Rattle.std.proofs.lemmas.Bool.{false≢true}
use Rattle.std.proofs.lemmas.Bool.Decides.{Decides-eqb}
use Rattle.fond_planner.proofs.Furthered.{more_than}
use Rattle.fond_planner.proofs.planner.Planner.begin_again.Goals as goal

pub returns-clause-more : goal.returns-clause-more
returns-clause-more g c = λ still.
    let draft = c.args.self.now.draft in
    let some : ¬ length draft.fresh.items ≡ 0 = λ none.
    let empty : c.is_empty.result ≡ true = c.is_empty.ensures ∙ (Decides-eqb draft.fresh.len 0).1 (omega (arith, none, draft.fresh.ok.0)) in
    false≢true (sym (ap not empty) ∙ still) in
    more_than c.args.self.now.task.now draft.pairs draft.fresh.items c.heed_fresh.new.self.pairs c.requires.draft.more some c.in_ok-heed_fresh.ensures.moved
