use Rattle.std.proofs.Common.{List, sym, ◌∙◌, subst}
use Rattle.fond_fixpoint.specs.declared.fate.Fate.{Fate}
use Rattle.fond_fixpoint.specs.Rounds.{IsRound}
use Rattle.fond_fixpoint.proofs.Cascaded.{cascaded}
use Rattle.fond_fixpoint.proofs.cascade.cascade.Goals as goal

pub returns-clause-keeps : goal.returns-clause-keeps
returns-clause-keeps c = λ goals now.
    let P : List Fate → Type 0 = λ fates. IsRound goals c.args.moves.now c.in_ok-after.after 0 fates in
    let copied = c.copy_from_slice.ensures.after ∙ c.deref-2.ensures.value ∙ sym c.deref.ensures.value in
    subst P (sym copied) (cascaded goals c.args.moves.now c.args.round c.in_ok-after.after c.args.fates.now c.deref.result.now now (c.is_cascade.ensures c.if-not-is_cascade.false))
