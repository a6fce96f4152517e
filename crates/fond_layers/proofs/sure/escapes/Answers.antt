use Rattle.std.proofs.Common.{◌∙◌, Bool, true, false, not, refl, sym, ap, Decides}
use Rattle.std.specs.Prelude.{MatchBool}
use Rattle.std.proofs.lemmas.Bool.{false≢true}
use Rattle.fond_task.specs.Values.{value}
use Rattle.fond_layers.proofs.sure.escapes.Goals as goal

-- what the answer of `forces` says of an action that may be applicable
escaped : (No Forced : Type 0) (leads : Bool) → Decides leads Forced → ¬ No → MatchBool (not leads) ((¬ No) × (¬ Forced)) (¬ No → Forced)
escaped No Forced true told may = λ still. told.0 refl
escaped No Forced false told may = (may, λ forced. false≢true (told.1 forced))

pub returns-in-No-clause-answer : goal.returns-in-No-clause-answer
returns-in-No-clause-answer c = λ may. absurd (may (sym (c.value.ensures ∙ ap (value c.args.cube.now) c.deref.ensures) ∙ c.in-No.is))

pub returns : goal.returns
returns c = record {
  same_length = c.forces.ensures.same_length;
  answer = escaped _ _ c.forces.result c.forces.ensures.decides (λ no. c.in_default.not-No (c.value.ensures ∙ ap (value c.args.cube.now) c.deref.ensures ∙ no));
}
