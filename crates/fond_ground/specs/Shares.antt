-- When actions of one schema may share a precondition or outcomes.
use Rattle.std.specs.Prelude.{◌≡◌, ◌||◌, ℕ, Bool, true, false, List, length, slice_index_or}
use Rattle.std.specs.List.{list_any}
use Rattle.fond_ast.specs.declared.form.LEffect.{LEffect}
use Rattle.fond_ast.specs.declared.form.LEffect.TheOpen.{LEffect-F, Nothing, Add, Delete, And, Forall, When, OneOf}
use Rattle.fond_ast.specs.declared.form.LEffect.TheFolds.{fold-LEffect}
use Rattle.fond_ast.specs.declared.task.LSchema.{LSchema}
use Rattle.fond_ast.specs.declared.task.LiftedTask.{LiftedTask}
use Rattle.fond_ast.specs.Laws.{has_variable}
use Rattle.fond_ast.specs.Patterns.{is_variable}
use Rattle.fond_ast.specs.Outcomes.{outcomes}
use Rattle.fond_task.specs.declared.task.Act.{Act}
use Rattle.fond_task.specs.Within.{is_act_within}
use Rattle.fond_ground.specs.Atoms.{fluent_atoms}
use Rattle.fond_ground.specs.Grounds.{AreOutcomesOf}
use Rattle.fond_ground.specs.Values.{StandsFor}

abbrev pub has_effect_variable_step : ℕ → LEffect-F Bool → Bool
has_effect_variable_step number Nothing = false
has_effect_variable_step number (Add atom) = list_any (is_variable number) atom.terms
has_effect_variable_step number (Delete atom) = list_any (is_variable number) atom.terms
has_effect_variable_step number (And parts) = list_any (λ part. part) parts.items
has_effect_variable_step number (Forall ranges part) = part.value
has_effect_variable_step number (When condition part) = has_variable number condition || part.value
has_effect_variable_step number (OneOf parts) = list_any (λ part. part) parts.items

-- whether a variable of this number occurs in an effect, be it bound inside or not
abbrev pub has_effect_variable : ℕ → LEffect → Bool
has_effect_variable number = fold-LEffect Bool (has_effect_variable_step number)

-- two lists of objects agree where a test of numbers passes: they are equally long, and equal at each such number
abbrev pub AgreeWhere : (ℕ → Bool) → List ℕ → List ℕ → Type 0
AgreeWhere test env other = (length env ≡ length other) × ((number : ℕ) → test number ≡ true → slice_index_or env number 0 ≡ slice_index_or other number 0)

-- two lists of objects agree on the variables of an effect: they are equally long, and equal at each of them
abbrev pub AgreeOnEffect : LEffect → List ℕ → List ℕ → Type 0
AgreeOnEffect effect = AgreeWhere (λ number. has_effect_variable number effect)

-- whether a number has a mark; a number past the marks counts as marked
abbrev pub is_marked : List Bool → ℕ → Bool
is_marked marks number = slice_index_or marks number true

-- each number at which a test passes is marked, or lies past the marks
abbrev pub AreMarked : (ℕ → Bool) → List Bool → Type 0
AreMarked test marks = (number : ℕ) → is_marked marks number ≡ false → test number ≡ false

-- marks were added, at least wherever a test passes: a number without a mark afterwards had none before, and does not pass
abbrev pub AddedWhere : (ℕ → Bool) → List Bool → List Bool → Type 0
AddedWhere test before after = (number : ℕ) → is_marked after number ≡ false → (is_marked before number ≡ false) × (test number ≡ false)

-- an action has the precondition and the outcomes of a schema for its own objects, and is over the fluent atoms; whether it is one
-- of that schema is not said
pub record IsGroundBy (task : LiftedTask) (schema : LSchema) (act : Act) : Type 0 where
  pub pre : StandsFor task act.ground.objects schema.pre act.pre
  pub outcomes : AreOutcomesOf task (outcomes act.ground.objects schema.effect) act.outcomes
  pub within : is_act_within (length (fluent_atoms task)) act ≡ true
