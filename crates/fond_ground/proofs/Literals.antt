-- Ground literals: fluent atoms have numbers, and static atoms are constants.
use Rattle.std.proofs.Common.{◌≡◌, ℕ, ◌-◌, ◌<◌, ◌∙◌, Bool, true, false, List, ◌∷◌, Option, Some, None, length, take, drop, refl, sym, ap, arith, nat_lt}
use Rattle.std.specs.Prelude.{if◌then◌else◌}
use Rattle.std.specs.FinSet as set
use mathlib.Core.Bool.{beq}
use Rattle.std.proofs.lemmas.Bool.Decides.{nat_tests}
use Rattle.std.proofs.lemmas.List.{take_all}
use Rattle.std.proofs.lemmas.List.Quantifiers.{position-Some}
use Rattle.fond_text.specs.declared.atom.Atom.{Atom}
use Rattle.fond_ast.specs.declared.task.LiftedTask.{LiftedTask}
use Rattle.fond_join.specs.Kept.{static_value}
use Rattle.fond_ast.specs.Solutions.{initial}
use Rattle.fond_task.specs.declared.form.Form.{Truth, Lit}
use Rattle.fond_task.specs.declared.form.Kleene.TheVariants.{No, Yes}
use Rattle.fond_task.specs.Values.{value}
use Rattle.fond_task.specs.Within.{is_form_within}
use Rattle.fond_ground.specs.Atoms.{atom_number, fluent_atoms, is_same_atom}
use Rattle.fond_ground.specs.Signs.{signed}
use Rattle.fond_ground.specs.Values.{atom_value, value_or}
use Rattle.fond_ground.proofs.Withins.{within-Lit, value-Truth}

-- the number of an atom is below that of the atoms
pub number_below : (task : LiftedTask) (atom : Atom) (number : ℕ) → atom_number task atom ≡ Some number → number < length (fluent_atoms task)
number_below task atom number is = (position-Some (is_same_atom atom) (fluent_atoms task) number atom is).0

pub literal_within : (task : LiftedTask) (atom : Atom) (number : ℕ) (sign : Bool) → Some number ≡ atom_number task atom → is_form_within (length (fluent_atoms task)) (Lit number sign) ≡ true
literal_within task atom number sign is =
    let below = number_below task atom number (sym is) in
    let test : nat_lt number (length (fluent_atoms task)) ≡ true = grind (arith, nat_tests) in
    within-Lit (length (fluent_atoms task)) number sign ∙ test

constant : (is_initial sign : Bool) → (if beq is_initial sign then Yes else No) ≡ signed sign (if is_initial then Yes else No)
constant true true = refl
constant true false = refl
constant false true = refl
constant false false = refl

-- a static atom is constant
pub static_literal : (task : LiftedTask) (atom : Atom) (cube : List (Option Bool)) (is_initial sign : Bool) → None ≡ atom_number task atom → is_initial ≡ set.contains (initial task) atom
    → value cube (Truth (beq is_initial sign)) ≡ signed sign (atom_value task cube atom)
static_literal task atom cube is_initial sign none is =
    value-Truth cube (beq is_initial sign) ∙ constant is_initial sign ∙ ap (λ b. signed sign (if b then Yes else No)) is ∙ ap (λ number. signed sign (value_or cube (static_value task atom) number)) none

-- the numbers after the first
pub tail_of : (numbers objects : List ℕ) (predicate : ℕ) → numbers ≡ predicate ∷ objects → take (length numbers - 1) (drop 1 numbers) ≡ objects
tail_of numbers objects predicate is =
    ap (λ list. take (length list - 1) (drop 1 list)) is ∙ take_all (length (predicate ∷ objects) - 1) objects (omega arith)
