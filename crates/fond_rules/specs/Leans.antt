-- Lean conditions: those that pass a test, and need each of their literals for it.
use Rattle.std.specs.Prelude.{◌≡◌, ℕ, List, Bool, Option, Some}
use Rattle.fond_state.specs.Cubes.{literal_at, without_literal}

-- a condition does not pass without its literal of an atom, if it has one
abbrev pub NeedsLiteral : (List (Option Bool) → Type 0) → List (Option Bool) → ℕ → Type 0
NeedsLiteral Passes cond atom = (sign : Bool) → literal_at cond atom ≡ Some sign → ¬ Passes (without_literal cond atom)

-- a condition passes, and needs each of its literals
pub record IsLean (Passes : List (Option Bool) → Type 0) (cond : List (Option Bool)) : Type 0 where
  pub passes : Passes cond
  pub needed : (atom : ℕ) → NeedsLiteral Passes cond atom
