-- The outcomes of ground effects: for each outcome its literals, in order, each with the conditions joined to it.
use Rattle.std.specs.Prelude.{◌≡◌, ℕ, Bool, List, [], ◌∷◌, Option, map}
use Rattle.std.specs.List.{AllZip, flat_map}
use Rattle.fond_text.specs.Lists.{concatenations}
use Rattle.fond_task.specs.declared.form.Form.{Form}
use Rattle.fond_task.specs.declared.task.Entry.{Entry}
use Rattle.fond_task.specs.Values.{least, value}
use Rattle.fond_oneof.specs.declared.effect.GroundEffect.{GroundEffect}
use Rattle.fond_oneof.specs.declared.effect.GroundEffect.TheOpen.{GroundEffect-F, Literal as LiteralOf, And, OneOf, When}
use Rattle.fond_oneof.specs.declared.effect.GroundEffect.TheFolds.{fold-GroundEffect}

-- a literal of an outcome: its atom and its sign, and the conditions around it
pub record Literal : Type 0 where
  pub conditions : List Form
  pub atom : ℕ
  pub add : Bool

-- a literal under one more condition
abbrev pub guarded : Form → Literal → Literal
guarded condition literal = record literal { conditions = condition ∷ literal.conditions }

abbrev pub outcomes_step : GroundEffect-F (List (List Literal)) → List (List Literal)
outcomes_step (LiteralOf atom add) = (record { conditions = []; atom = atom; add = add } ∷ []) ∷ []
outcomes_step (And parts) = concatenations parts.items
outcomes_step (OneOf parts) = flat_map (λ part. part) parts.items
outcomes_step (When condition part) = map (map (guarded condition)) part.value

-- the outcomes of an effect, in order: a literal has one, a conjunction all concatenations of one of each part, the last
-- part varying fastest, a choice those of its members, one after the other, and a conditional effect those of its part under
-- its condition
abbrev pub outcome_lists : GroundEffect → List (List Literal)
outcome_lists = fold-GroundEffect (List (List Literal)) outcomes_step

-- an entry is that of a literal: it has its atom and its sign, and on each cube its condition has the least of the values
-- of the literal's conditions
pub record IsEntryOf (literal : Literal) (entry : Entry) : Type 0 where
  pub numbered : entry.atom ≡ literal.atom
  pub signed : entry.add ≡ literal.add
  pub valued : (cube : List (Option Bool)) → value cube entry.cond ≡ least (map (value cube) literal.conditions)

-- the entries of outcomes are those of lists of literals, place by place
abbrev pub AreOutcomesOf : List (List Literal) → List (List Entry) → Type 0
AreOutcomesOf = AllZip (AllZip IsEntryOf)
