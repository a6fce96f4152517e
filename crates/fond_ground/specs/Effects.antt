-- Ground effects, and the effects that have them.
use Rattle.std.specs.Prelude.{◌≡◌, ◌==◌, ◌&&◌, ℕ, Bool, true, not, List, ◌++◌, Option, Some, is_some, map, length}
use Rattle.std.specs.List.{AllZip, list_all}
use Rattle.fond_ast.specs.Ranges.{objects_of}
use Rattle.fond_ast.specs.declared.form.LEffect.{LEffect}
use Rattle.fond_ast.specs.declared.form.LEffect.TheOpen.{LEffect-F, Nothing, Add, Delete, And, Forall, When, OneOf}
use Rattle.fond_ast.specs.declared.form.LEffect.TheFolds.{fold-LEffect}
use Rattle.fond_ast.specs.declared.task.LiftedTask.{LiftedTask}
use Rattle.fond_join.specs.Values.{condition_value}
use Rattle.fond_ast.specs.Conditions.{ground_atom, tuples}
use Rattle.fond_ast.specs.Outcomes.{Literal}
use Rattle.fond_oneof.specs.Outcomes as ground
use Rattle.fond_oneof.specs.Within.{has_members, is_effect_over}
use Rattle.fond_oneof.specs.declared.effect.GroundEffect.{GroundEffect}
use Rattle.fond_task.specs.Values.{least, value}
use Rattle.fond_ground.specs.Atoms.{atom_number, fluent_atoms}
use Rattle.fond_ground.specs.Values.{atom_value}

abbrev pub numbered_step : LiftedTask → LEffect-F (List ℕ → Bool) → List ℕ → Bool
numbered_step task Nothing env = true
numbered_step task (Add atom) env = is_some (atom_number task (ground_atom env atom))
numbered_step task (Delete atom) env = is_some (atom_number task (ground_atom env atom))
numbered_step task (And parts) env = list_all (λ part. part env) parts.items
numbered_step task (Forall ranges part) env = list_all (λ objects. part.value (env ++ objects)) (tuples (objects_of ranges))
numbered_step task (When condition part) env = part.value env
numbered_step task (OneOf parts) env = not (length parts.items == 0) && list_all (λ part. part env) parts.items

-- whether the atom of each literal of an effect is a fluent atom, and each choice has a member, by the objects of the
-- variables around the effect
abbrev pub numbered_by : LiftedTask → LEffect → List ℕ → Bool
numbered_by task = fold-LEffect (List ℕ → Bool) (numbered_step task)

-- the same, where these are the objects of the variables around the effect
abbrev pub is_numbered : LiftedTask → List ℕ → LEffect → Bool
is_numbered task env effect = numbered_by task effect env

-- a literal over the numbers of atoms stands for a literal of an outcome: it has the number of its atom, and its sign, and
-- on every cube the least of the values of its conditions is that of the literal's conditions
pub record StandsForLiteral (task : LiftedTask) (literal : Literal) (number : ground.Literal) : Type 0 where
  pub numbered : atom_number task literal.atom ≡ Some number.atom
  pub signed : number.add ≡ literal.add
  pub valued : (cube : List (Option Bool)) → least (map (value cube) number.conditions) ≡ least (map (λ guard. condition_value (atom_value task cube) guard.env guard.condition) literal.guards)

-- a ground effect has these outcomes, each of its choices has a member, and it is over the fluent atoms
pub record HasOutcomes (task : LiftedTask) (lists : List (List Literal)) (effect : GroundEffect) : Type 0 where
  pub outcomes : AllZip (AllZip (StandsForLiteral task)) lists (ground.outcome_lists effect)
  pub members : has_members effect ≡ true
  pub over : is_effect_over (length (fluent_atoms task)) effect ≡ true

-- ground effects have these lists of outcomes, place by place
abbrev pub HaveOutcomes : LiftedTask → List (List (List Literal)) → List GroundEffect → Type 0
HaveOutcomes task = AllZip (HasOutcomes task)
