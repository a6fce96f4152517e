-- Schemas whose kept actions have few outcomes.
use Rattle.std.specs.Prelude.{◌≡◌, ℕ, nat_le, Bool, true, false, List, length}
use Rattle.std.specs.List.{list_all}
use Rattle.fond_text.specs.declared.code.TheConstants.{MOST_OUTCOMES, TOO_MANY_OUTCOMES}
use Rattle.fond_text.specs.declared.fault.Fault.{Fault}
use Rattle.fond_ast.specs.declared.form.LEffect.{LEffect}
use Rattle.fond_ast.specs.declared.task.LSchema.{LSchema}
use Rattle.fond_ast.specs.declared.task.LiftedTask.{LiftedTask}
use Rattle.fond_join.specs.Kept.{kept_args}
use Rattle.fond_ast.specs.Outcomes.{outcomes}
use Rattle.fond_ground.specs.Faults.{at_domain}

-- whether an effect has at most 256 outcomes, where these are the objects of the variables around it
abbrev pub has_few : LEffect → List ℕ → Bool
has_few effect objects = nat_le (length (outcomes objects effect)) MOST_OUTCOMES

-- whether each kept action of a schema has at most 256 outcomes
abbrev pub has_few_outcomes : LiftedTask → LSchema → Bool
has_few_outcomes task schema = list_all (has_few schema.effect) (kept_args task schema)

-- a fault is that of a schema of which some kept action has more than 256 outcomes, while no kept action of an earlier schema
-- has
abbrev pub IsFirstMany : LiftedTask → Fault → List LSchema → LSchema → Type 0
IsFirstMany task fault before schema = (list_all (has_few_outcomes task) before ≡ true) × (has_few_outcomes task schema ≡ false) × (fault ≡ at_domain schema.place TOO_MANY_OUTCOMES)
