-- Tasks that are too large.
use Rattle.std.specs.Prelude.{◌≡◌, ℕ, ◌<◌, List, Contains, length}
use Rattle.fond_text.specs.declared.code.TheConstants.{MOST_ACTIONS, MOST_ATOMS, MOST_OUTCOMES, TOO_MANY_ACTIONS, TOO_MANY_ATOMS, TOO_MANY_OUTCOMES}
use Rattle.fond_text.specs.declared.fault.Fault.{Fault}
use Rattle.fond_text.specs.declared.place.FileKind.TheVariants.{Domain}
use Rattle.fond_text.specs.declared.place.Place.{Place}
use Rattle.fond_text.specs.Lists.{Somewhere}
use Rattle.fond_ast.specs.declared.task.LSchema.{LSchema}
use Rattle.fond_ast.specs.declared.task.LiftedTask.{LiftedTask}
use Rattle.fond_ast.specs.Outcomes.{outcomes}
use Rattle.fond_join.specs.Kept.{kept_args}
use Rattle.fond_ground.specs.Atoms.{fluent_atoms}
use Rattle.fond_ground.specs.Grounds.{kept_actions}

-- a task has more than 16,384 fluent atoms
abbrev pub HasManyAtoms : LiftedTask → Type 0
HasManyAtoms task = MOST_ATOMS < length (fluent_atoms task)

-- a task keeps more than 131,072 ground actions
abbrev pub HasManyActions : LiftedTask → Type 0
HasManyActions task = MOST_ACTIONS < length (kept_actions task)

-- a schema has a kept ground action, and more than 256 outcomes
abbrev pub HasManyOutcomes : LiftedTask → LSchema → Type 0
HasManyOutcomes task schema = (objects : List ℕ) × Contains (kept_args task schema) objects × (MOST_OUTCOMES < length (outcomes objects schema.effect))

-- a fault of a domain
abbrev pub at_domain : Place → ℕ → Fault
at_domain place code = record { file = Domain; place = place; code = code }

-- the fault of a task that is too large: F21 or F22 at the domain, or F23 at the name of the first schema with too many
-- outcomes; the first of the three that occurs
pub data IsGroundFault (task : LiftedTask) : Fault → Type 0 where
  many_atoms : HasManyAtoms task → IsGroundFault task (at_domain task.place TOO_MANY_ATOMS)
  many_actions : ¬ HasManyAtoms task → HasManyActions task → IsGroundFault task (at_domain task.place TOO_MANY_ACTIONS)
  many_outcomes : (place : Place) → ¬ HasManyAtoms task → ¬ HasManyActions task
      → Somewhere (λ before schema. ((other : LSchema) → Contains before other → ¬ HasManyOutcomes task other) × HasManyOutcomes task schema × (place ≡ schema.place)) task.schemas
      → IsGroundFault task (at_domain place TOO_MANY_OUTCOMES)
