-- The successors of the initial state of a task by a ground action.
use Rattle.std.specs.Prelude.{◌≡◌, ℕ, Bool, true, false, List, Option, Some, slice_get}
use Rattle.std.specs.List.{flat_map}
use Rattle.fond_text.specs.Text.{Adds}
use Rattle.fond_text.specs.declared.atom.GroundAction.{GroundAction}
use Rattle.fond_ast.specs.declared.task.LSchema.{LSchema}
use Rattle.fond_ast.specs.declared.task.LiftedTask.{LiftedTask}
use Rattle.fond_ast.specs.Outcomes.{successors}
use Rattle.fond_ast.specs.Solutions.{IsApplicable, initial}
use Rattle.fond_ground.specs.Texts.{state_text}

-- a text is that of the successors of the initial state by an action that is applicable there: each state to which an
-- outcome leads, once, in the order of the first outcome that does
pub record IsSuccessorsText (task : LiftedTask) (action : GroundAction) (text : List ℕ) : Type 0 where
  pub applicable : IsApplicable task (initial task) action
  pub schema : LSchema
  pub numbered : slice_get task.schemas action.schema ≡ Some schema
  pub text_is : text ≡ flat_map (state_text task) (successors (initial task) action.objects schema.effect)

-- the answer is whether the action is applicable in the initial state: if not, the text is as before, and if so, that of the
-- successors was added to it
abbrev pub AreSuccessors : LiftedTask → GroundAction → Option (List ℕ) → Option (List ℕ) → Bool → Type 0
AreSuccessors task action before after false = (¬ IsApplicable task (initial task) action) × (after ≡ before)
AreSuccessors task action before after true = (text : List ℕ) × IsSuccessorsText task action text × Adds before after text
