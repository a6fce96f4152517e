-- Reached states have the task's length, and the next state of one lies in the image.
use Rattle.std.proofs.Common.{◌≡◌, ℕ, List, Bool, true, Option, Some, length, ap, ◌∙◌}
use Rattle.std.specs.Prelude.{◌&&◌, ◌||◌, not, slice_get, Contains}
use Rattle.std.specs.List.{list_all}
use Rattle.std.proofs.lemmas.Bool.{and_parts}
use Rattle.fond_state.specs.Cubes.{LiesIn}
use Rattle.fond_task.specs.declared.task.Act.{Act}
use Rattle.fond_task.specs.declared.task.Entry.{Entry}
use Rattle.fond_task.specs.declared.task.Task.{Task}
use Rattle.fond_task.specs.Within.{is_entry_within, is_act_within}
use Rattle.fond_task.specs.Steps.{adds, deletes, next_state}
use Rattle.fond_task.specs.Images.{image}
use Rattle.fond_task.proofs.Found.{all_at}
use Rattle.fond_task.proofs.Indices.{length-by_index}
use Rattle.fond_task.proofs.Nexts.{image_holds_next}
use Rattle.fond_task.specs.Policies.{Policy, Reach, start, onward}
use Rattle.fond_task.proofs.Lists.{number_of}

pub length-next_state : (state : List Bool) (outcome : List Entry) → length (next_state state outcome) ≡ length state
length-next_state state outcome = length-by_index (λ atom value. adds state outcome atom || (value && not (deletes state outcome atom))) state

-- each reached state has a truth value for each atom
pub reached_long : (task : Task) (policy : Policy) (state : List Bool) → Reach task policy state → length state ≡ length task.atoms
reached_long task policy state start = task.init_long
reached_long task policy state (onward before number after reached open_ chosen next) =
    ap length next.given ∙ length-next_state before next.outcome ∙ reached_long task policy before reached

-- if a state over all atoms lies in a cube, its next states lie in the cube's images
pub next_lies : (task : Task) (state : List Bool) (cube : List (Option Bool)) (act : Act) (number : ℕ) (outcome : List Entry) → length state ≡ length task.atoms → slice_get task.acts number ≡ Some act → Contains act.outcomes outcome →
    LiesIn state cube → LiesIn (next_state state outcome) (image cube outcome)
next_lies task state cube act number outcome long numbered one lies =
    let act_within : is_act_within (length task.atoms) act ≡ true = all_at (is_act_within (length task.atoms)) task.acts number act task.acts_within numbered in
    let outcomes_within = (and_parts _ _ act_within).1 in
    let at = number_of act.outcomes outcome one in
    let outcome_within : list_all (is_entry_within (length task.atoms)) outcome ≡ true = all_at (list_all (is_entry_within (length task.atoms))) act.outcomes at.0 outcome outcomes_within at.1 in
    image_holds_next state cube outcome (ap (λ n. list_all (is_entry_within n) outcome) long ∙ outcome_within) lies
