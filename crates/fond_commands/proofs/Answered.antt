-- The replies to a ground action.
use Rattle.std.proofs.Common.{◌≡◌, ℕ, ◌++◌, ◌∙◌, Bool, true, false, List, [], Option, Some, Result, Ok, Err, IfOk, sym, subst}
use Rattle.fond_text.specs.Text.{Adds}
use Rattle.fond_text.proofs.Adding.{adds_then, whole_is}
use Rattle.std.specs.Prelude.{codes}
use Rattle.fond_text.specs.declared.atom.GroundAction.{GroundAction}
use Rattle.fond_text.specs.declared.fault.NoMemory.{NoMemory}
use Rattle.fond_ast.specs.declared.task.LiftedTask.{LiftedTask}
use Rattle.fond_succ.specs.Successors.{AreSuccessors}
use Rattle.fond_commands.specs.declared.status.Ending.TheVariants.{Done}
use Rattle.fond_commands.specs.Replies.{Reply, line_reply}
use Rattle.fond_commands.specs.Successors.{AnswersAction}

pub has_successors : (task : LiftedTask) (action : GroundAction) (empty before after : Option (List ℕ)) (applicable : Bool) (bytes : List ℕ) (reply : Reply) → applicable ≡ true → empty ≡ Some []
    → Adds empty before (codes "applicable yes\n") → AreSuccessors task action before after applicable → after ≡ Some bytes → reply ≡ record { text = bytes; ending = Done } → AnswersAction task action reply
has_successors task action empty before after true bytes reply is begins said successors whole same =
    let front : Adds (Some []) before (codes "applicable yes\n") = subst (λ t. Adds t before (codes "applicable yes\n")) begins said in
    let text : bytes ≡ codes "applicable yes\n" ++ successors.0 = whole_is after _ bytes (adds_then (Some []) before after _ _ front successors.2) whole in
    subst (AnswersAction task action) (sym (same ∙ (λ i. record { text = text i; ending = Done }))) (AnswersAction.successors successors.0 successors.1)
has_successors task action empty before after false bytes reply is begins said successors whole same = cc

pub has_none : (task : LiftedTask) (action : GroundAction) (before after : Option (List ℕ)) (applicable : Bool) (line : Result Reply NoMemory) → applicable ≡ false → AreSuccessors task action before after applicable
    → IfOk line (λ reply. reply ≡ line_reply (codes "applicable no") Done) → IfOk line (AnswersAction task action)
has_none task action before after false (Ok reply) is none same = subst (AnswersAction task action) (sym same) (AnswersAction.inapplicable none.0)
has_none task action before after false (Err e) is none same = tt
has_none task action before after true line is none same = cc
