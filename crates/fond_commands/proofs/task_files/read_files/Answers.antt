use Rattle.std.proofs.Common.{inl, inr}
use Rattle.fond_text.specs.declared.fault.Fault.{Fault}
use Rattle.fond_front.specs.Tasks.{IsFirstFault}
use Rattle.fond_front.proofs.Tasks.{handed_on, refuses_also}
use Rattle.fond_ground.specs.Faults.{IsGroundFault}
use Rattle.fond_commands.specs.Tasks.{IsRefusal}
use Rattle.fond_commands.proofs.task_files.read_files.Goals as goal

pub returns-in_err-task-clause-refused : goal.returns-in_err-task-clause-refused
returns-in_err-task-clause-refused c =
    let texts = c.args.texts.now in
    let error = c.in_err-task.field-0.0 in
    handed_on _ error (IsRefusal texts) c.from_residual.ensures.1
    (refuses_also (IsFirstFault texts) (IsRefusal texts) (λ (fault : Fault) first. inl first) error c.in_err-task.ensures.refused)

pub returns-in_err-game-clause-refused : goal.returns-in_err-game-clause-refused
returns-in_err-game-clause-refused c =
    let texts = c.args.texts.now in
    let error = c.in_err-game.field-0.0 in
    handed_on _ error (IsRefusal texts) c.from_residual-in_err-game.ensures.1
    (refuses_also (IsGroundFault c.in_ok-task.task.value) (IsRefusal texts) (λ (fault : Fault) is. inr (c.in_ok-task.task.value, c.in_ok-task.ensures.read, is)) error (rw c.deref.ensures at c.in_err-game.ensures.refused))

pub returns-clause-read : goal.returns-clause-read
returns-clause-read c = ((c.in_ok-task.ensures.read, rw c.deref.ensures at c.in_ok-game.ensures.clean), rw c.deref.ensures at c.in_ok-game.ensures.grounded)
