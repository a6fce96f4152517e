use Rattle.fond_commands.proofs.Answered.{has_successors, has_none}
use Rattle.fond_commands.proofs.succ.successors.Goals as goal

pub returns-in_ok-bytes : goal.returns-in_ok-bytes
returns-in_ok-bytes c =
    has_successors c.args.task.now c.args.action.now c.new-text.result c.add.new.self c.put_successors.new.text c.in_ok-put_successors.field-0 c.in_ok-bytes.bytes.items c.new.result c.if-branch.true c.new-text.ensures c.add.ensures
    c.in_ok-put_successors.ensures.ok c.in_ok-bytes.ensures.ok c.new.ensures

pub returns-else-branch : goal.returns-else-branch
returns-else-branch c =
    has_none c.args.task.now c.args.action.now c.add.new.self c.put_successors.new.text c.in_ok-put_successors.field-0 c.line.result c.if-branch.false c.in_ok-put_successors.ensures.ok c.line.ensures
