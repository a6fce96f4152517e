use Rattle.std.proofs.Common.{None, length, replicate, ap, sym, ◌∙◌}
use Rattle.fond_task.specs.declared.task.Task.{Task}
use Rattle.fond_cert.proofs.Cubes.{all_left, one_read, one_refused, all_read}
use Rattle.fond_cert.proofs.literal.read_literals.Goals as goal

pub loop-sign-init : goal.loop-sign-init
loop-sign-init c = all_left _ _ _ c.requires.spelled _ (c.in_ok-whole_cube.ensures ∙ ap (λ (task : Task). replicate (length task.atoms) None) c.task.ensures)

pub returns-in_default-atom-clause-wrong : goal.returns-in_default-atom-clause-wrong
returns-in_default-atom-clause-wrong c = one_refused _ _ _ _ _ _ _ c.loop-sign.invariant _ _ _ c.in-Some.ensures (sym c.in_default-atom.ensures)

pub loop-sign-preserved : goal.loop-sign-preserved
loop-sign-preserved c =
    let put = c.put.ensures in
    rw (put.cube, put.last, put.ordered) (one_read _ _ _ _ _ _ _ c.loop-sign.invariant _ _ _ c.in-Some.ensures _ c.in-Some-atom.ensures)

pub returns-clause-read : goal.returns-clause-read
returns-clause-read c = all_read _ _ _ _ _ _ _ c.loop-sign.invariant c.in_default.ensures
