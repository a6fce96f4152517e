use Rattle.std.proofs.Common.{◌≡◌, ◌∙◌, length, ap, arith}
use Rattle.fond_task.proofs.Lists.{same_numbered}
use Rattle.fond_task.specs.declared.task.Act.{Act}
use Rattle.fond_exec.proofs.Chosen.{counted_outcomes}
use Rattle.fond_exec.proofs.simulator.Simulator.step.Goals as goal

pub pick-outcome-requires : goal.pick-outcome-requires
pick-outcome-requires g c =
    let run = c.args.self.now.run in
    let own = c.in-Chosen.ensures.2 in
    let counted = counted_outcomes run.task c.in-Chosen.act own.0 own.1.numbered in
    (c.requires.chooser c.args.self.now.steps c.in-Chosen.count (omega (arith, c.requires.few)) (omega (arith, counted.0, own.2)) (omega (arith, counted.1, own.2))).0

pub take-requires-clause-one : goal.take-requires-clause-one
take-requires-clause-one g c =
    let run = c.args.self.now.run in
    let own = c.in-Chosen.ensures.2 in
    let counted = counted_outcomes run.task c.in-Chosen.act own.0 own.1.numbered in
    (c.requires.chooser c.args.self.now.steps c.in-Chosen.count (omega (arith, c.requires.few)) (omega (arith, counted.0, own.2)) (omega (arith, counted.1, own.2))).1 c.pick-outcome.result c.pick-outcome.ensures

pub returns-in-Chosen-clause-step : goal.returns-in-Chosen-clause-step
returns-in-Chosen-clause-step g c =
    let run = c.args.self.now.run in
    let own = c.in-Chosen.ensures.2 in
    let taken = c.take.ensures.taken in
    let same : own.0 ≡ taken.act = same_numbered run.task.acts c.in-Chosen.act own.0 taken.act own.1.numbered taken.chosen.numbered in
    let counted : c.in-Chosen.count ≡ length taken.act.outcomes = own.2 ∙ ap (λ (a : Act). length a.outcomes) same in
    (taken, rw counted at c.pick-outcome.ensures)
