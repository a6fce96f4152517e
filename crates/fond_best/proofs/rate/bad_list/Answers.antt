use Rattle.std.proofs.Common.{List, arith}
use Rattle.fond_task.specs.Layers.{CubeView}
use Rattle.fond_layers.specs.Far.{IsFarList, list_before}
use Rattle.fond_policy.proofs.Beginning.{before_all, element_at}
use Rattle.fond_best.proofs.rate.bad_list.Goals as goal

pub returns-in-Some : goal.returns-in-Some
returns-in-Some c =
    let there = element_at c.args.far.now c.loop-at.at (omega (arith, c.loop-at-test.true, c.len-at-end.ensures)) in
    record { cubes = there.0; has_cubes = there.1; wrong = c.in-Some.ensures.spot there.0 there.1; first = c.loop-at.invariant.far }

pub returns : goal.returns
returns c =
    let far = c.args.far.now in
    before_all far (λ n cubes. IsFarList c.args.t.now c.args.layers.now (list_before far n) cubes) c.loop-at.at (omega (arith, c.loop-at-test.false, c.len-at-end.ensures)) c.loop-at.invariant.far
