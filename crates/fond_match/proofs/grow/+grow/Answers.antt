use Rattle.std.proofs.Common.{◌<◌, ℕ, All, length, map, rules, arith}
use Rattle.fond_match.proofs.Kept.{Keeps-begun, Keeps-branch_more, Keeps-leaf, Keeps-node, run_among}
use Rattle.fond_match.proofs.grow.+grow.Goals as goal

pub loop-run-init : goal.loop-run-init
loop-run-init g t c =
    Keeps-begun (map g.T.HasCube.cube c.args.items.now) c.args.numbers.items c.in_ok-rest.field-0.rest.items c.in_ok-rest.field-0.runs.items c.new-branches-2.result.items c.new-branches-2.ensures.items c.in_ok-rest.ensures

pub grow-requires : goal.grow-requires
grow-requires g t c =
    let P : ℕ → Type 0 = λ number. number < length c.args.items.now in
    let within : All P c.in-Some-pop.run'.numbers.items = run_among (map g.T.HasCube.cube c.args.items.now) P c.args.numbers.items c.in_ok-rest.field-0.rest.items c.loop-run.runs.items c.pop.new.self.items c.in-Some-pop.run'
    c.loop-run.branches.items c.in-Some-pop.ensures.items c.loop-run.invariant c.requires in
    search rules

pub loop-run-preserved : goal.loop-run-preserved
loop-run-preserved g t c =
    Keeps-branch_more (map g.T.HasCube.cube c.args.items.now) c.args.numbers.items c.in_ok-rest.field-0.rest.items c.loop-run.runs.items c.pop.new.self.items c.in-Some-pop.run' c.loop-run.branches.items c.push.new.self.items c.in_ok-grow.field-0
    c.in-Some-pop.ensures.items c.in_ok-push.ensures.items c.in_ok-grow.ensures c.loop-run.invariant

pub returns : goal.returns
returns g t c =
    Keeps-node (map g.T.HasCube.cube c.args.items.now) c.args.numbers.items (record { literal = c.args.literal; least = c.least_of-least.result; numbers = c.in_ok-rest.field-0.rest; branches = c.loop-run.branches }) c.loop-run.runs.items
    c.deref.result.now c.deref.ensures.value c.least_of-least.ensures (omega (arith, c.in_default.ensures.cases.0, c.loop-run.runs.ok.0)) c.loop-run.invariant

pub returns-then-len-le-FEW : goal.returns-then-len-le-FEW
returns-then-len-le-FEW g t c =
    Keeps-leaf (map g.T.HasCube.cube c.args.items.now) (record { literal = c.args.literal; least = c.least_of-least.result; numbers = c.args.numbers; branches = c.new-branches.result })
    c.deref.result.now c.deref.ensures.value c.least_of-least.ensures c.new-branches.ensures.items
