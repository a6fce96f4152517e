use Rattle.std.proofs.Common.{◌≡◌, ◌∙◌, length, map, ap, arith}
use Rattle.std.proofs.lemmas.List.{length-map}
use Rattle.std.proofs.lemmas.Option.{slice_get_within}
use Rattle.fond_reach.specs.declared.node.Node.TheVariants.{Stuck}
use Rattle.fond_task.specs.Policies.{game}
use Rattle.fond_lasso.specs.Flat.{edges_of, kind_of}
use Rattle.fond_lasso.proofs.Drawn.{rooted}
use Rattle.fond_lasso.proofs.Nodes.{are_reached, drawn, have_acts, held_finding, listed, long, moving, ranked_finding, stuck_finding}
use Rattle.fond_lasso.proofs.explain.explain.Goals as goal

pub kinds_of-requires : goal.kinds_of-requires
kinds_of-requires g c =
    let found = rw c.in-Some.is at c.in_ok-reached.ensures in
    let all = have_acts c.args.t.now (g.C.Chooser.policy c.args.chooser.now) c.in-Some.reached.states c.in-Some.reached.nodes.items found.0 in
    rw c.deref.ensures.value all

pub first_stuck-stuck-requires : goal.first_stuck-stuck-requires
first_stuck-stuck-requires g c =
    let found = rw c.in-Some.is at c.in_ok-reached.ensures in
    let counted = long c.args.t.now (g.C.Chooser.policy c.args.chooser.now) c.in-Some.reached.states c.in-Some.reached.nodes.items found.0 in
    let same = ap length c.deref-2.ensures.value in
    omega (arith, counted, same, found.1, c.requires.small)

pub stem_to-requires-clause-few : goal.stem_to-requires-clause-few
stem_to-requires-clause-few g c =
    let found = rw c.in-Some.is at c.in_ok-reached.ensures in
    let edges = drawn c.args.t.now (g.C.Chooser.policy c.args.chooser.now) c.in-Some.reached.states c.in-Some.reached.nodes.items found.0 c.in_ok-graph.graph c.in_ok-graph.ensures in
    omega (arith, edges.long, found.1, c.requires.small)

pub stem_to-requires-clause-there : goal.stem_to-requires-clause-there
stem_to-requires-clause-there g c =
    let within = slice_get_within c.deref-2.result.now c.in-Some-stuck.node Stuck c.in-Some-stuck.ensures.found in
    let same = ap length c.deref-2.ensures.value in
    let made : length c.in_ok-graph.graph ≡ length c.in-Some.reached.nodes.items = ap length c.in_ok-graph.ensures ∙ length-map c.in-Some.reached.nodes.items edges_of in
    omega (arith, within, same, made)

pub stem_to-requires-clause-reached : goal.stem_to-requires-clause-reached
stem_to-requires-clause-reached g c =
    let task = c.args.t.now in
    let policy = g.C.Chooser.policy c.args.chooser.now in
    let states = c.in-Some.reached.states in
    let nodes = c.in-Some.reached.nodes.items in
    let graph = c.in_ok-graph.graph in
    let found = rw c.in-Some.is at c.in_ok-reached.ensures in
    let within = slice_get_within c.deref-2.result.now c.in-Some-stuck.node Stuck c.in-Some-stuck.ensures.found in
    let same = ap length c.deref-2.ensures.value in
    let made : length graph ≡ length nodes = ap length c.in_ok-graph.ensures ∙ length-map nodes edges_of in
    let all = rooted (game task) policy states (listed task policy states nodes found.0) graph (drawn task policy states nodes found.0 graph c.in_ok-graph.ensures) in
    all.reaches c.in-Some-stuck.node (omega (arith, within, same, made))

pub returns-in-Some-stuck : goal.returns-in-Some-stuck
returns-in-Some-stuck g c =
    let task = c.args.t.now in
    let policy = g.C.Chooser.policy c.args.chooser.now in
    let states = c.in-Some.reached.states in
    let nodes = c.in-Some.reached.nodes.items in
    let found = rw c.in-Some.is at c.in_ok-reached.ensures in
    let at = rw c.deref-2.ensures.value at c.in-Some-stuck.ensures.found in
    let shown = stuck_finding task policy states nodes found.0 c.in_ok-graph.graph c.in_ok-graph.ensures c.in-Some-stuck.node c.in_ok-stem.stem.items at c.in_ok-stem.ensures in
    (are_reached task policy states nodes found.0 c.args.limit found.1, shown.0, shown.1)

pub judge-requires-clause-few : goal.judge-requires-clause-few
judge-requires-clause-few g c =
    let found = rw c.in-Some.is at c.in_ok-reached.ensures in
    let edges = drawn c.args.t.now (g.C.Chooser.policy c.args.chooser.now) c.in-Some.reached.states c.in-Some.reached.nodes.items found.0 c.in_ok-graph.graph c.in_ok-graph.ensures in
    omega (arith, edges.long, found.1, c.requires.small)

pub judge-requires-clause-moves_on : goal.judge-requires-clause-moves_on
judge-requires-clause-moves_on g c =
    let task = c.args.t.now in
    let nodes = c.in-Some.reached.nodes.items in
    let found = rw c.in-Some.is at c.in_ok-reached.ensures in
    let none = rw c.deref-2.ensures.value at c.in_default-stuck.ensures.none in
    let kinds : c.deref-3.result.now ≡ map (kind_of task) nodes = c.deref-3.ensures.value ∙ c.in_ok-kinds.ensures ∙ ap (map (kind_of task)) c.deref.ensures.value in
    moving task (g.C.Chooser.policy c.args.chooser.now) c.in-Some.reached.states nodes found.0 none c.deref-3.result.now kinds c.in_ok-graph.graph c.in_ok-graph.ensures

pub judge-requires-clause-rooted : goal.judge-requires-clause-rooted
judge-requires-clause-rooted g c =
    let task = c.args.t.now in
    let policy = g.C.Chooser.policy c.args.chooser.now in
    let states = c.in-Some.reached.states in
    let nodes = c.in-Some.reached.nodes.items in
    let found = rw c.in-Some.is at c.in_ok-reached.ensures in
    rooted (game task) policy states (listed task policy states nodes found.0) c.in_ok-graph.graph (drawn task policy states nodes found.0 c.in_ok-graph.graph c.in_ok-graph.ensures)

pub returns-in-Levelled : goal.returns-in-Levelled
returns-in-Levelled g c =
    let task = c.args.t.now in
    let policy = g.C.Chooser.policy c.args.chooser.now in
    let states = c.in-Some.reached.states in
    let nodes = c.in-Some.reached.nodes.items in
    let found = rw c.in-Some.is at c.in_ok-reached.ensures in
    let none = rw c.deref-2.ensures.value at c.in_default-stuck.ensures.none in
    let kinds : c.deref-3.result.now ≡ map (kind_of task) nodes = c.deref-3.ensures.value ∙ c.in_ok-kinds.ensures ∙ ap (map (kind_of task)) c.deref.ensures.value in
    let judged = rw c.in-Levelled.is at c.in_ok-levels.ensures in
    let shown = ranked_finding task policy states nodes found.0 none c.deref-3.result.now kinds c.in_ok-graph.graph c.in_ok-graph.ensures c.in-Levelled.levels.items judged.0 judged.1 in
    (are_reached task policy states nodes found.0 c.args.limit found.1, shown.0, shown.1)

pub returns : goal.returns
returns g c =
    let task = c.args.t.now in
    let policy = g.C.Chooser.policy c.args.chooser.now in
    let states = c.in-Some.reached.states in
    let nodes = c.in-Some.reached.nodes.items in
    let found = rw c.in-Some.is at c.in_ok-reached.ensures in
    let none = rw c.deref-2.ensures.value at c.in_default-stuck.ensures.none in
    let kinds : c.deref-3.result.now ≡ map (kind_of task) nodes = c.deref-3.ensures.value ∙ c.in_ok-kinds.ensures ∙ ap (map (kind_of task)) c.deref.ensures.value in
    let judged = rw c.in-Held.is at c.in_ok-levels.ensures in
    let shown = held_finding task policy states nodes found.0 none c.deref-3.result.now kinds c.in_ok-graph.graph c.in_ok-graph.ensures c.in-Held.stem.items c.in-Held.cycle.items judged in
    (are_reached task policy states nodes found.0 c.args.limit found.1, shown.0, shown.1, shown.2)
