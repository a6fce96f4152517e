use Rattle.std.proofs.Common.{[], ℕ, ◌+◌, List, ◌≡◌, ap, ◌∙◌, subst, length, Vec, Global, arith}
use Rattle.fond_games.specs.Walks.{stay}
use Rattle.fond_games.specs.Levels.{level_at}
use Rattle.fond_games.specs.Visits.{IsTouring}
use Rattle.fond_games.proofs.Walking.{through, one_step}
use Rattle.fond_games.proofs.Touring.{is_within, touring_none, comes_to, touring_on, touring_past, touring_done, touring_by, sound}
use Rattle.fond_games.proofs.tour.tour.Goals.{then-level_of-gt0+in_ok-at, else-level_of-gt0}
use Rattle.fond_games.proofs.tour.tour.Goals as goal

pub loop-node-init : goal.loop-node-init
loop-node-init c = touring_by c.args.graph.now c.args.knot 0 [] c.new-walk.result.items c.args.knot c.args.knot c.new-walk.ensures.items (λ i. c.args.knot) (touring_none c.args.graph.now c.args.knot c.requires.recurrent)

pub visit-requires-clause-back : goal.visit-requires-clause-back
visit-requires-clause-back c =
    let is : c.level_of.result ≡ level_at c.in_ok-table.table.items c.args.knot = c.level_of.ensures ∙ ap (λ (t : List ℕ). level_at t c.args.knot) c.deref.ensures.value in
    let on = sound c.args.graph.now c.loop-node.node c.in_ok-table.table.items c.in_ok-table.ensures c.args.knot (omega (arith, is, c.if-level_of-gt0.true)) in
    λ after edge. comes_to c.args.graph.now c.args.knot c.requires.recurrent after c.loop-node.node (through c.args.knot c.loop-node.node after on (one_step c.loop-node.node after edge)) on

pub visit-requires-clause-reached : goal.visit-requires-clause-reached
visit-requires-clause-reached c =
    let is : c.level_of.result ≡ level_at c.in_ok-table.table.items c.args.knot = c.level_of.ensures ∙ ap (λ (t : List ℕ). level_at t c.args.knot) c.deref.ensures.value in
    let on = sound c.args.graph.now c.loop-node.node c.in_ok-table.table.items c.in_ok-table.ensures c.args.knot (omega (arith, is, c.if-level_of-gt0.true)) in
    comes_to c.args.graph.now c.args.knot c.requires.recurrent c.loop-node.at c.loop-node.node (c.loop-node.walk.items, c.loop-node.invariant.walked) on

pub loop-node-preserved : goal.loop-node-preserved
loop-node-preserved c =
    let graph = c.args.graph.now in
    let knot = c.args.knot in
    let node = c.loop-node.node in
    let walk = c.loop-node.walk.items in
    let at = c.loop-node.at in
    let is : c.level_of.result ≡ level_at c.in_ok-table.table.items knot = c.level_of.ensures ∙ ap (λ (t : List ℕ). level_at t knot) c.deref.ensures.value in
    elim c.if-level_of-gt0.branch [
      | then-level_of-gt0+in_ok-at w ↦
          touring_by graph knot (node + 1) w.visit.new.walk.items c.if-level_of-gt0.walk.items w.in_ok-at.at c.if-level_of-gt0.at (ap (λ (v : Vec ℕ Global). v.items) w.walk-is) w.at-is
          (touring_on graph knot c.requires.recurrent node walk at w.visit.new.walk.items w.in_ok-at.at c.loop-node.invariant w.in_ok-at.ensures)
      | else-level_of-gt0 w ↦
          touring_by graph knot (node + 1) walk c.if-level_of-gt0.walk.items at c.if-level_of-gt0.at (ap (λ (v : Vec ℕ Global). v.items) w.walk-is) w.at-is
          (touring_past graph knot c.requires.recurrent node walk at c.in_ok-table.table.items c.loop-node.invariant c.in_ok-table.ensures (omega (arith, is, w.if-level_of-gt0.false)))
    ]

pub toward-requires-2-clause-there : goal.toward-requires-2-clause-there
toward-requires-2-clause-there c = is_within c.args.graph.now c.args.knot c.requires.goes_on c.args.knot ([], stay c.args.knot)

pub returns : goal.returns
returns c =
    let graph = c.args.graph.now in
    let knot = c.args.knot in
    let same : c.loop-node.node ≡ length graph = omega arith in
    touring_done graph knot c.requires.recurrent c.requires.goes_on c.loop-node.walk.items c.loop-node.at c.walk_down.new.walk.items c.push.new.self.items
    (subst (λ n. IsTouring graph knot n c.loop-node.walk.items c.loop-node.at) same c.loop-node.invariant) c.in_ok-walk_down.ensures c.in_ok-push.ensures.items
