use Rattle.std.proofs.Common.{[], inl, ℕ, ◌≡◌, ap, subst, length, Vec, Global, arith}
use Rattle.fond_games.specs.Walks.{stay}
use Rattle.fond_games.specs.Visits.{IsSeeking}
use Rattle.fond_games.proofs.Touring.{is_within, seek_first, seek_done, seek_moved, seek_stayed, seek_past}
use Rattle.fond_games.proofs.tour.recurrent.Goals.{then-level_of-eq0+in_ok-there+then-level_of-gt0, then-level_of-eq0+in_ok-there+else-level_of-gt0, else-level_of-eq0}
use Rattle.fond_games.proofs.tour.recurrent.Goals as goal

pub toward-requires-clause-there : goal.toward-requires-clause-there
toward-requires-clause-there c = is_within c.args.graph.now c.args.from c.requires.goes_on c.args.from ([], stay c.args.from)

pub loop-node-init : goal.loop-node-init
loop-node-init c = seek_first c.args.graph.now c.args.from c.in_ok-back.back.items c.in_ok-back.ensures

pub loop-node-preserved : goal.loop-node-preserved
loop-node-preserved c =
    let graph = c.args.graph.now in
    let from = c.args.from in
    let knot = c.loop-node.knot in
    let back = c.loop-node.back.items in
    let node = c.loop-node.node in
    let copy = c.deref.result.now in
    elim c.if-level_of-eq0.branch [
      | then-level_of-eq0+in_ok-there+then-level_of-gt0 w ↦
          seek_moved graph from knot back node w.in_ok-there.there.items c.loop-node.invariant w.in_ok-there.ensures w.deref-then-level_of-eq0.result.now copy w.deref-then-level_of-eq0.ensures.value c.deref.ensures.value
          (omega (arith, w.level_of-then-level_of-eq0.ensures, w.if-level_of-gt0.true), omega (arith, c.level_of.ensures, w.if-level_of-eq0.true))
          c.if-level_of-eq0.knot c.if-level_of-eq0.back.items w.knot-is (ap (λ (v : Vec ℕ Global). v.items) w.back-is)
      | then-level_of-eq0+in_ok-there+else-level_of-gt0 w ↦
          seek_stayed graph from knot back node w.in_ok-there.there.items c.loop-node.invariant w.in_ok-there.ensures w.deref-then-level_of-eq0.result.now copy w.deref-then-level_of-eq0.ensures.value c.deref.ensures.value
          (inl (omega (arith, w.level_of-then-level_of-eq0.ensures, w.if-level_of-gt0.false)))
          c.if-level_of-eq0.knot c.if-level_of-eq0.back.items w.knot-is (ap (λ (v : Vec ℕ Global). v.items) w.back-is)
      | else-level_of-eq0 w ↦
          seek_past graph from knot back node c.loop-node.invariant copy c.deref.ensures.value (omega (arith, c.level_of.ensures, w.if-level_of-eq0.false))
          c.if-level_of-eq0.knot c.if-level_of-eq0.back.items w.knot-is (ap (λ (v : Vec ℕ Global). v.items) w.back-is)
    ]

pub returns : goal.returns
returns c =
    let same : c.loop-node.node ≡ length c.args.graph.now = omega arith in
    seek_done c.args.graph.now c.args.from c.loop-node.knot c.loop-node.back.items c.requires.goes_on (subst (λ n. IsSeeking c.args.graph.now c.args.from c.loop-node.knot c.loop-node.back.items n) same c.loop-node.invariant)
