use Rattle.std.proofs.Common.{◌≡◌, ◌∙◌, ◌<◌, length, sym, subst}
use Rattle.std.proofs.lemmas.Option.{get_or_from_slice_get}
use Rattle.fond_games.specs.Graphs.{IsEdge}
use Rattle.fond_games.specs.Walks.{IsInReach}
use Rattle.fond_lasso.specs.Judged.{IsStem}
use Rattle.fond_lasso.proofs.Cycles.{begins_knotted, goes_on, knot_within}
use Rattle.fond_lasso.proofs.judge.held.Goals as goal

pub closed_walk-requires-clause-goes_on : goal.closed_walk-requires-clause-goes_on
closed_walk-requires-clause-goes_on c = goes_on c.args.kinds.now c.args.graph.now c.args.table.now c.in_ok-edges.edges c.in_ok-edges.ensures c.requires.rooted c.args.from c.requires.none c.requires.there

pub stem_to-requires-clause-there : goal.stem_to-requires-clause-there
stem_to-requires-clause-there c =
    let tour = c.in_ok-cycle.ensures in
    let cycle = c.in_ok-cycle.cycle.items in
    let same : c.index.result.now ≡ tour.knot = c.index.ensures ∙ get_or_from_slice_get cycle 0 tour.knot c.index.result.now (begins_knotted c.in_ok-edges.edges c.args.from cycle tour) in
    subst (λ n. n < length c.args.graph.now) (sym same) (knot_within c.args.kinds.now c.args.graph.now c.args.table.now c.in_ok-edges.edges c.in_ok-edges.ensures c.requires.rooted c.args.from cycle tour)

pub stem_to-requires-clause-reached : goal.stem_to-requires-clause-reached
stem_to-requires-clause-reached c =
    let tour = c.in_ok-cycle.ensures in
    let cycle = c.in_ok-cycle.cycle.items in
    let same : c.index.result.now ≡ tour.knot = c.index.ensures ∙ get_or_from_slice_get cycle 0 tour.knot c.index.result.now (begins_knotted c.in_ok-edges.edges c.args.from cycle tour) in
    let within = knot_within c.args.kinds.now c.args.graph.now c.args.table.now c.in_ok-edges.edges c.in_ok-edges.ensures c.requires.rooted c.args.from cycle tour in
    subst (λ n. IsInReach (IsEdge c.args.graph.now) 0 n) (sym same) (c.requires.rooted.reaches tour.knot within)

pub returns : goal.returns
returns c =
    let tour = c.in_ok-cycle.ensures in
    let cycle = c.in_ok-cycle.cycle.items in
    let same : c.index.result.now ≡ tour.knot = c.index.ensures ∙ get_or_from_slice_get cycle 0 tour.knot c.index.result.now (begins_knotted c.in_ok-edges.edges c.args.from cycle tour) in
    record {
      table = c.args.table.now;
      levels = c.requires.levels;
      kept = c.in_ok-edges.edges;
      keeps = c.in_ok-edges.ensures;
      from = c.args.from;
      tour = tour;
      stemmed = subst (λ n. IsStem c.args.graph.now n c.in_ok-stem.stem.items) same c.in_ok-stem.ensures;
    }
