use Rattle.std.proofs.Common.{ℕ, Vec, Global}
use Rattle.fond_games.specs.Graphs.{IsTourFrom}
use Rattle.fond_games.proofs.Touring.{goes_on_from, tour_before, ok_by}
use Rattle.fond_games.proofs.tour.closed_walk.Goals as goal

pub tour-requires-clause-goes_on : goal.tour-requires-clause-goes_on
tour-requires-clause-goes_on c = goes_on_from c.args.graph.now c.args.from c.in_ok-knot.knot c.requires.goes_on c.in_ok-knot.ensures.0

pub returns : goal.returns
returns c =
    let graph = c.args.graph.now in
    let P : Vec ℕ Global → Type 0 = λ nodes. IsTourFrom graph c.in_ok-knot.knot nodes.items in
    let Q : Vec ℕ Global → Type 0 = λ nodes. IsTourFrom graph c.args.from nodes.items in
    ok_by P Q (λ nodes. tour_before graph c.args.from c.in_ok-knot.knot nodes.items c.in_ok-knot.ensures.0) c.tour.result c.tour.ensures
