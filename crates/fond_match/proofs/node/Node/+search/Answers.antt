use Rattle.std.proofs.Common.{◌∙◌, ◌<◌, length, map, ap, sym, arith}
use Rattle.fond_match.specs.declared.node.Node.TheViews.{out-Node}
use Rattle.fond_match.proofs.Found.{cube_found}
use Rattle.fond_match.proofs.Searched.{passed_least, searched_branch, searched_node, searched_numbers, skipped_least}
use Rattle.fond_match.proofs.node.Node.+search.Goals as goal

pub loop-branch-init : goal.loop-branch-init
loop-branch-init g t c = record {
  below = c.least-found.ensures.below;
  searched = searched_numbers (g.Q.Query.lies c.args.query.now) (map g.T.HasCube.cube c.args.items.now) (g.Q.Query.has c.args.query.now) c.args.self.now c.args.best c.deref.result.now c.least-found.result c.deref.ensures.value c.least-found.ensures.least;
}

pub loop-branch-preserved : goal.loop-branch-preserved
loop-branch-preserved g t c = record {
  below = omega (arith, c.search-found.ensures.below, c.loop-branch.invariant.below);
  searched = searched_branch (g.Q.Query.lies c.args.query.now) (map g.T.HasCube.cube c.args.items.now) (g.Q.Query.has c.args.query.now) c.args.best c.loop-branch.found c.search-found.result (out-Node c.args.self.now).numbers.items
      c.deref-branch-items.result.now c.loop-branch.branch-index c.branch-item.result c.loop-branch-test.true c.branch-item.is c.loop-branch.invariant.searched c.search-found.ensures.least;
}

pub returns-then-self-best-clause-least : goal.returns-then-self-best-clause-least
returns-then-self-best-clause-least g t c =
    skipped_least (g.Q.Query.lies c.args.query.now) (map g.T.HasCube.cube c.args.items.now) (g.Q.Query.has c.args.query.now) c.args.self.now c.args.best c.if-self-best.true

pub returns-then-lies_in-clause-least : goal.returns-then-lies_in-clause-least
returns-then-lies_in-clause-least g t c =
    let lies = g.Q.Query.lies c.args.query.now in
    let items = c.args.items.now in
    let cube = g.T.HasCube.cube in
    let least = (out-Node c.args.self.now).least in
    let within : least < length items = omega (arith, c.if-self-best.false, c.requires.few) in
    let passes = ap lies (cube_found cube items least c.index-items-self.result within c.index-items-self.is ∙ sym c.cube.ensures) ∙ sym c.if-lies_in.ensures in
    passed_least lies (map cube items) (g.Q.Query.has c.args.query.now) c.args.self.now c.args.best (omega (arith, c.if-self-best.false)) passes

pub returns-clause-least : goal.returns-clause-least
returns-clause-least g t c =
    searched_node (g.Q.Query.lies c.args.query.now) (map g.T.HasCube.cube c.args.items.now) (g.Q.Query.has c.args.query.now) c.args.self.now c.args.best c.loop-branch.found c.loop-branch.branch-index c.deref-branch-items.result.now
    c.deref-branch-items.ensures.value c.loop-branch-test.false c.loop-branch.invariant.searched
