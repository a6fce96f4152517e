use Rattle.std.proofs.Common.{sym}
use Rattle.fond_match.proofs.Growing.{rebuilt_blocks, rebuilt_count}
use Rattle.fond_match.proofs.index.Index.rebuild.Goals as goal

pub returns-clause-of : goal.returns-clause-of
returns-clause-of g c =
    let cube = g.T.HasCube.cube in
    let old = c.args.self.now.blocks.items in
    let count = rebuilt_count cube c.args.items.now old c.truncate.new.self.items c.push.new.self.items c.args.keep c.args.from c.in_ok-block.block c.requires.of.1 c.requires.heavy c.requires.from c.requires.some
    c.in_ok-block.ensures.of c.in_ok-block.ensures.all c.truncate.ensures.items c.in_ok-push.ensures.items in (
      sym count,
      rebuilt_blocks cube c.args.items.now old c.truncate.new.self.items c.push.new.self.items c.args.keep c.args.from c.in_ok-block.block c.requires.of.1 c.requires.heavy c.requires.from c.requires.some
          c.in_ok-block.ensures.of c.in_ok-block.ensures.all c.truncate.ensures.items c.in_ok-push.ensures.items,
    )

pub returns-clause-all : goal.returns-clause-all
returns-clause-all g c =
    rebuilt_count g.T.HasCube.cube c.args.items.now c.args.self.now.blocks.items c.truncate.new.self.items c.push.new.self.items c.args.keep c.args.from c.in_ok-block.block c.requires.of.1 c.requires.heavy c.requires.from c.requires.some
    c.in_ok-block.ensures.of c.in_ok-block.ensures.all c.truncate.ensures.items c.in_ok-push.ensures.items
