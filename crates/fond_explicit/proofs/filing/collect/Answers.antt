use Rattle.fond_explicit.proofs.Filed.{collected_more}
use Rattle.fond_explicit.proofs.filing.collect.Goals as goal

pub loop-atom-preserved : goal.loop-atom-preserved
loop-atom-preserved c = collected_more c.args.index.now.by_atom.items c.args.state.now c.loop-atom.atom c.args.out.now.items c.loop-atom.out.items c.add_filed.new.out.items c.loop-atom.invariant c.in_ok-add_filed.ensures
