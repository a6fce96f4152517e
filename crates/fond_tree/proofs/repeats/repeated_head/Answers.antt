use Rattle.std.proofs.Common.{◌≡◌, [], drop, arith}
use Rattle.std.proofs.lemmas.Grind.{common_steps}
use Rattle.fond_tree.specs.Trees.{head_of}
use Rattle.fond_tree.proofs.Again.{all_repeated}
use Rattle.fond_tree.proofs.repeats.repeated_head.Goals as goal

pub returns : goal.returns
returns c =
    let ended : drop c.loop-section.section-index c.args.sections.now ≡ [] = grind (arith, common_steps) in
    all_repeated head_of c.args.head.now c.args.sections.now (drop c.loop-section.section-index c.args.sections.now) c.loop-section.seen c.loop-section.first ended c.loop-section.invariant
