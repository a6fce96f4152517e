use Rattle.std.proofs.Common.{List, sym, subst}
use Rattle.fond_explicit.specs.Answers.{ChoiceView}
use Rattle.fond_explicit.specs.Spaces.{AreRanks}
use Rattle.fond_explicit.proofs.Choosing.{ranks_none}
use Rattle.fond_explicit.proofs.choose.choose.Goals as goal

pub loop-node-init : goal.loop-node-init
loop-node-init c =
    let P : List ChoiceView → Type 0 = λ choices. AreRanks c.args.states.now c.args.moves.now c.args.fates.now 0 choices in
    subst P (sym c.new-choices.ensures) (ranks_none c.args.states.now c.requires.distinct c.args.moves.now c.args.fates.now)
