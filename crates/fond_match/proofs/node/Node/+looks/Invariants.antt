use Rattle.fond_match.proofs.node.Node.+looks.Given as goal

abbrev pub decreases-looks : goal.decreases-looks
decreases-looks g l = goal.size-looks g l
