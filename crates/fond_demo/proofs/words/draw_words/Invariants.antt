use Rattle.rand_core.specs.Pcg32Seed.{pcg32_seed}
use Rattle.rand_pcg.specs.Pcg.{pcg32_of_seed}
use Rattle.fond_demo.proofs.Drawn.{GoesOn}
use Rattle.fond_demo.proofs.words.draw_words.Given as goal

abbrev pub invariant-loop : goal.invariant-loop
invariant-loop l = GoesOn (pcg32_of_seed (pcg32_seed 16 l.seed)) l.generator l.counter l.words.items
