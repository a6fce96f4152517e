use Rattle.std.proofs.Common.{drop, map}
use Rattle.fond_form.specs.Lines.{spaced}
use Rattle.fond_cert.specs.Spellings.{target_word}
use Rattle.fond_text.proofs.Outs.{Adding}
use Rattle.fond_cert.proofs.put.put_targets.Given as goal

abbrev pub invariant-loop-target : goal.invariant-loop-target
invariant-loop-target g l =
    Adding g.O.Out.adds l.initial.out l.out
    (spaced (map target_word l.target-items))
    (spaced (map target_word (drop l.target-index l.target-items)))
