use Rattle.std.proofs.Common.{◌≡◌, drop}
use Rattle.fond_reader.specs.Files.{headed}
use Rattle.fond_reader.proofs.section.contents_of.Given as goal

-- the sections with the head are among those that are left
abbrev pub invariant-loop-section : goal.invariant-loop-section
invariant-loop-section l = headed l.word (drop l.section-index l.sections) ≡ headed l.word l.sections
