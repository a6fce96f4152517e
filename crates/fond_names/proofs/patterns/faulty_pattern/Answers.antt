use Rattle.std.proofs.Common.{◌⊎◌, ℕ, arith}
use Rattle.fond_ast.specs.declared.files.Pattern.{Pattern}
use Rattle.fond_text.specs.declared.place.Place.{Place}
use Rattle.fond_names.specs.Faults.{HasUnknownObject, HasWrongCount}
use Rattle.fond_names.specs.Files.{declarations_of}
use Rattle.fond_names.specs.Names.{Declarations}
use Rattle.fond_names.proofs.Among.{among_none, among_next, among_all}
use Rattle.fond_names.proofs.patterns.faulty_pattern.Goals as goal

abbrev IsFaulty : Declarations → Pattern → Place → ℕ → Type 0
IsFaulty files pattern place code = HasWrongCount files.domain pattern place code ⊎ HasUnknownObject files pattern place code

pub loop-i-init : goal.loop-i-init
loop-i-init c = among_none (IsFaulty (declarations_of c.args.files.now))

pub loop-i-preserved : goal.loop-i-preserved
loop-i-preserved c =
    among_next (IsFaulty (declarations_of c.args.files.now)) c.args.files.now.side.now.patterns c.loop-i.i c.get.result.now c.loop-i.first c.pattern_fault.result c.earlier-first.result
    c.get.ensures c.loop-i.invariant c.pattern_fault.ensures c.earlier-first.ensures

pub returns : goal.returns
returns c = among_all (IsFaulty (declarations_of c.args.files.now)) c.args.files.now.side.now.patterns c.loop-i.i c.loop-i.first (omega arith) c.loop-i.invariant
