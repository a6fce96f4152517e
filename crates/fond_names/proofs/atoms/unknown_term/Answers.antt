use Rattle.std.proofs.Common.{arith}
use Rattle.fond_names.specs.Faults.{IsUnknownTerm}
use Rattle.fond_names.specs.Files.{declarations_of}
use Rattle.fond_names.proofs.Among.{among_none, among_next, among_all}
use Rattle.fond_names.proofs.atoms.unknown_term.Goals as goal

pub loop-i-init : goal.loop-i-init
loop-i-init c = among_none (IsUnknownTerm (declarations_of c.args.files.now) c.args.around.now)

pub loop-i-preserved : goal.loop-i-preserved
loop-i-preserved c =
    among_next (IsUnknownTerm (declarations_of c.args.files.now) c.args.around.now) c.args.atom.now.terms c.loop-i.i c.get.result.now c.loop-i.first c.unknown_one.result c.earlier-first.result
    c.get.ensures c.loop-i.invariant c.unknown_one.ensures c.earlier-first.ensures

pub returns : goal.returns
returns c =
    among_all (IsUnknownTerm (declarations_of c.args.files.now) c.args.around.now) c.args.atom.now.terms c.loop-i.i c.loop-i.first (omega arith) c.loop-i.invariant
