use Rattle.std.proofs.Common.{sym}
use Rattle.fond_names.specs.Files.{declarations_of}
use Rattle.fond_names.proofs.AtomFaults.{fault_if_declared, fault_if_unknown}
use Rattle.fond_names.proofs.atoms.atom_fault.Goals as goal

pub returns-in_ok-misfit-in-Some-clause-first : goal.returns-in_ok-misfit-in-Some-clause-first
returns-in_ok-misfit-in-Some-clause-first c =
    fault_if_declared (declarations_of c.args.files.now) c.args.around.now c.args.atom.now c.in-Some.predicate.now (sym c.in-Some.ensures)
    c.wrong_arity-arity.result c.in_ok-misfit-in-Some.misfit c.unknown_term-terms.result c.earlier-arguments.result c.earlier.result
    c.wrong_arity-arity.ensures c.in_ok-misfit-in-Some.ensures.first c.unknown_term-terms.ensures c.earlier-arguments.ensures c.earlier.ensures

pub returns-in-None-clause-first : goal.returns-in-None-clause-first
returns-in-None-clause-first c =
    fault_if_unknown (declarations_of c.args.files.now) c.args.around.now c.args.atom.now (sym c.in-None.ensures)
    c.found_if.result c.unknown_term-terms.result c.earlier-in-None.result c.found_if.ensures c.unknown_term-terms.ensures c.earlier-in-None.ensures
