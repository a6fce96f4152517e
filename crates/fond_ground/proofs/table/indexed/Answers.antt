use Rattle.std.proofs.Common.{◌∙◌, arith}
use Rattle.std.proofs.lemmas.Bool.Decides.{nat_tests}
use Rattle.fond_task.specs.Distinct.{atom_numbers}
use Rattle.fond_store.proofs.Firsts.{has_more, has_all}
use Rattle.fond_ground.proofs.Indexed.{first-same}
use Rattle.fond_ground.proofs.table.indexed.Goals as goal

pub loop-i-preserved : goal.loop-i-preserved
loop-i-preserved c =
    has_more atom_numbers c.args.atoms.now c.loop-i.numbers c.insert.new.self c.loop-i.i c.get.result.now c.in_ok-numbers_of.field-0.items c.get.ensures
    c.in_ok-numbers_of.ensures c.in_ok-insert.ensures.ok c.loop-i.invariant

pub returns : goal.returns
returns c = λ atom.
    has_all atom_numbers c.args.atoms.now c.loop-i.numbers c.loop-i.i (grind (arith, nat_tests)) c.loop-i.invariant (atom_numbers atom) ∙ first-same c.args.atoms.now atom
