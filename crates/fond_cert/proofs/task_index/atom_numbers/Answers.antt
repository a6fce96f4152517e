use Rattle.std.proofs.Common.{arith}
use Rattle.std.proofs.lemmas.Bool.Decides.{nat_tests}
use Rattle.fond_task.specs.Texts.{atom_text}
use Rattle.fond_text.proofs.Adding.{whole_is}
use Rattle.fond_store.proofs.Firsts.{has_all, has_more}
use Rattle.fond_cert.proofs.task_index.atom_numbers.Goals as goal

pub loop-i-preserved : goal.loop-i-preserved
loop-i-preserved c =
    let text = atom_text c.args.task.now.labels in
    let written = whole_is _ _ _ (rw c.new-text.ensures at c.put_atom.ensures) c.in_ok-bytes.ensures.ok in
    has_more text c.args.task.now.atoms c.loop-i.numbers c.insert.new.self c.loop-i.i c.get.result.now c.in_ok-bytes.bytes.items c.get.ensures written c.in_ok-insert.ensures.ok c.loop-i.invariant

pub returns : goal.returns
returns c = has_all (atom_text c.args.task.now.labels) c.args.task.now.atoms c.loop-i.numbers c.loop-i.i (grind (arith, nat_tests)) c.loop-i.invariant
