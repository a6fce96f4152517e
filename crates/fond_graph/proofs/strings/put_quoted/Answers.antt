use Rattle.std.proofs.lemmas.List.{at_drop_all, at_drop_more}
use Rattle.json.specs.Print.{escape}
use Rattle.fond_text.proofs.Adding.{adding_all, adding_more, adding_none, adds_then}
use Rattle.fond_graph.proofs.strings.put_quoted.Goals as goal

pub loop-byte-init : goal.loop-byte-init
loop-byte-init c = adding_all _ _

pub loop-byte-preserved : goal.loop-byte-preserved
loop-byte-preserved c = adding_more _ _ _ _ _ _ _ (at_drop_more escape c.args.bytes.now c.loop-byte.byte-index 0 c.loop-byte-test.true) c.loop-byte.invariant c.put_byte.ensures

pub returns : goal.returns
returns c =
    adds_then _ _ _ _ _ c.add.ensures
    (adds_then _ _ _ _ _ (adding_none _ _ _ _ (at_drop_all escape c.args.bytes.now c.loop-byte.byte-index c.loop-byte-test.false) c.loop-byte.invariant) c.add-2.ensures)
