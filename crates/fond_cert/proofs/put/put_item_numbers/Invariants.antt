use Rattle.std.proofs.Common.{drop, map}
use Rattle.std.specs.Fmt.{decimal}
use Rattle.fond_form.specs.Lines.{spaced}
use Rattle.fond_text.proofs.Outs.{Adding}
use Rattle.fond_cert.proofs.put.put_item_numbers.Given as goal

abbrev pub invariant-loop-item : goal.invariant-loop-item
invariant-loop-item g l =
    Adding g.O.Out.adds l.initial.out l.out
    (spaced (map decimal l.item-items))
    (spaced (map decimal (drop l.item-index l.item-items)))
