use Rattle.std.proofs.Common.{codes, ◌++◌, ℕ, List}
use Rattle.std.proofs.lemmas.List.{at_drop_more, at_drop_all}
use Rattle.std.specs.Fmt.{decimal}
use Rattle.std.specs.List.{flat_map}
use Rattle.fond_text.proofs.Adding.{adds_then, adding_all, adding_more, adding_none}
use Rattle.fond_lasso.proofs.tell.put_numbers.Goals as goal

pub loop-number-init : goal.loop-number-init
loop-number-init c = adding_all _ _

pub loop-number-preserved : goal.loop-number-preserved
loop-number-preserved c =
    let text : List ℕ → List ℕ = flat_map (λ number. codes " " ++ decimal number) in
    adding_more _ _ _ _ _ _ _ (at_drop_more text c.args.numbers.now c.loop-number.number-index 0 c.loop-number-test.true) c.loop-number.invariant
    (adds_then _ _ _ _ _ c.add-in-loop-number.ensures c.add_number.ensures)

pub returns : goal.returns
returns c =
    let text : List ℕ → List ℕ = flat_map (λ number. codes " " ++ decimal number) in
    adds_then _ _ _ _ _
    (adds_then _ _ _ _ _ c.add.ensures (adding_none _ _ _ _ (at_drop_all text c.args.numbers.now c.loop-number.number-index c.loop-number-test.false) c.loop-number.invariant)) c.add-2.ensures
