use Rattle.std.proofs.Common.{[], sym, subst}
use Rattle.fond_reader.specs.Sorts.{AddsTyped}
use Rattle.fond_reader.proofs.Lengths.{empty}
use Rattle.fond_reader.proofs.Pushed.{none_added, more_added, all_added}
use Rattle.fond_reader.proofs.typed.read_typed.Goals as goal

pub loop-rest-init : goal.loop-rest-init
loop-rest-init c =
    subst (λ names. AddsTyped c.args.sort c.args.trees.now c.args.trees.now [] names) (sym c.new-names.ensures) (none_added c.args.sort c.args.trees.now [] c.requires)

pub loop-rest-preserved : goal.loop-rest-preserved
loop-rest-preserved c = more_added c.args.sort c.args.trees.now _ _ [] _ _ c.loop-rest.invariant c.in_ok-rest.ensures.added

pub returns : goal.returns
returns c = all_added c.args.sort c.args.trees.now _ _ (empty _ (sym c.loop-rest-test.ensures)) c.loop-rest.invariant
