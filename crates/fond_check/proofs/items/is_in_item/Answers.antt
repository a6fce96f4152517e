use Rattle.std.proofs.Common.{sym, ◌∙◌, subst}
use Rattle.fond_state.proofs.Tested.{lies_in-Decides}
use Rattle.fond_state.specs.Cubes.{LiesIn}
use Rattle.fond_task.proofs.Lists.{same_numbered}
use Rattle.fond_policy.specs.declared.item.Item.{Item}
use Rattle.fond_check.proofs.items.is_in_item.Goals as goal

pub returns : goal.returns
returns c =
    let state = c.args.state.now in
    let item = c.get.result.now in
    let tested = lies_in-Decides state item.cube in (
      λ e. record { item = item; numbered = c.get.ensures; lies = tested.0 (sym c.holds.ensures ∙ e) },
      λ into.
          let same = same_numbered c.args.items.now c.args.number into.item item into.numbered c.get.ensures in
          c.holds.ensures ∙ tested.1 (subst (λ (one : Item). LiesIn state one.cube) same into.lies),
    )
