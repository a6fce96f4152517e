use Rattle.std.proofs.Common.{◌≡◌, Bool, List, sym, ◌∙◌, ap, subst}
use Rattle.std.specs.Prelude.{◌||◌}
use Rattle.fond_policy.specs.declared.item.Item.{Item}
use Rattle.fond_policy.specs.Wider.{HaveWidened}
use Rattle.fond_policy.proofs.Widened.{widened_twice}
use Rattle.fond_policy.proofs.widen.sweep.Goals.{then-is_due+then-changed, then-is_due+else-changed, else-is_due}
use Rattle.fond_policy.proofs.widen.sweep.Goals as goal

pub loop-done-preserved : goal.loop-done-preserved
loop-done-preserved g c =
    let task = c.args.t.now in
    let firsts = g.R.Firsts.firsts c.args.rules.now in
    let inv = c.loop-done.invariant in
    let one = c.args.items.now in
    let two = c.loop-done.items in
    let twice : (three : List Item) (y : Bool) → HaveWidened task firsts two three y → HaveWidened task firsts one three (c.loop-done.changed || y) =
    λ three y next. widened_twice task firsts one two three c.loop-done.changed y inv.widened next in
    let moved : (new three : List Item) (now both : Bool) → new ≡ three → now ≡ both → HaveWidened task firsts one three both → HaveWidened task firsts one new now =
    λ new three now both items-are changed-is is. subst (λ xs. HaveWidened task firsts one xs now) (sym items-are) (subst (HaveWidened task firsts one three) (sym changed-is) is) in
    elim c.if-is_due.branch [
      | then-is_due+then-changed w ↦ record {
        pad = w.pad-is ∙ w.widen_item-dropped.ensures.same_pad ∙ inv.pad;
        widened = moved c.if-is_due.items w.widen_item-dropped.new.items c.if-is_due.changed (c.loop-done.changed || w.widen_item-dropped.result) w.items-is
            (w.changed-is ∙ w.if-changed.true ∙ sym (ap (λ b. b || w.widen_item-dropped.result) w.if-changed.true))
            (twice w.widen_item-dropped.new.items w.widen_item-dropped.result w.widen_item-dropped.ensures.widened);
      }
      | then-is_due+else-changed w ↦ record {
        pad = w.pad-is ∙ w.widen_item-dropped.ensures.same_pad ∙ inv.pad;
        widened = moved c.if-is_due.items w.widen_item-dropped.new.items c.if-is_due.changed (c.loop-done.changed || w.widen_item-dropped.result) w.items-is
            (w.changed-is ∙ sym (ap (λ b. b || w.widen_item-dropped.result) w.if-changed.false))
            (twice w.widen_item-dropped.new.items w.widen_item-dropped.result w.widen_item-dropped.ensures.widened);
      }
      | else-is_due w ↦ record {
        pad = w.pad-is ∙ inv.pad;
        widened = moved c.if-is_due.items two c.if-is_due.changed c.loop-done.changed w.items-is w.changed-is inv.widened;
      }
    ]
