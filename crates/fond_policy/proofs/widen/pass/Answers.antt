use Rattle.std.proofs.Common.{◌≡◌, ◌≤◌, ◌+◌, ◌-◌, ℕ, Bool, false, Some, List, sym, ◌∙◌, ap, subst, ⊎_elim, arith}
use Rattle.std.specs.Prelude.{◌||◌, slice_get, length}
use Rattle.std.proofs.lemmas.Bool.{cases_lt, or_parts}
use Rattle.fond_task.specs.declared.task.Task.{Task}
use Rattle.fond_policy.specs.declared.item.Item.{Item}
use Rattle.fond_policy.specs.Items.{First, NeedsLiteral}
use Rattle.fond_policy.specs.Wider.{HaveWidened}
use Rattle.fond_policy.proofs.Widened.{widened_twice}
use Rattle.fond_policy.proofs.widen.pass.Goals.{then-changed, else-changed}
use Rattle.fond_policy.proofs.widen.pass.Goals as goal

-- the items that are lean are one more, if no literal was dropped
lean_more : (task : Task) (firsts : List First) (one two three : List Item) (x y : Bool) (at done : ℕ) → HaveWidened task firsts one two x → HaveWidened task firsts two three y →
    at + done + 1 ≡ length two →
    (x ≡ false → (number : ℕ) (item : Item) (atom : ℕ) → length two ≤ number + done → slice_get two number ≡ Some item → NeedsLiteral task firsts two number item atom) →
    (y ≡ false → (atom : ℕ) (item : Item) → slice_get three at ≡ Some item → NeedsLiteral task firsts three at item atom) →
    (x || y) ≡ false → (number : ℕ) (item : Item) (atom : ℕ) → length three ≤ number + (done + 1) → slice_get three number ≡ Some item → NeedsLiteral task firsts three number item atom
lean_more task firsts one two three x y at done first second place lean here is number item atom small has =
    let parts = or_parts x y is in
    let same : three ≡ two = second.none parts.1 in
    let long : length three ≡ length two = ap length same in
    ⊎_elim
    (λ lt.
    let last : at ≡ number = omega (arith, small, lt, place, long) in
    subst (λ n. NeedsLiteral task firsts three n item atom) last (here parts.1 atom item (ap (slice_get three) last ∙ has)))
    (λ ge. subst (λ items. NeedsLiteral task firsts items number item atom) (sym same) (lean parts.0 number item atom ge (ap (λ items. slice_get items number) (sym same) ∙ has)))
    (cases_lt (number + done) (length two))

pub loop-done-preserved : goal.loop-done-preserved
loop-done-preserved g c =
    let task = c.args.t.now in
    let firsts = g.R.Firsts.firsts c.args.rules.now in
    let inv = c.loop-done.invariant in
    let told = c.widen_item-dropped.ensures in
    let one = c.args.items.now in
    let two = c.loop-done.items in
    let three = c.widen_item-dropped.new.items in
    let changed : c.if-changed.changed ≡ (c.loop-done.changed || c.widen_item-dropped.result) = elim c.if-changed.branch [ then-changed w ↦ w.changed-is ∙ w.if-changed.true ∙ sym (ap (λ b. b || c.widen_item-dropped.result) w.if-changed.true) | else-changed w ↦ w.changed-is ∙ sym (ap (λ b. b || c.widen_item-dropped.result) w.if-changed.false) ] in
    let at : ℕ = c.len.result - 1 - c.loop-done.done in
    let place : at + c.loop-done.done + 1 ≡ length two = omega (arith, c.len.ensures, c.len-done-end.ensures, c.loop-done-test.true, inv.widened.wider.counted) in
    record {
      pad = told.same_pad ∙ inv.pad;
      widened = subst (HaveWidened task firsts one three) (sym changed) (widened_twice task firsts one two three c.loop-done.changed c.widen_item-dropped.result inv.widened told.widened);
      needed = λ is. lean_more task firsts one two three c.loop-done.changed c.widen_item-dropped.result at c.loop-done.done inv.widened told.widened place inv.needed told.needed (sym changed ∙ is);
    }

pub returns-clause-lean : goal.returns-clause-lean
returns-clause-lean g c = λ is number item has.
    let inv = c.loop-done.invariant in
    let past : length c.loop-done.items ≤ number + c.loop-done.done = omega (arith, inv.widened.wider.counted, c.len-done-end.ensures, c.loop-done-test.false) in
    record { sure = inv.widened.sure number item has; needs = λ atom. inv.needed is number item atom past has }
