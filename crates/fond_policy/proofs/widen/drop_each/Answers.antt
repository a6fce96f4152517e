use Rattle.std.proofs.Common.{◌≡◌, ◌<◌, ◌+◌, ℕ, Bool, false, Some, List, sym, ◌∙◌, ap, subst, ⊎_elim, arith}
use Rattle.std.specs.Prelude.{◌||◌, slice_get, length}
use Rattle.std.proofs.lemmas.Bool.{cases_lt, or_parts}
use Rattle.fond_task.specs.declared.task.Task.{Task}
use Rattle.fond_policy.specs.declared.item.Item.{Item}
use Rattle.fond_policy.specs.Items.{First, NeedsLiteral}
use Rattle.fond_policy.specs.Wider.{HaveWidened}
use Rattle.fond_rules.proofs.Literals.{literal_within}
use Rattle.fond_policy.proofs.Placed.{there}
use Rattle.fond_policy.proofs.Widened.{widened_twice}
use Rattle.fond_policy.proofs.widen.drop_each.Goals.{then-changed, else-changed}
use Rattle.fond_policy.proofs.widen.drop_each.Goals as goal

-- one literal more is needed, if none was dropped
needed_more : (task : Task) (firsts : List First) (one two three : List Item) (x y : Bool) (at atom : ℕ) → HaveWidened task firsts one two x → HaveWidened task firsts two three y →
    (x ≡ false → (k : ℕ) (item : Item) → k < atom → slice_get two at ≡ Some item → NeedsLiteral task firsts two at item k) →
    (y ≡ false → (item : Item) → slice_get three at ≡ Some item → NeedsLiteral task firsts three at item atom) →
    (x || y) ≡ false → (k : ℕ) (item : Item) → k < atom + 1 → slice_get three at ≡ Some item → NeedsLiteral task firsts three at item k
needed_more task firsts one two three x y at atom first second needed here is k item small has =
    let parts = or_parts x y is in
    let same : three ≡ two = second.none parts.1 in
    ⊎_elim
    (λ lt. subst (λ items. NeedsLiteral task firsts items at item k) (sym same) (needed parts.0 k item lt (ap (λ items. slice_get items at) (sym same) ∙ has)))
    (λ ge.
    let last : atom ≡ k = omega (arith, small, ge) in
    subst (λ n. NeedsLiteral task firsts three at item n) last (here parts.1 item has))
    (cases_lt k atom)

pub loop-atom-preserved : goal.loop-atom-preserved
loop-atom-preserved g c =
    let task = c.args.t.now in
    let firsts = g.R.Firsts.firsts c.args.rules.now in
    let inv = c.loop-atom.invariant in
    let told = c.drop_one-dropped.ensures in
    let one = c.args.items.now in
    let two = c.loop-atom.items in
    let three = c.drop_one-dropped.new.items in
    let x = c.loop-atom.changed in
    let y = c.drop_one-dropped.result in
    let changed : c.if-changed.changed ≡ (x || y) = elim c.if-changed.branch [ then-changed w ↦ w.changed-is ∙ w.if-changed.true ∙ sym (ap (λ b. b || y) w.if-changed.true) | else-changed w ↦ w.changed-is ∙ sym (ap (λ b. b || y) w.if-changed.false) ] in
    record {
      same = told.same_cube;
      long = told.same_length ∙ inv.long;
      widened = subst (HaveWidened task firsts one three) (sym changed) (widened_twice task firsts one two three x y inv.widened told.widened);
      needed = λ is. needed_more task firsts one two three x y c.args.at c.loop-atom.atom inv.widened told.widened inv.needed told.needed (sym changed ∙ is);
    }

pub returns-clause-same_cube : goal.returns-clause-same_cube
returns-clause-same_cube g c =
    let inv = c.loop-atom.invariant in
    let at = c.args.at in
    let before = there c.args.items.now at c.requires.there in
    let after = there c.loop-atom.items at (omega (arith, inv.widened.wider.counted, c.requires.there)) in
    ap length (inv.same after.0 after.1) ∙ inv.widened.over at after.0 after.1 ∙ sym (ap length (c.requires.same before.0 before.1) ∙ c.requires.over at before.0 before.1)

pub returns-clause-needed : goal.returns-clause-needed
returns-clause-needed g c = λ is atom item has sign at.
    let inv = c.loop-atom.invariant in
    let below : atom < c.loop-atom.atom = omega (arith, literal_within item.cube atom sign at, inv.widened.over c.args.at item has, c.loop-atom-test.false, c.len-atom-end.ensures) in
    inv.needed is atom item below has sign at
