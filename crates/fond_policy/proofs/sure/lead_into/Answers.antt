use Rattle.std.proofs.Common.{refl, arith, ◌≡◌, ◌∙◌, ℕ, List, sym, ap, subst, ⊎_elim}
use Rattle.std.specs.List.{list_all}
use Rattle.std.proofs.lemmas.Bool.{and_parts, cases_lt, false≢true}
use Rattle.std.proofs.lemmas.Option.{slice_get_within, same_Some}
use Rattle.std.specs.Prelude.{slice_get}
use Rattle.fond_task.specs.Within.{is_entry_within}
use Rattle.fond_task.specs.declared.task.Entry.{Entry}
use Rattle.fond_task.proofs.Found.{all_at}
use Rattle.fond_task.specs.Images.{image}
use Rattle.fond_task.specs.Layers.{CubeView}
use Rattle.fond_policy.specs.Items.{LiesInItem}
use Rattle.fond_policy.proofs.sure.lead_into.Goals as goal

pub image_of-requires-clause-within : goal.image_of-requires-clause-within
image_of-requires-clause-within c = all_at (list_all (is_entry_within _)) c.args.act.now.outcomes c.loop-i.i c.get.result.now (and_parts _ _ c.requires.within).1 (ap (λ (all : List (List Entry)). slice_get all c.loop-i.i) (sym c.deref-in-loop-i.ensures) ∙ c.get.ensures)

pub returns-clause-decides : goal.returns-clause-decides
returns-clause-decides c = (
  λ e. record {
    counted = c.loop-i.invariant.counted;
    each = λ at number entries is there. c.loop-i.invariant.led at number entries (omega (arith, slice_get_within c.args.numbers.now at number is, c.loop-i-test.false, c.len-i-end.ensures)) is there;
  },
  λ each. refl,
)

pub returns-then-not-has_around-clause-decides : goal.returns-then-not-has_around-clause-decides
returns-then-not-has_around-clause-decides c = (
  λ e. absurd (false≢true e),
  λ leads.
      let here = leads.each c.loop-i.i c.get-in-loop-i.result.now c.get.result.now c.get-in-loop-i.ensures (ap (λ (all : List (List Entry)). slice_get all c.loop-i.i) (sym c.deref-in-loop-i.ensures) ∙ c.get.ensures) in
      let P : CubeView → Type 0 = λ cube. LiesInItem c.args.others.now cube c.get-in-loop-i.result.now in
      sym c.if-not-has_around.true ∙ c.has_around.ensures.1 (subst P (sym c.image_of.ensures.image) here),
)

pub loop-i-preserved : goal.loop-i-preserved
loop-i-preserved c =
    let others = c.args.others.now in
    let cube = c.args.cube.now in
    let i = c.loop-i.i in
    let inv = c.loop-i.invariant in
    record {
      long = c.image_of.ensures.same_length;
      counted = inv.counted;
      led = λ k number entries small is has. ⊎_elim
          (λ lt. inv.led k number entries lt is has)
          (λ ge.
          let last : i ≡ k = omega (arith, small, ge) in
          let same = same_Some c.get-in-loop-i.result.now number (sym c.get-in-loop-i.ensures ∙ ap (slice_get c.args.numbers.now) last ∙ is) in
          let out = same_Some c.get.result.now entries (sym (ap (λ (all : List (List Entry)). slice_get all c.loop-i.i) (sym c.deref-in-loop-i.ensures) ∙ c.get.ensures) ∙ ap (slice_get c.args.act.now.outcomes) last ∙ has) in
          let around = c.has_around.ensures.0 c.if-not-has_around.false in
          subst (λ (n : ℕ). LiesInItem others (image cube entries) n) same
          (subst (λ (c' : CubeView). LiesInItem others c' c.get-in-loop-i.result.now) (c.image_of.ensures.image ∙ ap (image cube) out) around))
          (cases_lt k i);
    }
