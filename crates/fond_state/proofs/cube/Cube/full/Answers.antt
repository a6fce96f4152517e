use Rattle.std.proofs.Common.{◌≡◌, ◌∙◌, ap, subst, arith}
use Rattle.std.specs.Prelude.{slice_index_or}
use Rattle.fond_state.specs.Cubes.{full_cube}
use Rattle.fond_state.specs.Words.{words_for}
use Rattle.fond_state.proofs.Changed.{AreFull, full_none, full_more, full_cube_is, full_has_no_more}
use Rattle.fond_state.proofs.cube.Cube.full.Goals as goal

pub loop-word-init : goal.loop-word-init
loop-word-init c = (omega arith, full_none c.s.inside.words.items c.s.inside.atoms c.in_ok-masks.masks.items c.in_ok-masks.ensures.items)

pub loop-word-preserved : goal.loop-word-preserved
loop-word-preserved c =
    let left = c.loop-word.invariant.0 in (
      omega (arith, left, c.saturating_sub-left.ensures),
      full_more c.s.inside.words.items c.s.inside.atoms c.loop-word.masks.items c.push.new.self.items c.loop-word.word-index c.loop-word.invariant.1 _ c.in_ok-push.ensures.items
          (ap (λ ws. slice_index_or ws c.loop-word.word-index 0) c.deref-word-items.ensures.value)
          (λ j small within. c.low_bits.ensures.below j small (omega (arith, left, within)))
          (λ j small past. c.low_bits.ensures.above j (omega (arith, left, past))),
    )

pub invariant_of-result : goal.invariant_of-result
invariant_of-result c =
    let whole : c.loop-word.word-index ≡ words_for c.s.inside.atoms
    = omega (arith, c.loop-word-test.false, c.loop-word.auto.word-index-end, c.deref-word-items.ensures.len, c.s.invariant.0) in
    let full = subst (AreFull c.s.inside.words.items c.s.inside.atoms c.loop-word.masks.items) whole c.loop-word.invariant.1 in
    (c.loop-word.masks.ok.0 ∙ full.counted, full_has_no_more c.s.inside.words.items c.s.inside.atoms c.loop-word.masks.items full, c.s.invariant.3)

pub returns : goal.returns
returns c =
    let whole : c.loop-word.word-index ≡ words_for c.s.inside.atoms
    = omega (arith, c.loop-word-test.false, c.loop-word.auto.word-index-end, c.deref-word-items.ensures.len, c.s.invariant.0) in
    let full = subst (AreFull c.s.inside.words.items c.s.inside.atoms c.loop-word.masks.items) whole c.loop-word.invariant.1 in
    full_cube_is c.s.inside.words.items c.s.inside.atoms c.loop-word.masks.items full ∙ ap full_cube c.s.view_is
