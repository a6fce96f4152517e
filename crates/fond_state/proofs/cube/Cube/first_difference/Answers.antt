use Rattle.std.proofs.Common.{◌≡◌, ◌∙◌, ◌+◌, ◌*◌, ap, sym, arith}
use Rattle.fond_state.specs.Words.{mask_at, literal_in}
use Rattle.fond_state.proofs.Apart.{in_cube, same_in_cubes, same_more, other_at}
use Rattle.fond_state.proofs.cube.Cube.first_difference.Goals as goal

pub returns-then-place-lt64-clause-same : goal.returns-then-place-lt64-clause-same
returns-then-place-lt64-clause-same c = λ atom le lt.
    let masks = c.self.inside.masks.items in
    let others = c.d.inside.masks.items in
    let is : c.mask_at-mask.result ≡ mask_at masks c.loop-i.i = c.mask_at-mask.ensures ∙ ap (λ ms. mask_at ms c.loop-i.i) c.deref.ensures.value in
    let too : c.mask_at.result ≡ mask_at others c.loop-i.i = c.mask_at.ensures ∙ ap (λ ms. mask_at ms c.loop-i.i) c.deref-in-loop-i.ensures.value in
    let same = same_more c.loop-i.i masks others _ _ is too c.args.from c.saturating_sub.result c.first_apart-place.result (omega (arith, c.saturating_sub.ensures)) c.first_apart-place.ensures.within.1 c.first_apart-place.ensures.same c.loop-i.invariant in
    same_in_cubes masks others _ _ c.args.from (64 * c.loop-i.i + c.first_apart-place.result) _ _ c.self.invariant.1 c.d.invariant.1 c.self.view_is c.d.view_is same atom le (omega (arith, lt, c.min.ensures))

pub returns-then-place-lt64-clause-differs : goal.returns-then-place-lt64-clause-differs
returns-then-place-lt64-clause-differs c = λ lt same.
    let masks = c.self.inside.masks.items in
    let others = c.d.inside.masks.items in
    let is : c.mask_at-mask.result ≡ mask_at masks c.loop-i.i = c.mask_at-mask.ensures ∙ ap (λ ms. mask_at ms c.loop-i.i) c.deref.ensures.value in
    let too : c.mask_at.result ≡ mask_at others c.loop-i.i = c.mask_at.ensures ∙ ap (λ ms. mask_at ms c.loop-i.i) c.deref-in-loop-i.ensures.value in
    let here : c.min.result ≡ 64 * c.loop-i.i + c.first_apart-place.result = omega (arith, lt, c.min.ensures) in
    other_at c.loop-i.i masks others _ _ is too c.first_apart-place.result c.if-place-lt64.true (c.first_apart-place.ensures.differs c.if-place-lt64.true)
    (ap (literal_in masks) (sym here) ∙ sym (in_cube masks _ _ c.self.invariant.1 c.self.view_is c.min.result) ∙ same
    ∙ in_cube others _ _ c.d.invariant.1 c.d.view_is c.min.result ∙ ap (literal_in others) here)

pub loop-i-preserved : goal.loop-i-preserved
loop-i-preserved c = λ atom le lt.
    let masks = c.self.inside.masks.items in
    let others = c.d.inside.masks.items in
    let is : c.mask_at-mask.result ≡ mask_at masks c.loop-i.i = c.mask_at-mask.ensures ∙ ap (λ ms. mask_at ms c.loop-i.i) c.deref.ensures.value in
    let too : c.mask_at.result ≡ mask_at others c.loop-i.i = c.mask_at.ensures ∙ ap (λ ms. mask_at ms c.loop-i.i) c.deref-in-loop-i.ensures.value in
    same_more c.loop-i.i masks others _ _ is too c.args.from c.saturating_sub.result c.first_apart-place.result (omega (arith, c.saturating_sub.ensures)) c.first_apart-place.ensures.within.1 c.first_apart-place.ensures.same c.loop-i.invariant
    atom le (omega (arith, lt, c.if-place-lt64.false))

pub returns-clause-same : goal.returns-clause-same
returns-clause-same c = λ atom le lt.
    same_in_cubes c.self.inside.masks.items c.d.inside.masks.items _ _ c.args.from c.args.end _ _ c.self.invariant.1 c.d.invariant.1 c.self.view_is c.d.view_is
    (λ at from before. c.loop-i.invariant at from (omega (arith, before, c.loop-i-test.false, c.word_count-i-end.ensures))) atom le lt
