use Rattle.std.proofs.Common.{◌≡◌, ◌∙◌, ◌+◌, ◌*◌, ◌-◌, ◌^◌, ◌∷◌, [], length, drop, sym, ap, subst, arith}
use Rattle.std.specs.Prelude.{min}
use Rattle.std.proofs.lemmas.Grind.{common_steps}
use Rattle.fond_ast.specs.Ranges.{objects_of}
use Rattle.fond_ast.specs.Conditions.{tuples}
use Rattle.fond_ground.proofs.Counts.{tuples-length, capped_product}
use Rattle.fond_ground.proofs.Signs.{drop_here}
use Rattle.fond_ground.proofs.atoms.tuple_count.Goals as goal

pub loop-range-preserved : goal.loop-range-preserved
loop-range-preserved c =
    let ranges = c.args.ranges.now in
    let i = c.loop-range.range-index in
    let range = c.range-item.result in
    let split : drop i ranges ≡ range ∷ drop (i + 1) ranges =
    subst (λ list. drop i list ≡ range ∷ drop (i + 1) list) c.as_slice-range-items.ensures (drop_here c.as_slice-range-items.result.now i range c.loop-range-test.true c.range-item.is) in
    let left = length (tuples (objects_of (drop (i + 1) ranges))) in
    let most = 2 ^ 64 - 1 in
    let long : c.len.result ≡ length range.value = c.len.ensures ∙ ap length c.deref.ensures in
    record {
      fits = (let fits = c.saturating_mul-count.type_inv in omega (arith, fits));
      counted =
          capped_product most c.loop-range.count c.len.result left c.saturating_mul-count.result c.saturating_mul-count.ensures
          ∙ ap (λ n. min (c.loop-range.count * n) most) (ap (λ n. n * left) long ∙ sym (tuples-length range.value (objects_of (drop (i + 1) ranges))) ∙ ap (λ some. length (tuples (objects_of some))) (sym split))
          ∙ c.loop-range.invariant.counted;
    }

pub returns : goal.returns
returns c =
    let read : drop c.loop-range.range-index c.as_slice-range-items.result.now ≡ [] = grind (arith, common_steps) in
    let none : drop c.loop-range.range-index c.args.ranges.now ≡ [] = subst (λ list. drop c.loop-range.range-index list ≡ []) c.as_slice-range-items.ensures read in
    let fits = c.loop-range.invariant.fits in
    let here : c.loop-range.count ≡ min (c.loop-range.count * 1) (2 ^ 64 - 1) = omega (arith, fits) in
    here ∙ ap (λ some. min (c.loop-range.count * length (tuples (objects_of some))) (2 ^ 64 - 1)) (sym none) ∙ c.loop-range.invariant.counted
