use Rattle.std.proofs.Common.{◌≡◌, ◌<◌, ◌≤◌, ◌+◌, Bool, true, false, refl, sym, ◌∙◌, ap, subst, arith}
use Rattle.std.specs.Prelude.{if◌then◌else◌}
use Rattle.fond_task.specs.Layers.{CubeView}
use Rattle.fond_regress.specs.Weaker.{IsWeaker, literals}
use Rattle.fond_regress.proofs.settle.settle.Goals as goal

-- a cube that became another one has no fewer literals than that
not_more : (one two : CubeView) (x : Bool) → IsWeaker one two x → literals two ≤ literals one
not_more one two true weaker = omega (arith, weaker.fewer refl)
not_more one two false weaker = omega (arith, ap literals (weaker.none refl))

-- the second sweep drops a literal, or is the last one
steps_less : (one two three : CubeView) (x y : Bool) → IsWeaker one two x → IsWeaker two three y → literals three + (if y then 1 else 0) < literals one + 1
steps_less one two three x true first second = omega (arith, not_more one two x first, second.fewer refl)
steps_less one two three x false first second = omega (arith, not_more one two x first, ap literals (second.none refl))

pub loop-open-smaller : goal.loop-open-smaller
loop-open-smaller c =
    let one = c.loop-open.cube in
    let three = c.sweep-open.new.cube in
    let y = c.sweep-open.result in
    let less = steps_less one c.sweep_back.new.cube three c.sweep_back.result y c.sweep_back.ensures.weaker c.sweep-open.ensures.weaker in
    let Less : Bool → Type 0 = λ again. literals three + (if y then 1 else 0) < literals one + (if again then 1 else 0) in
    subst Less (sym c.loop-open-test.true) less

pub loop-open-preserved : goal.loop-open-preserved
loop-open-preserved c =
    let inv = c.loop-open.invariant in
    let first = c.sweep_back.ensures in
    let second = c.sweep-open.ensures in
    record {
      long = second.same_length ∙ first.same_length ∙ inv.long ∙ sym first.weaker.long ∙ sym second.weaker.long;
      same = second.weaker.long ∙ first.weaker.long ∙ inv.same;
      lies = λ atom sign is. inv.lies atom sign (first.weaker.lies atom sign (second.weaker.lies atom sign is));
      around = λ around long stable lies. second.around around long stable (first.around around long stable (inv.around around long stable lies));
      stable = second.stable;
    }

pub returns-clause-stable : goal.returns-clause-stable
returns-clause-stable c = c.loop-open.invariant.stable c.loop-open-test.false
