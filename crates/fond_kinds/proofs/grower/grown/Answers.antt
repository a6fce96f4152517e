use Rattle.std.proofs.Common.{◌∙◌, ℕ, List, Option, length, ap, subst, below_more, arith}
use Rattle.fond_kinds.specs.Forests.{IsWhole}
use Rattle.fond_kinds.proofs.grower.grown.Goals as goal

pub loop-start-preserved : goal.loop-start-preserved
loop-start-preserved c = record {
  resting = c.in_ok-grow.ensures.resting;
  kept = c.in_ok-grow.ensures.kept ∙ c.loop-start.invariant.kept;
  empty = c.in_ok-grow.ensures.empty;
  added = below_more _ _ (λ number early. c.in_ok-grow.ensures.grown number (c.loop-start.invariant.added number early)) c.in_ok-grow.ensures.added;
}

pub loop-start-init : goal.loop-start-init
loop-start-init c = record {
  resting = c.in_ok-grower.ensures.resting;
  kept = c.in_ok-grower.ensures.parents;
  empty = c.new-path.ensures.items;
  added = λ number early. absurd (omega arith);
}

pub returns : goal.returns
returns c =
    let grower = c.loop-start.grower in
    let growing = c.loop-start.invariant.resting.growing in
    let kept = c.loop-start.invariant.kept in
    subst (λ (parents : List (Option ℕ)). IsWhole parents grower.links) kept record {
      marks = grower.done.items;
      is = growing.forest;
      all = λ number low. c.loop-start.invariant.added number (omega (arith, low, ap length kept, c.loop-start-test.false));
      within = growing.within;
      ups = growing.ups;
      times = growing.times;
      roots = growing.roots;
      jumps = growing.jumps;
    }
