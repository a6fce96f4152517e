use Rattle.std.proofs.Common.{◌∙◌, ap}
use Rattle.std.specs.Prelude.{◌||◌}
use Rattle.fond_policy.specs.Wider.{HaveWidened}
use Rattle.fond_policy.proofs.Widened.{widened_twice, wider_twice}
use Rattle.fond_policy.proofs.widen.settle.Given.{Over}
use Rattle.fond_policy.proofs.widen.settle.Goals as goal

-- after a pass that changed something, and the items that caught up, there are fewer literals
both : (g : Over) (c : goal.After-catch_up g) → HaveWidened c.args.t.now (g.R.Firsts.firsts c.args.rules.now) c.loop-items.items c.catch_up.new.items (c.pass.result || c.catch_up.ensures.widened.0)
both g c = widened_twice c.args.t.now (g.R.Firsts.firsts c.args.rules.now) c.loop-items.items c.pass.new.items c.catch_up.new.items c.pass.result c.catch_up.ensures.widened.0 c.pass.ensures.widened c.catch_up.ensures.widened.1

pub loop-items-preserved : goal.loop-items-preserved
loop-items-preserved g c =
    let inv = c.loop-items.invariant in
    let widened = both g c in
    record {
      pad = c.catch_up.ensures.same_pad ∙ c.pass.ensures.same_pad ∙ inv.pad;
      over = widened.over;
      sure = widened.sure;
      wider = wider_twice c.catch_up.new.items c.loop-items.items c.args.items.now widened.wider inv.wider;
    }

pub loop-items-smaller : goal.loop-items-smaller
loop-items-smaller g c = (both g c).fewer (ap (λ b. b || c.catch_up.ensures.widened.0) c.loop-items-test.true)
