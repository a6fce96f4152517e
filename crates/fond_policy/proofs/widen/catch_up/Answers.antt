use Rattle.std.proofs.Common.{◌∙◌}
use Rattle.std.specs.Prelude.{◌||◌}
use Rattle.fond_policy.proofs.Widened.{widened_twice}
use Rattle.fond_policy.proofs.widen.catch_up.Goals as goal

pub loop-open-preserved : goal.loop-open-preserved
loop-open-preserved g c =
    let task = c.args.t.now in
    let firsts = g.R.Firsts.firsts c.args.rules.now in
    let inv = c.loop-open.invariant in
    let told = c.sweep-open.ensures in
    record {
      pad = told.same_pad ∙ inv.pad;
      widened = (inv.widened.0 || c.sweep-open.result, widened_twice task firsts c.args.items.now c.loop-open.items c.sweep-open.new.items inv.widened.0 c.sweep-open.result inv.widened.1 told.widened);
    }
