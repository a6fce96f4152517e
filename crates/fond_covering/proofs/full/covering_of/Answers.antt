use Rattle.std.proofs.Common.{◌≡◌, ℕ, List, Bool, Some, length, slice_get}
use Rattle.fond_task.specs.Policies.{selected}
use Rattle.fond_task.proofs.Lists.{Contains_numbered}
use Rattle.fond_task.proofs.Reached.{reached_long}
use Rattle.fond_policy.specs.Items.{AreFirstsOver}
use Rattle.fond_policy.proofs.Ruled.{firsts_belong}
use Rattle.fond_policy.specs.Items.{firsts_of}
use Rattle.fond_covering.proofs.Exact.{full_over, full_starts, full_sure}
use Rattle.fond_covering.proofs.full.covering_of.Goals as goal

pub returns : goal.returns
returns c =
    let task = c.args.t.now in
    let rules = c.args.rules.now in
    let states = c.args.states.now in
    let items = c.in_ok-items.items in
    let told = c.in_ok-items.ensures in
    let over : AreFirstsOver (length task.atoms) (firsts_of rules) = λ number first at. (firsts_belong task rules c.requires.belong number first at).0 in
    let long : (number : ℕ) (state : List Bool) → slice_get states number ≡ Some state → length state ≡ length task.atoms = λ number state at. reached_long task (selected rules) state (c.requires.walk.reached state (Contains_numbered states number state at)) in
    record {
      few = told.few;
      over = full_over task rules states items over long told.counted told.full;
      sure = full_sure task rules states items over long told.counted told.full;
      starts = full_starts task rules states items over long told.counted told.full c.number_of-start.result task.init c.number_of-start.ensures;
    }
