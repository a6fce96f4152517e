use Rattle.std.proofs.Common.{sym, subst}
use Rattle.fond_policy.specs.Items.{Belong}
use Rattle.fond_policy.proofs.Ruled.{firsts_belong}
use Rattle.fond_check.proofs.check.item_fault.Goals as goal

pub first_bad_item-requires-clause-belong : goal.first_bad_item-requires-clause-belong
first_bad_item-requires-clause-belong c = subst (Belong c.args.t.now) (sym c.requires.same) (firsts_belong c.args.t.now c.args.rules.now c.requires.rules_belong.belong)
