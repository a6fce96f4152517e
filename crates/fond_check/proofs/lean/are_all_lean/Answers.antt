use Rattle.std.proofs.Common.{sym, subst}
use Rattle.fond_policy.specs.Items.{Belong}
use Rattle.fond_policy.proofs.Ruled.{firsts_belong}
use Rattle.fond_check.proofs.lean.are_all_lean.Goals as goal

pub are_items_lean-requires-clause-belong : goal.are_items_lean-requires-clause-belong
are_items_lean-requires-clause-belong c = subst (Belong c.args.t.now) (sym c.requires.same) (firsts_belong c.args.t.now c.args.rules.now c.requires.belong)
