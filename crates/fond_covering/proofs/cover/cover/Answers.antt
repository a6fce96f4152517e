use Rattle.std.proofs.Common.{subst}
use Rattle.fond_covering.specs.Coverings.{MayBeCovered}
use Rattle.fond_covering.proofs.cover.cover.Goals as goal

pub cover_rules-requires-clause-sure : goal.cover_rules-requires-clause-sure
cover_rules-requires-clause-sure c =
    let task = c.args.t.now in
    let right = subst (MayBeCovered task) c.in-Policy.is c.requires in
    right.2.rules_sure
