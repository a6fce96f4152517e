use Rattle.std.proofs.Common.{sym, subst}
use Rattle.fond_policy.specs.Items.{Belong}
use Rattle.fond_policy.proofs.Ruled.{firsts_belong, rules_belong}
use Rattle.fond_policy.proofs.conditions.Conditions.belong_to.Goals as goal

pub returns : goal.returns
returns c =
    let task = c.args.t.now in
    let rules = c.self.inside.rules.now in (
      λ e. subst (Belong task) c.self.view_is (firsts_belong task rules (c.belong_to.ensures.yes e)),
      λ belong. c.belong_to.ensures.no (rules_belong task rules (subst (Belong task) (sym c.self.view_is) belong)),
    )
