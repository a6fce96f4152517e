use Rattle.std.proofs.Common.{subst, Decides}
use Rattle.fond_task.specs.Layers.{CubeView}
use Rattle.fond_rules.specs.Targets.{MeetsEarlier}
use Rattle.fond_rules.proofs.rule_test.RuleTest.image_meets.Goals as goal

pub returns-clause-decides : goal.returns-clause-decides
returns-clause-decides c =
    let setting = c.args.self.now in
    let P : CubeView → Type 0 = λ cube. Decides c.meets.result (MeetsEarlier setting.task.now setting.rules.now setting.number cube c.args.target) in
    subst P c.image_of.ensures.image c.meets.ensures
