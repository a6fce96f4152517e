use Rattle.std.proofs.Common.{ap, refl, ◌∙◌, slice_get}
use Rattle.fond_form.specs.declared.table.LineKind.TheVariants as k
use Rattle.fond_cert.specs.declared.due.Group.TheVariants as g
use Rattle.fond_cert.specs.Drafts.{with_cube, with_goal_item}
use Rattle.fond_cert.specs.Filled.{pair_of, fair_of, unfair_of, goal_item_of, rule_item_of, ranked_item_of, row_of}
use Rattle.fond_cert.specs.declared.values.LineValues.{LineValues}
use Rattle.fond_cert.proofs.Filled.{grown_as, grown_by, same_some}
use Rattle.fond_cert.proofs.draft.Draft.take.Goals as goal

pub returns-in-Cube : goal.returns-in-Cube
returns-in-Cube c = rw c.in-Cube.is (grown_as c.args.group k.Cube (λ m. m.0) (with_cube c.args.group c.args.self.now) c.args.self.now (λ m. refl) _ _ _ _ c.add_cube_of.ensures (λ task m of hold. same_some _ _ (c.cube_of.ensures.cube ∙ ap (λ (values : LineValues). values.cube) hold)))

pub returns-in-Pair : goal.returns-in-Pair
returns-in-Pair c = rw c.in-Pair.is (grown_by c.args.group g.Pair k.Pair pair_of c.args.self.now (λ m. refl) _ _ _ _ c.add_pair.ensures c.pair_of.ensures)

pub returns-in-FairRule : goal.returns-in-FairRule
returns-in-FairRule c = rw c.in-FairRule.is (grown_by c.args.group g.Rule k.FairRule fair_of c.args.self.now (λ m. refl) _ _ _ _ c.add_rule.ensures c.fair_of.ensures)

pub returns-in-UnfairRule : goal.returns-in-UnfairRule
returns-in-UnfairRule c = rw c.in-UnfairRule.is (grown_by c.args.group g.Rule k.UnfairRule unfair_of c.args.self.now (λ m. refl) _ _ _ _ c.add_rule-in-UnfairRule.ensures c.unfair_of.ensures)

pub returns-in-GoalItem : goal.returns-in-GoalItem
returns-in-GoalItem c = rw c.in-GoalItem.is (grown_as c.args.group k.GoalItem goal_item_of (with_goal_item c.args.group c.args.self.now) c.args.self.now (λ m. refl) _ _ _ _ c.add_goal_item.ensures c.goal_item_of.ensures)

pub returns-in-RuleItem : goal.returns-in-RuleItem
returns-in-RuleItem c = rw c.in-RuleItem.is (grown_by c.args.group g.Item k.RuleItem rule_item_of c.args.self.now (λ m. refl) _ _ _ _ c.add_item.ensures c.rule_item_of.ensures)

pub returns-in-Reach : goal.returns-in-Reach
returns-in-Reach c = rw c.in-Reach.is (grown_by c.args.group g.Reach k.Reach (λ m. m.0) c.args.self.now (λ m. refl) _ _ _ _ c.add_reach.ensures (λ task m of hold. c.number.ensures m.0 (ap (λ (values : LineValues). slice_get values.numbers 0) hold)))

pub returns-in-Start : goal.returns-in-Start
returns-in-Start c = rw c.in-Start.is (grown_by c.args.group g.Start k.Start (λ m. m.0) c.args.self.now (λ m. refl) _ _ _ _ c.add_start.ensures (λ task m of hold. c.short.ensures m.0 (ap (λ (values : LineValues). slice_get values.numbers 0) hold) of.0))

pub returns-in-Row : goal.returns-in-Row
returns-in-Row c = rw c.in-Row.is (grown_by c.args.group g.Row k.Row row_of c.args.self.now (λ m. refl) _ _ _ _ c.add_row.ensures c.row_of.ensures)

pub returns-in-RankedItem : goal.returns-in-RankedItem
returns-in-RankedItem c = rw c.in-RankedItem.is (grown_by c.args.group g.Ranked k.RankedItem ranked_item_of c.args.self.now (λ m. refl) _ _ _ _ c.add_ranked.ensures (λ task m of hold. let item = c.ranked_item_of.ensures task m of hold in let rank = c.number-rank.ensures m.1.0 (ap (λ (values : LineValues). slice_get values.numbers 1) hold) in λ i. (item i, rank i)))
