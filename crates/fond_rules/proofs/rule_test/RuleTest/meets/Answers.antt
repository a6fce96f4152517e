use Rattle.std.proofs.Common.{◌≡◌, ◌∙◌, ℕ, length, sym, subst, Decides}
use Rattle.std.specs.Prelude.{IsTrue}
use Rattle.std.proofs.lemmas.Option.{same_Some}
use Rattle.fond_state.specs.Cubes.{CubeLiesIn}
use Rattle.fond_task.specs.Within.{is_form_within}
use Rattle.fond_task.specs.declared.rule.Rule.{Rule}
use Rattle.fond_task.specs.declared.rule.Target.{Target}
use Rattle.fond_rules.specs.Targets.{MeetsEarlier}
use Rattle.fond_rules.proofs.Held.{held_at}
use Rattle.fond_rules.proofs.rule_test.RuleTest.meets.Goals as goal

pub is_yes-requires : goal.is_yes-requires
is_yes-requires c =
    let task = c.args.self.now.task.now in
    let Within : ℕ → Type 0 = λ atoms. IsTrue (is_form_within atoms task.goal) in
    subst Within (sym c.requires) task.goal_within

pub covers-requires : goal.covers-requires
covers-requires c =
    let test = c.args.self.now in
    held_at test.rules.now c.in-Rule.other c.get.result.now c.get.ensures (λ rule. length rule.cond ≡ length test.task.now.atoms) test.rules_over ∙ sym c.requires

pub returns-in-Goal : goal.returns-in-Goal
returns-in-Goal c =
    let test = c.args.self.now in
    let P : Target → Type 0 = λ target. Decides c.is_yes.result (MeetsEarlier test.task.now test.rules.now test.number c.args.cube.now target) in
    subst P (sym c.in-Goal.is) (λ e. (tt, c.is_yes.ensures.0 e), λ met. c.is_yes.ensures.1 met.1)

pub returns-then-other-self : goal.returns-then-other-self
returns-then-other-self c =
    let test = c.args.self.now in
    let cube = c.args.cube.now in
    let rule = c.get.result.now in
    let P : Target → Type 0 = λ target. Decides c.covers.result (MeetsEarlier test.task.now test.rules.now test.number cube target) in
    let Lies : Rule → Type 0 = λ rule. CubeLiesIn cube rule.cond in
    subst P (sym c.in-Rule.is) (
      λ e. (c.if-other-self.true, (rule, c.get.ensures, c.covers.ensures.0 e)),
      λ met. let same : met.1.0 ≡ rule = same_Some met.1.0 rule (sym met.1.1 ∙ c.get.ensures) in c.covers.ensures.1 (subst Lies same met.1.2),
    )
