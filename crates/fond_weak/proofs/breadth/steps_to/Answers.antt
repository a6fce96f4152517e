use Rattle.std.proofs.Common.{◌<◌, List, Option, Some, reverse, length, sym, ap, ◌∙◌, subst, arith}
use Rattle.fond_task.specs.declared.plan_step.PlanStep.{PlanStep}
use Rattle.fond_weak.specs.Trees.{LeadsTo}
use Rattle.fond_weak.specs.Weak.{IsWeakPlan}
use Rattle.fond_weak.specs.declared.tree.Link.{Link}
use Rattle.fond_weak.proofs.Found.{plan_back, plan_first}
use Rattle.fond_weak.proofs.Lists.{element_at, read_at}
use Rattle.fond_weak.proofs.breadth.steps_to.Goals as goal

pub loop-link-smaller : goal.loop-link-smaller
loop-link-smaller c =
    let tree = c.args.tree.now in
    let found = c.requires.tree in
    let at = c.loop-link.at in
    let own = element_at tree.states at c.loop-link.invariant.there in
    let within : at < length tree.links.items = omega (arith, c.loop-link.invariant.there, found.counted) in
    let has = read_at tree.links.items at c.index.result.now within c.index.ensures ∙ ap (λ (l : Option Link). Some l) c.in-Some.is in
    let leads : LeadsTo c.args.setting.now.task.now c.args.setting.now.pairs.now tree.states at c.in-Some.link own.0 = found.linked at own.0 (Some c.in-Some.link) own.1 has in
    leads.earlier

pub loop-link-preserved : goal.loop-link-preserved
loop-link-preserved c =
    let setting = c.args.setting.now in
    let tree = c.args.tree.now in
    let found = c.requires.tree in
    let before = c.loop-link.invariant in
    let at = c.loop-link.at in
    let link = c.in-Some.link in
    let own = element_at tree.states at before.there in
    let within : at < length tree.links.items = omega (arith, before.there, found.counted) in
    let has = read_at tree.links.items at c.index.result.now within c.index.ensures ∙ ap (λ (l : Option Link). Some l) c.in-Some.is in
    let leads : LeadsTo setting.task.now setting.pairs.now tree.states at link own.0 = found.linked at own.0 (Some link) own.1 has in
    record {
      there = omega (arith, leads.earlier, before.there);
      plan = λ other is.
          let P : List PlanStep → Type 0 = λ steps. IsWeakPlan setting.task.now setting.pairs.now other (reverse steps) in
          subst P (sym c.in_ok-push.ensures.items)
          (plan_back setting.task.now setting.pairs.now setting.from.now tree.states tree.links.items found at own.0 link own.1 has c.loop-link.steps.items (before.plan own.0 own.1) other is);
    }

pub returns : goal.returns
returns c =
    let setting = c.args.setting.now in
    let tree = c.args.tree.now in
    let found = c.requires.tree in
    let before = c.loop-link.invariant in
    let at = c.loop-link.at in
    let own = element_at tree.states at before.there in
    let within : at < length tree.links.items = omega (arith, before.there, found.counted) in
    let has = read_at tree.links.items at c.index.result.now within c.index.ensures ∙ ap (λ (l : Option Link). Some l) c.in_default.is in
    let P : List PlanStep → Type 0 = λ steps. IsWeakPlan setting.task.now setting.pairs.now setting.from.now steps in
    subst P (sym (c.of.ensures ∙ c.reverse.ensures.items))
    (plan_first setting.task.now setting.pairs.now setting.from.now tree.states tree.links.items found at own.0 own.1 has (reverse c.loop-link.steps.items) (before.plan own.0 own.1))
