use Rattle.std.proofs.Common.{◌≡◌, ◌∙◌, List, slice_get, sym, ap, subst, Decides}
use Rattle.std.specs.List.{list_all}
use Rattle.std.proofs.lemmas.Bool.{and_parts}
use Rattle.std.proofs.lemmas.Option.{same_Some}
use Rattle.fond_task.specs.declared.task.Entry.{Entry}
use Rattle.fond_task.specs.Images.{image}
use Rattle.fond_task.specs.Within.{is_entry_within}
use Rattle.fond_task.proofs.Found.{all_at}
use Rattle.fond_task.specs.Rules.{AreMet, Meets}
use Rattle.fond_task.specs.declared.rule.Targets.{Targets}
use Rattle.fond_rules.specs.Targets.{EachMeets}
use Rattle.fond_rules.proofs.rule_test.RuleTest.are_met.Goals as goal

pub image_meets-requires-clause-within : goal.image_meets-requires-clause-within
image_meets-requires-clause-within c = all_at (list_all (is_entry_within _)) c.args.act.now.outcomes c.in-One.outcome c.get-entries.result.now (and_parts _ _ c.requires.within).1 (ap (λ (all : List (List Entry)). slice_get all c.in-One.outcome) (sym c.deref-in-One.ensures) ∙ c.get-entries.ensures)

pub returns-else-outcome-len-clause-decides : goal.returns-else-outcome-len-clause-decides
returns-else-outcome-len-clause-decides c =
    let setting = c.args.self.now in
    let act = c.args.act.now in
    let cond = c.args.cond.now in
    let own = c.get-entries.result.now in
    let P : Targets → Type 0 = λ targets. Decides c.image_meets.result (AreMet setting.task.now setting.rules.now setting.number cond act targets) in
    let Q : List Entry → Type 0 = λ entries. Meets setting.task.now setting.rules.now (image cond entries) c.in-One.target in
    subst P (sym c.in-One.is) (
      λ e. let met = c.image_meets.ensures.decides.0 e in (c.if-act.false, met.0, (own, ap (λ (all : List (List Entry)). slice_get all c.in-One.outcome) (sym c.deref-in-One.ensures) ∙ c.get-entries.ensures, met.1)),
      λ met.
          let same : met.2.0 ≡ own = same_Some met.2.0 own (sym met.2.1 ∙ ap (λ (all : List (List Entry)). slice_get all c.in-One.outcome) (sym c.deref-in-One.ensures) ∙ c.get-entries.ensures) in
          c.image_meets.ensures.decides.1 (met.1, subst Q same met.2.2),
    )

pub returns-then-act-2-clause-decides : goal.returns-then-act-2-clause-decides
returns-then-act-2-clause-decides c =
    let setting = c.args.self.now in
    let P : Targets → Type 0 = λ targets. Decides c.each_meets.result (AreMet setting.task.now setting.rules.now setting.number c.args.cond.now c.args.act.now targets) in
    let Q : List (List Entry) → Type 0 = λ outcomes. Decides c.each_meets.result (EachMeets setting.task.now setting.rules.now setting.number c.args.cond.now outcomes c.in-All.targets) in
    let told = subst Q c.deref-then-act-2.ensures c.each_meets.ensures.decides in
    subst P (sym c.in-All.is) (λ e. let met = told.0 e in (c.if-act-2.true, met.0, met.1), λ met. told.1 (met.1, met.2))
