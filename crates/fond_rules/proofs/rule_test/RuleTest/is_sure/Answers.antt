use Rattle.std.proofs.Common.{◌≡◌, ◌∙◌, length, sym, ap, subst}
use Rattle.std.proofs.lemmas.Bool.{false≢true}
use Rattle.std.proofs.lemmas.Option.{same_Some}
use Rattle.fond_task.specs.declared.form.Kleene.TheVariants.{Yes}
use Rattle.fond_task.specs.declared.task.Act.{Act}
use Rattle.fond_task.specs.Values.{value}
use Rattle.fond_task.specs.Within.{is_act_within, is_form_within}
use Rattle.fond_task.proofs.Found.{all_at, pre_within}
use Rattle.fond_task.specs.Rules.{AreMet}
use Rattle.fond_rules.specs.Targets.{AllContradict}
use Rattle.fond_rules.proofs.rule_test.RuleTest.is_sure.Goals as goal
use Rattle.fond_rules.proofs.rule_test.RuleTest.is_sure.Goals.{then-is_yes, else-is_yes}

pub is_yes-requires : goal.is_yes-requires
is_yes-requires c =
    let task = c.args.self.now.task.now in
    rw (c.requires.cond_long) (ap (is_form_within (length task.atoms)) c.deref.ensures ∙ pre_within _ task.acts c.args.self.now.act c.get-act.result.now task.acts_within c.get-act.ensures)

pub are_met-requires-clause-within : goal.are_met-requires-clause-within
are_met-requires-clause-within c =
    let task = c.args.self.now.task.now in
    all_at (is_act_within _) task.acts c.args.self.now.act c.get-act.result.now task.acts_within c.get-act.ensures

pub returns-then-all_contradict-clause-decides : goal.returns-then-all_contradict-clause-decides
returns-then-all_contradict-clause-decides c =
    let setting = c.args.self.now in
    let act = c.get-act.result.now in
    let P : Act → Type 0 = λ act. AreMet setting.task.now setting.rules.now setting.number c.args.cond.now act c.args.self.now.targets.now in
    let tests : (value c.args.cond.now act.pre ≡ Yes) × AllContradict setting.pairs.now c.args.self.now.act c.args.cond.now =
    elim c.if-is_yes.branch [
      | then-is_yes w ↦ (ap (value c.args.cond.now) (sym c.deref.ensures) ∙ c.is_yes.ensures.0 w.if-is_yes.true, w.all_contradict.ensures.0 (sym w.value-is ∙ c.if-all_contradict.true))
      | else-is_yes w ↦ absurd (false≢true (sym w.if-is_yes.false ∙ sym w.value-is ∙ c.if-all_contradict.true))
    ] in (
      λ e. record {
        act = act;
        has_act = c.get-act.ensures;
        applicable = tests.0;
        barred = tests.1;
        met = c.are_met.ensures.decides.0 e;
      },
      λ sure. c.are_met.ensures.decides.1 (subst P (same_Some sure.act act (sym sure.has_act ∙ c.get-act.ensures)) sure.met),
    )
