use Rattle.std.proofs.Common.{◌≡◌, ◌∙◌, List, ap, sym, subst, refl, arith, ⊎_elim}
use Rattle.std.specs.Prelude.{slice_get}
use Rattle.std.specs.List.{list_all}
use Rattle.std.proofs.lemmas.Bool.{cases_lt}
use Rattle.std.proofs.lemmas.Option.{same_Some, slice_get_within}
use Rattle.fond_task.specs.declared.task.Entry.{Entry}
use Rattle.fond_task.specs.Images.{image}
use Rattle.fond_task.specs.Within.{is_entry_within}
use Rattle.fond_task.proofs.Found.{all_at}
use Rattle.fond_task.specs.declared.rule.Target.{Target}
use Rattle.fond_rules.specs.Targets.{MeetsEarlier}
use Rattle.fond_rules.proofs.rule_test.RuleTest.each_meets.Goals as goal

pub image_meets-requires-clause-within : goal.image_meets-requires-clause-within
image_meets-requires-clause-within c = all_at (list_all (is_entry_within _)) c.args.outcomes.now c.loop-i.i c.get.result.now c.requires.within c.get.ensures

pub loop-i-preserved : goal.loop-i-preserved
loop-i-preserved c =
    let setting = c.args.self.now in
    let i = c.loop-i.i in
    record {
      long = c.image_meets.ensures.same_length ∙ c.loop-i.invariant.long;
      met = λ k target entries small at there. ⊎_elim
          (λ lt. c.loop-i.invariant.met k target entries lt at there)
          (λ ge.
          let same : i ≡ k = omega (arith, small, ge) in
          let own_target : c.get-in-loop-i.result.now ≡ target = same_Some c.get-in-loop-i.result.now target (sym c.get-in-loop-i.ensures ∙ ap (slice_get c.args.targets.now) same ∙ at) in
          let own_entries : c.get.result.now ≡ entries = same_Some c.get.result.now entries (sym c.get.ensures ∙ ap (slice_get c.args.outcomes.now) same ∙ there) in
          let P : Target → Type 0 = λ target. MeetsEarlier setting.task.now setting.rules.now setting.number (image c.args.cond.now entries) target in
          let Q : List Entry → Type 0 = λ entries. MeetsEarlier setting.task.now setting.rules.now setting.number (image c.args.cond.now entries) c.get-in-loop-i.result.now in
          subst P own_target (subst Q own_entries (c.if-not-image_meets.ensures.decides.0 refl)))
          (cases_lt k i);
    }

pub returns-clause-decides : goal.returns-clause-decides
returns-clause-decides c = (
  λ e. (
    omega (arith, c.len.ensures, c.len-2.ensures, c.if-len.false),
    λ at target entries is there. c.loop-i.invariant.met at target entries (omega (arith, slice_get_within c.args.targets.now at target is, c.loop-i-test.false, c.len-i-end.ensures)) is there,
  ),
  λ each. refl,
)
