use Rattle.std.proofs.Common.{◌≡◌, ◌∙◌, ◌<◌, ℕ, ◌+◌, [], get_or, length, slice_get, Some, sym, ap, subst, arith}
use Rattle.std.proofs.lemmas.Option.{same_Some, slice_get-get_or}
use Rattle.fond_task.specs.declared.task.Act.{Act}
use Rattle.fond_task.specs.Steps.{next_state}
use Rattle.fond_exec.specs.Duels.{weight}
use Rattle.fond_exec.specs.Runs.{Run}
use Rattle.fond_exec.specs.Steps.{IsChosen}
use Rattle.fond_exec.proofs.Chosen.{counted_outcomes}
use Rattle.fond_exec.proofs.Weighed.{IsGreatest, greatest_kept, greatest_more, is_heaviest, weigh_outcome}
use Rattle.fond_exec.proofs.duel.heaviest.Goals as goal
use Rattle.fond_exec.proofs.duel.heaviest.Goals.{then-found-greatest, else-found-greatest}

pub weight_after-found-requires : goal.weight_after-found-requires
weight_after-found-requires c =
    let P : Run → Type 0 = λ r. (a : Act) × IsChosen r.task r.rules r.state c.args.act a × (c.loop-outcome.outcome < length a.outcomes) in
    subst P (sym c.loop-outcome.invariant.same) (c.requires.0, c.requires.1, omega (arith, c.loop-outcome-test.true, c.requires.2))

pub loop-outcome-preserved : goal.loop-outcome-preserved
loop-outcome-preserved c =
    let so_far = c.loop-outcome.invariant in
    let run = c.args.run.now in
    let k = c.loop-outcome.outcome in
    let found = c.weight_after-found.result in
    let now = c.if-found-greatest in
    record {
      same = c.weight_after-found.ensures.same ∙ so_far.same;
      greatest = λ a at.
          let weigh : ℕ → ℕ = weigh_outcome run.task run.rules run.state a in
          let own : c.requires.0 ≡ a = same_Some c.requires.0 a (sym c.requires.1.numbered ∙ at) in
          let counted : c.args.count ≡ length a.outcomes = c.requires.2 ∙ ap (λ (one : Act). length one.outcomes) own in
          let entries = get_or a.outcomes k [] in
          let picked : slice_get a.outcomes k ≡ Some entries = slice_get-get_or a.outcomes k [] (omega (arith, c.loop-outcome-test.true, counted)) in
          let P : Run → Type 0 = λ r. slice_get r.task.acts c.args.act ≡ Some a → found ≡ weight r.task r.rules (next_state r.state entries) in
          let is : found ≡ weigh k = subst P so_far.same (λ own_at. c.weight_after-found.ensures.weight a entries own_at picked) at in
          elim now.branch [
            | then-found-greatest w ↦ subst (λ b. IsGreatest weigh (k + 1) b now.greatest) (sym w.best-is) (subst (λ n. IsGreatest weigh (k + 1) k n) (sym w.greatest-is)
                (greatest_more weigh k c.loop-outcome.best c.loop-outcome.greatest found is (so_far.greatest a at) w.if-found-greatest.true))
            | else-found-greatest w ↦ subst (λ b. IsGreatest weigh (k + 1) b now.greatest) (sym w.best-is) (subst (λ n. IsGreatest weigh (k + 1) c.loop-outcome.best n) (sym w.greatest-is)
                (greatest_kept weigh k c.loop-outcome.best c.loop-outcome.greatest found is (so_far.greatest a at) w.if-found-greatest.false))
          ];
    }

pub returns-clause-heaviest : goal.returns-clause-heaviest
returns-clause-heaviest c =
    let run = c.args.run.now in
    λ a at.
    let own : c.requires.0 ≡ a = same_Some c.requires.0 a (sym c.requires.1.numbered ∙ at) in
    let counted : c.args.count ≡ length a.outcomes = c.requires.2 ∙ ap (λ (one : Act). length one.outcomes) own in
    let end : c.loop-outcome.outcome ≡ length a.outcomes = omega (arith, counted, c.loop-outcome-test.false, c.loop-outcome.auto.outcome-end) in
    let some = counted_outcomes run.task c.args.act a at in
    is_heaviest run.task run.rules run.state a c.loop-outcome.outcome c.loop-outcome.best c.loop-outcome.greatest end (omega (arith, end, some.0)) (c.loop-outcome.invariant.greatest a at)
