-- Choices that win are ready once those of smaller ranks have rules.
use Rattle.std.proofs.Common.{inl, inr, ◌≡◌, ℕ, ◌<◌, List, Bool, true, Some, length, get_or, slice_get, refl, sym, ap, ◌∙◌, subst, ⊎_elim, arith, true≢false}
use Rattle.std.specs.Prelude.{◌⊎◌, Contains}
use Rattle.std.proofs.lemmas.Bool.{cases_lt}
use Rattle.std.proofs.lemmas.Option.{same_Some, slice_get_within, get_or_from_slice_get}
use Rattle.fond_state.specs.Games.{start, onward}
use Rattle.fond_task.specs.Steps.{next_state}
use Rattle.fond_task.specs.Truth.{is_true}
use Rattle.fond_task.specs.declared.task.Act.{Act}
use Rattle.fond_task.specs.declared.task.Task.{Task}
use Rattle.fond_task.proofs.Lists.{number_of}
use Rattle.fond_task.proofs.Reached.{length-next_state}
use Rattle.fond_task.specs.Policies.{IsNext}
use Rattle.fond_explicit.specs.Answers.{ChoiceView, HasSmaller, IsNearer, IsReachable, IsWinning}
use Rattle.fond_draft.specs.Places.{AreInOrder, HavePlaced}
use Rattle.fond_draft.specs.Plans.{AreBelow, IsPlan, IsReady}
use Rattle.fond_draft.specs.declared.plan.Plan.{Plan}
use Rattle.fond_task.specs.declared.rule.Rule.{Rule}
use Rattle.fond_draft.specs.Targets.{HasRule, IsCovered}
use Rattle.fond_draft.specs.declared.order.Place.{Place}

-- reachable states have a truth value for each atom
pub reachable_long : (task : Task) (from : List Bool) → length from ≡ length task.atoms → (state : List Bool) → IsReachable task from state → length state ≡ length task.atoms
reachable_long task from long state start = long
reachable_long task from long state (onward before act after reached open_ may next) =
    ap length next.given ∙ length-next_state before next.outcome ∙ reachable_long task from long before reached

module _ (task : Task) (plan : Plan) (is_plan : IsPlan task plan) (states : List (List Bool)) (earlier : List Rule) (below : AreBelow task earlier plan states) (places : List Place) (order : AreInOrder plan.choices states places)
    (rules : List Rule) (kept : (state : List Bool) → HasRule earlier state → HasRule rules state) (done : ℕ) (placed : HavePlaced plan.choices places done rules) where
  -- in a listed state with a choice of a smaller rank than the next place, a rule holds
  smaller_placed : (place : Place) → slice_get places done ≡ Some place → (near : ChoiceView) → Contains plan.choices near → Contains states near.state → near.rank < place.rank → HasRule rules near.state
  smaller_placed place at near one listed smaller =
      let own = number_of plan.choices near one in
      let other : Place = record { rank = near.rank; number = own.0 } in
      let there = number_of places other (order.all own.0 near own.1 listed) in
      ⊎_elim
      (λ lt. placed there.0 other near lt there.1 own.1)
      (λ ge.
      let within : there.0 < length places = slice_get_within places there.0 other there.1 in
      let rises = order.rising done there.0 place (omega (arith, ge)) within in
      let early : (get_or places done place).rank ≡ place.rank = ap (λ (p : Place). p.rank) (get_or_from_slice_get places done place place at) in
      let late : (get_or places there.0 place).rank ≡ near.rank = ap (λ (p : Place). p.rank) (get_or_from_slice_get places there.0 other place there.1) in
      absurd (omega (arith, rises, early, late, smaller)))
      (cases_lt there.0 done)

  module _ (place : Place) (at : slice_get places done ≡ Some place) (choice : ChoiceView) (ranked : place.rank ≡ choice.rank) (one : Contains plan.choices choice) (listed : Contains states choice.state) where
    covered_by : (after : List Bool) → (near : HasSmaller plan.choices choice.rank after) → IsCovered task earlier after ⊎ Contains states after → IsCovered task rules after
    covered_by after near (inl (inl goal)) = inl goal
    covered_by after near (inl (inr has)) = inr (kept after has)
    covered_by after near (inr has) = inr (subst (λ (s : List Bool). HasRule rules s) near.here
        (smaller_placed place at near.choice near.one (subst (λ (s : List Bool). Contains states s) (sym near.here) has) (subst (λ (n : ℕ). near.choice.rank < n) (sym ranked) near.smaller)))

    -- a nearer state to which the choice leads is a goal, or a rule holds in it
    covered : (after : List Bool) → IsNext task choice.state choice.act after → IsNearer task plan.choices choice.rank after → IsCovered task rules after
    covered after next (inl goal) = inl goal
    covered after next (inr near) = covered_by after near (below.closed choice one listed after next near)

    -- the choice at the next place is ready
    pub ready_next : IsReady task rules choice
    ready_next = record {
      long = reachable_long task is_plan.from is_plan.long choice.state wins.reachable;
      applicable = wins.applicable;
      targets = λ act is. record {
        fair = λ is_fair.
            let led = wins.fair (λ unfair. true≢false (sym unfair.flagged ∙ ap (λ (a : Act). a.unfair) (same_Some unfair.act act (sym unfair.numbered ∙ is)) ∙ is_fair)) in
            let next = led.1 in
            let same : next.act ≡ act = same_Some next.act act (sym next.numbered ∙ is) in (
              next.outcome,
              subst (λ (a : Act). Contains a.outcomes next.outcome) same next.one,
              subst (λ (s : List Bool). IsCovered task rules s) next.given (covered led.0 led.1 led.2),
            );
        unfair = λ is_unfair entries has.
            let next : IsNext task choice.state choice.act (next_state choice.state entries) =
            record { act = act; numbered = is; holds = subst (λ (a : Act). IsHeld choice.state a) (same_Some wins.applicable.act act (sym wins.applicable.numbered ∙ is)) wins.applicable.holds; outcome = entries; one = has; given = refl } in
            covered (next_state choice.state entries) next (wins.unfair (record { act = act; numbered = is; flagged = is_unfair }) (next_state choice.state entries) next);
      };
    }
      where
        wins : IsWinning task is_plan.from plan.choices choice
        wins = is_plan.winning.each choice one

        IsHeld : List Bool → Act → Type 0
        IsHeld state act = is_true state act.pre ≡ true
