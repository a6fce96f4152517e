-- A round after a cascade.
use Rattle.std.proofs.Common.{◌≡◌, ℕ, ◌<◌, ◌≤◌, List, Bool, true, false, length, get_or, sym, ap, ◌∙◌, ⊎_elim, inl, arith}
use Rattle.std.specs.Prelude.{if◌then◌else◌}
use Rattle.std.specs.List.{list_all, list_any}
use Rattle.std.proofs.lemmas.Bool.{false≢true, cases_lt, or_cases, or_left, or_right}
use Rattle.std.proofs.lemmas.List.{get_or_past}
use Rattle.fond_fixpoint.specs.declared.fate.Fate.{Fate}
use Rattle.fond_fixpoint.specs.declared.fate.Fate.TheVariants.{Open, Ranked, Fallen}
use Rattle.fond_fixpoint.specs.Moves.{Move, move_at}
use Rattle.fond_fixpoint.specs.Fates.{fate_of, is_marked, fell_before, fell_in, forces}
use Rattle.fond_fixpoint.specs.Rounds.{IsRound}
use Rattle.fond_fixpoint.specs.Cascades.{IsSettledMore, IsCascade}
use Rattle.fond_fixpoint.proofs.Tests.{all_then, any_then}

module _ (goals : List Bool) (moves : List Move) (round after : ℕ) (old new : List Fate) (now : IsRound goals moves round 0 old) (cascade : IsCascade moves round after old new) where
  each : (node : ℕ) → IsSettledMore round after (fate_of old node) (fate_of new node)
  each node = ⊎_elim
      (λ lt. cascade.each node lt)
      (λ ge. inl (get_or_past new node Open (omega (arith, cascade.whole)) ∙ sym (get_or_past old node Open ge)))
      (cases_lt node (length old))

  marks : (node : ℕ) → is_marked (fate_of new node) ≡ get_or goals node false
  marks node = ⊎_elim
      (λ same. ap is_marked same ∙ now.goals_hold node)
      (λ falls. ap is_marked falls.now ∙ sym (ap is_marked falls.was) ∙ now.goals_hold node)
      (each node)

  never_ranked : (node rank by : ℕ) → ¬ fate_of new node ≡ Ranked rank by
  never_ranked node rank by is = ⊎_elim
      (λ same. (let small = now.below node rank by (sym same ∙ is) in omega (arith, small)))
      (λ falls. (let wrong : Fallen falls.round ≡ Ranked rank by = sym falls.now ∙ is in absurd (cc)))
      (each node)

  before_stays : (fell node : ℕ) → fell_before fell (fate_of old node) ≡ true → fell_before fell (fate_of new node) ≡ true
  before_stays fell node was = ⊎_elim
      (λ same. ap (fell_before fell) same ∙ was)
      (λ falls. absurd (false≢true (sym (ap (fell_before fell) falls.was) ∙ was)))
      (each node)

  in_stays : (fell node : ℕ) → fell_in fell (fate_of old node) ≡ true → fell_in fell (fate_of new node) ≡ true
  in_stays fell node was = ⊎_elim
      (λ same. ap (fell_in fell) same ∙ was)
      (λ falls. absurd (false≢true (sym (ap (fell_in fell) falls.was) ∙ was)))
      (each node)

  forces_stays : (fell : ℕ) (move : Move) → forces fell old move ≡ true → forces fell new move ≡ true
  forces_stays fell move was = ⊎_elim
      (λ early. or_left _ _ (any_then (λ node. fell_before fell (fate_of old node)) (λ node. fell_before fell (fate_of new node)) (before_stays fell) move.targets early))
      (λ here. or_right (list_any (λ node. fell_before fell (fate_of new node)) move.targets) _ (go move.unfair here))
      (or_cases _ _ was)
    where
      go : (unfair : Bool) → (if unfair then list_any (λ node. fell_in fell (fate_of old node)) move.targets else list_all (λ node. fell_in fell (fate_of old node)) move.targets) ≡ true →
          (if unfair then list_any (λ node. fell_in fell (fate_of new node)) move.targets else list_all (λ node. fell_in fell (fate_of new node)) move.targets) ≡ true
      go true here = any_then (λ node. fell_in fell (fate_of old node)) (λ node. fell_in fell (fate_of new node)) (in_stays fell) move.targets here
      go false here = all_then (λ node. fell_in fell (fate_of old node)) (λ node. fell_in fell (fate_of new node)) (in_stays fell) move.targets here

  lost : (fell : ℕ) → (node : ℕ) → fate_of new node ≡ Fallen fell → round ≤ fell → (number : ℕ) → number < length moves → (move_at moves number).source ≡ node → forces fell new (move_at moves number) ≡ true
  lost fell node is late number there source = or_left _ _ (cascade.ruined number there fell (ap (fate_of new) source ∙ is) late)

  falls_early : (node fell : ℕ) → fate_of new node ≡ Fallen fell → fell < after
  falls_early node fell is = ⊎_elim
      (λ same. (let small = (now.falls_hold node fell (sym same ∙ is)).0 in omega (arith, small, cascade.later)))
      (λ falls. (let both : Fallen falls.round ≡ Fallen fell = sym falls.now ∙ is in let same_round : falls.round ≡ fell = cc in omega (arith, falls.early)))
      (each node)

  falls : (node fell : ℕ) → fate_of new node ≡ Fallen fell → (number : ℕ) → number < length moves → (move_at moves number).source ≡ node → forces fell new (move_at moves number) ≡ true
  falls node fell is number there source = ⊎_elim
      (λ same. forces_stays fell (move_at moves number) ((now.falls_hold node fell (sym same ∙ is)).1 number there source))
      (λ falls. (
      let both : Fallen falls.round ≡ Fallen fell = sym falls.now ∙ is in
      let same_round : falls.round ≡ fell = cc in
      lost fell node is (omega (arith, falls.late)) number there source))
      (each node)

  -- what holds in a round holds after a cascade
  pub cascaded : IsRound goals moves after 0 new
  cascaded = record {
    whole = cascade.whole ∙ now.whole;
    goals_hold = marks;
    ranks_hold = λ node rank by is. absurd (never_ranked node rank by is);
    below = λ node rank by is. absurd (never_ranked node rank by is);
    falls_hold = λ node fell is. (falls_early node fell is, falls node fell is);
    few = omega (arith, cascade.few, now.whole);
  }
