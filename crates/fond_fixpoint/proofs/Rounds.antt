-- The first round, the end of a round, and the end of the last one.
use Rattle.std.proofs.Common.{◌≡◌, ℕ, ◌+◌, ◌<◌, ◌≤◌, List, [], ◌∷◌, Bool, true, false, cond, length, map, get_or, refl, sym, ap, ◌∙◌, subst, ⊎_elim, inl, inr, arith}
use Rattle.std.specs.Prelude.{◌⊎◌, ◌&&◌, ◌||◌, if◌then◌else◌, count_by}
use Rattle.std.specs.List.{list_all, list_any}
use Rattle.std.proofs.lemmas.Bool.{false≢true, true≢false, false_from_ne_true, lt-ltb, eq-eqb, cases_lt, or_cases, or_left, or_right}
use Rattle.std.proofs.lemmas.List.{length-map, get_or-map, get_or_past}
use Rattle.std.proofs.lemmas.List.Elements.{recursion_from_All}
use Rattle.std.proofs.lemmas.List.Folds.{list_any_at}
use Rattle.std.proofs.lemmas.List.Sums.{count_by-le-length, sum_by-cons}
use Rattle.std.proofs.Math.ListN as math
use Rattle.fond_fixpoint.specs.declared.fate.Fate.{Fate}
use Rattle.fond_fixpoint.specs.declared.fate.Fate.TheVariants.{Open, Goal, Ranked, Fallen}
use Rattle.fond_fixpoint.specs.Begun.{begun}
use Rattle.fond_fixpoint.specs.Moves.{Move, move_at}
use Rattle.fond_fixpoint.specs.Fates.{fate_of, is_open, is_marked, is_won, is_kept, fell_before, fell_in, forces, AreWithin, AreSettled}
use Rattle.fond_fixpoint.specs.Rounds.{IsRound, IsSpent, dropped}
use Rattle.fond_fixpoint.proofs.Tests.{all_then, any_then}
use Rattle.fond_fixpoint.proofs.Lost.{unfair_lost, fair_lost}

marked-begun : (b : Bool) → is_marked (begun b) ≡ b
marked-begun true = refl
marked-begun false = refl

not_ranked : (b : Bool) (rank by : ℕ) → ¬ begun b ≡ Ranked rank by
not_ranked true rank by is = cc
not_ranked false rank by is = cc

not_fallen : (b : Bool) (round : ℕ) → ¬ begun b ≡ Fallen round
not_fallen true round is = cc
not_fallen false round is = cc

-- what holds before the first round
pub begun_round : (goals : List Bool) (moves : List Move) → IsRound goals moves 0 1 (map begun goals)
begun_round goals moves = record {
  whole = length-map goals begun;
  goals_hold = λ node. ap is_marked (at node) ∙ marked-begun (get_or goals node false);
  ranks_hold = λ node rank by is. absurd (not_ranked (get_or goals node false) rank by (sym (at node) ∙ is));
  below = λ node rank by is. absurd (not_ranked (get_or goals node false) rank by (sym (at node) ∙ is));
  falls_hold = λ node round is. absurd (not_fallen (get_or goals node false) round (sym (at node) ∙ is));
  few = omega (arith, count_by-le-length is_kept (map begun goals), length-map goals begun);
}
  where
    at : (node : ℕ) → fate_of (map begun goals) node ≡ begun (get_or goals node false)
    at node = math.get_or-map begun goals node false

-- what holds when no node is open is that the fates are settled
pub settled_end : (goals : List Bool) (moves : List Move) (round bound : ℕ) (fates : List Fate) → IsRound goals moves round bound fates → list_any is_open fates ≡ false → AreSettled goals moves fates
settled_end goals moves round bound fates now none = record {
  whole = now.whole;
  goals_hold = now.goals_hold;
  settled = λ node within. false_from_ne_true _ (λ is. true≢false (sym (list_any_at is_open fates node Open (omega (arith, now.whole)) is) ∙ none));
  ranks_hold = now.ranks_hold;
  rounds = round;
  few = omega (arith, now.few);
  falls_hold = now.falls_hold;
}

marked-dropped : (round : ℕ) (fate : Fate) → is_marked (dropped round fate) ≡ is_marked fate
marked-dropped round Open = refl
marked-dropped round Goal = refl
marked-dropped round (Ranked rank by) = refl
marked-dropped round (Fallen before) = refl

never_ranked : (round : ℕ) (fate : Fate) (rank by : ℕ) → ¬ dropped round fate ≡ Ranked rank by
never_ranked round Open rank by is = cc
never_ranked round Goal rank by is = cc
never_ranked round (Ranked r b) rank by is = cc
never_ranked round (Fallen before) rank by is = cc

dropped_fallen : (round : ℕ) (fate : Fate) (fell : ℕ) → dropped round fate ≡ Fallen fell → ((fate ≡ Open) × (round ≡ fell)) ⊎ (fate ≡ Fallen fell)
dropped_fallen round Open fell is = inl (refl, cc)
dropped_fallen round Goal fell is = absurd (cc)
dropped_fallen round (Ranked r b) fell is = absurd (cc)
dropped_fallen round (Fallen before) fell is = inr is

before-dropped : (now round : ℕ) (fate : Fate) → fell_before round fate ≡ true → fell_before round (dropped now fate) ≡ true
before-dropped now round Open was = absurd (false≢true was)
before-dropped now round Goal was = was
before-dropped now round (Ranked rank by) was = was
before-dropped now round (Fallen before) was = was

in-dropped : (now round : ℕ) (fate : Fate) → fell_in round fate ≡ true → fell_in round (dropped now fate) ≡ true
in-dropped now round Open was = absurd (false≢true was)
in-dropped now round Goal was = was
in-dropped now round (Ranked rank by) was = was
in-dropped now round (Fallen before) was = was

fell_now : (round : ℕ) (fate : Fate) → ((fell : ℕ) → fate ≡ Fallen fell → fell < round) → is_kept fate ≡ false → fell_before round (dropped round fate) ≡ true
fell_now round Open early not = absurd (true≢false not)
fell_now round Goal early not = absurd (true≢false not)
fell_now round (Ranked rank by) early not = absurd (true≢false not)
fell_now round (Fallen fell) early not = lt-ltb fell round (early fell refl)

stuck_now : (round : ℕ) (fate : Fate) → is_kept fate ≡ true → is_won fate ≡ false → fell_in round (dropped round fate) ≡ true
stuck_now round Open keeps none = eq-eqb round round refl
stuck_now round Goal keeps none = absurd (true≢false none)
stuck_now round (Ranked rank by) keeps none = absurd (true≢false none)
stuck_now round (Fallen fell) keeps none = absurd (false≢true keeps)

count-cons : {X : Type 0} (p : X → Bool) (x : X) (xs : List X) → count_by p (x ∷ xs) ≡ cond (p x) 1 0 + count_by p xs
count-cons p x xs = sum_by-cons (λ x. cond (p x) 1 0) x xs

kept-dropped : (round : ℕ) (fate : Fate) → cond {A = ℕ} (is_kept (dropped round fate)) 1 0 ≤ cond (is_kept fate) 1 0
kept-dropped round Open = omega arith
kept-dropped round Goal = omega arith
kept-dropped round (Ranked rank by) = omega arith
kept-dropped round (Fallen fell) = omega arith

open-dropped : (round : ℕ) (fate : Fate) → is_open fate ≡ true → cond {A = ℕ} (is_kept (dropped round fate)) 1 0 + 1 ≤ cond (is_kept fate) 1 0
open-dropped round Open is = omega arith
open-dropped round Goal is = absurd (false≢true is)
open-dropped round (Ranked rank by) is = absurd (false≢true is)
open-dropped round (Fallen fell) is = absurd (false≢true is)

no_more_kept : (round : ℕ) (fates : List Fate) → count_by is_kept (map (dropped round) fates) ≤ count_by is_kept fates
no_more_kept round [] = omega arith
no_more_kept round (fate ∷ fates) = omega (arith, count-cons is_kept (dropped round fate) (map (dropped round) fates), count-cons is_kept fate fates, kept-dropped round fate, no_more_kept round fates)

pub less_kept : (round : ℕ) (fates : List Fate) → list_any is_open fates ≡ true → count_by is_kept (map (dropped round) fates) + 1 ≤ count_by is_kept fates
less_kept round [] some = absurd (false≢true some)
less_kept round (fate ∷ fates) some =
    let new = count-cons is_kept (dropped round fate) (map (dropped round) fates) in
    let old = count-cons is_kept fate fates in
    ⊎_elim
    (λ (here : is_open fate ≡ true). omega (arith, new, old, open-dropped round fate here, no_more_kept round fates))
    (λ (later : list_any is_open fates ≡ true). omega (arith, new, old, kept-dropped round fate, less_kept round fates later))
    (or_cases _ _ some)

module _ (goals : List Bool) (moves : List Move) (round bound : ℕ) (fates : List Fate) (now : IsRound goals moves round bound fates)
    (spent : IsSpent moves fates) (within : AreWithin (length goals) moves) where
  abbrev after : List Fate
  after = map (dropped round) fates

  at : (node : ℕ) → node < length fates → fate_of after node ≡ dropped round (fate_of fates node)
  at node inside = get_or-map (dropped round) fates node Open Open inside

  past : (node : ℕ) → length fates ≤ node → fate_of after node ≡ Open
  past node outside = get_or_past after node Open (omega (arith, length-map fates (dropped round)))

  -- a fact of the new fate of a node follows if it holds of the old fate after the round, and of none
  by_node : (P : ℕ → Fate → Type 0) → ((node : ℕ) → node < length fates → P node (dropped round (fate_of fates node))) → ((node : ℕ) → length fates ≤ node → P node Open) → (node : ℕ) → P node (fate_of after node)
  by_node P inside outside node = ⊎_elim
      (λ lt. subst (P node) (sym (at node lt)) (inside node lt))
      (λ ge. subst (P node) (sym (past node ge)) (outside node ge))
      (cases_lt node (length fates))

  old_past : (node : ℕ) → length fates ≤ node → fate_of fates node ≡ Open
  old_past node outside = get_or_past fates node Open outside

  marks : (node : ℕ) → is_marked (fate_of after node) ≡ get_or goals node false
  marks = by_node (λ node fate. is_marked fate ≡ get_or goals node false)
      (λ node lt. marked-dropped round (fate_of fates node) ∙ now.goals_hold node)
      (λ node ge. sym (ap is_marked (old_past node ge)) ∙ now.goals_hold node)

  none_ranked : (node rank by : ℕ) → ¬ fate_of after node ≡ Ranked rank by
  none_ranked node rank by = by_node (λ node fate. ¬ fate ≡ Ranked rank by)
      (λ node lt. never_ranked round (fate_of fates node) rank by)
      (λ node ge is. let wrong : Open ≡ Ranked rank by = is in cc)
      node

  before_stays : (fell node : ℕ) → fell_before fell (fate_of fates node) ≡ true → fell_before fell (fate_of after node) ≡ true
  before_stays fell = by_node (λ node fate. fell_before fell (fate_of fates node) ≡ true → fell_before fell fate ≡ true)
      (λ node lt was. before-dropped round fell (fate_of fates node) was)
      (λ node ge was. sym (ap (fell_before fell) (old_past node ge)) ∙ was)

  in_stays : (fell node : ℕ) → fell_in fell (fate_of fates node) ≡ true → fell_in fell (fate_of after node) ≡ true
  in_stays fell = by_node (λ node fate. fell_in fell (fate_of fates node) ≡ true → fell_in fell fate ≡ true)
      (λ node lt was. in-dropped round fell (fate_of fates node) was)
      (λ node ge was. sym (ap (fell_in fell) (old_past node ge)) ∙ was)

  forces_stays : (fell : ℕ) (move : Move) → forces fell fates move ≡ true → forces fell after move ≡ true
  forces_stays fell move was = ⊎_elim
      (λ early. or_left _ _ (any_then (λ node. fell_before fell (fate_of fates node)) (λ node. fell_before fell (fate_of after node)) (before_stays fell) move.targets early))
      (λ here. or_right (list_any (λ node. fell_before fell (fate_of after node)) move.targets) _ (go move.unfair here))
      (or_cases _ _ was)
    where
      go : (unfair : Bool) → (if unfair then list_any (λ node. fell_in fell (fate_of fates node)) move.targets else list_all (λ node. fell_in fell (fate_of fates node)) move.targets) ≡ true →
          (if unfair then list_any (λ node. fell_in fell (fate_of after node)) move.targets else list_all (λ node. fell_in fell (fate_of after node)) move.targets) ≡ true
      go true here = any_then (λ node. fell_in fell (fate_of fates node)) (λ node. fell_in fell (fate_of after node)) (in_stays fell) move.targets here
      go false here = all_then (λ node. fell_in fell (fate_of fates node)) (λ node. fell_in fell (fate_of after node)) (in_stays fell) move.targets here

  fell_targets : (node : ℕ) → node < length goals → is_kept (fate_of fates node) ≡ false → fell_before round (fate_of after node) ≡ true
  fell_targets node inside not = ap (fell_before round) (at node (omega (arith, now.whole))) ∙ fell_now round (fate_of fates node) (λ fell is. (now.falls_hold node fell is).0) not

  stuck_targets : (node : ℕ) → node < length goals → is_kept (fate_of fates node) ≡ true → is_won (fate_of fates node) ≡ false → fell_in round (fate_of after node) ≡ true
  stuck_targets node inside keeps none = ap (fell_in round) (at node (omega (arith, now.whole))) ∙ stuck_now round (fate_of fates node) keeps none

  lost_now : (number : ℕ) → number < length moves → is_open (fate_of fates (move_at moves number).source) ≡ true → forces round after (move_at moves number) ≡ true
  lost_now number there is = go (move_at moves number).unfair (spent number there is)
    where
      go : (unfair : Bool) →
          (if unfair then list_all (λ node. is_won (fate_of fates node)) (move_at moves number).targets else (list_all (λ node. is_kept (fate_of fates node)) (move_at moves number).targets && list_any (λ node. is_won (fate_of fates node)) (move_at moves number).targets)) ≡ false →
          (list_any (λ node. fell_before round (fate_of after node)) (move_at moves number).targets
          || (if unfair then list_any (λ node. fell_in round (fate_of after node)) (move_at moves number).targets else list_all (λ node. fell_in round (fate_of after node)) (move_at moves number).targets)) ≡ true
      go true none = unfair_lost (λ node. is_won (fate_of fates node)) (λ node. is_kept (fate_of fates node)) (λ node. fell_before round (fate_of after node)) (λ node. fell_in round (fate_of after node))
          (length goals) fell_targets stuck_targets (move_at moves number).targets (recursion_from_All (λ node. node < length goals) (move_at moves number).targets (within number there).1) none
      go false none = fair_lost (λ node. is_won (fate_of fates node)) (λ node. is_kept (fate_of fates node)) (λ node. fell_before round (fate_of after node)) (λ node. fell_in round (fate_of after node))
          (length goals) fell_targets stuck_targets (move_at moves number).targets (recursion_from_All (λ node. node < length goals) (move_at moves number).targets (within number there).1) none

  falls : (node fell : ℕ) → fate_of after node ≡ Fallen fell → (fell < round + 1) × ((number : ℕ) → number < length moves → (move_at moves number).source ≡ node → forces fell after (move_at moves number) ≡ true)
  falls node fell is = ⊎_elim
      (λ lt. ⊎_elim
      (λ now_open. (omega (arith, now_open.1), λ number there source. subst (λ r. forces r after (move_at moves number) ≡ true) now_open.1 (lost_now number there (ap (λ n. is_open (fate_of fates n)) source ∙ ap is_open now_open.0))))
      (λ before. (let held = now.falls_hold node fell before in (let small : fell < round = held.0 in omega arith, λ number there source. forces_stays fell (move_at moves number) (held.1 number there source))))
      (dropped_fallen round (fate_of fates node) fell (sym (at node lt) ∙ is)))
      (λ ge. let wrong : Open ≡ Fallen fell = sym (past node ge) ∙ is in absurd (cc))
      (cases_lt node (length fates))

  -- what holds at the end of a round
  pub dropped_round : list_any is_open fates ≡ true → IsRound goals moves (round + 1) 0 after
  dropped_round some = record {
    whole = length-map fates (dropped round) ∙ now.whole;
    goals_hold = marks;
    ranks_hold = λ node rank by is. absurd (none_ranked node rank by is);
    below = λ node rank by is. absurd (none_ranked node rank by is);
    falls_hold = falls;
    few = omega (arith, less_kept round fates some, now.few);
  }
