-- Fates after open nodes were ranked.
use Rattle.std.proofs.Common.{◌≡◌, ℕ, ◌<◌, List, Bool, true, false, refl, sym, ap, ◌∙◌, ⊎_elim}
use Rattle.std.specs.Prelude.{◌⊎◌, ◌&&◌, ◌||◌, if◌then◌else◌}
use Rattle.std.specs.List.{list_all, list_any}
use Rattle.std.proofs.lemmas.Bool.{and_parts, and_from, false≢true, lt-ltb}
use Rattle.fond_fixpoint.specs.declared.fate.Fate.{Fate}
use Rattle.fond_fixpoint.specs.declared.fate.Fate.TheVariants.{Open, Goal, Ranked, Fallen}
use Rattle.fond_fixpoint.specs.Moves.{Move}
use Rattle.fond_fixpoint.specs.Fates.{fate_of, is_won, is_kept, is_below, is_marked, fell_before, fell_in, wins, earns, forces}
use Rattle.fond_fixpoint.specs.Rounds.{RanksBelow}
use Rattle.fond_fixpoint.proofs.Tests.{all_then, any_then, all_same, any_same}

-- a fate is the same as before, or it was open and has a rank
pub record IsRankedNow (old new : Fate) : Type 0 where
  pub was : old ≡ Open
  pub rank : ℕ
  pub by : ℕ
  pub now : new ≡ Ranked rank by

abbrev pub IsNext : Fate → Fate → Type 0
IsNext old new = (new ≡ old) ⊎ IsRankedNow old new

below_next : (bound : ℕ) (old new : Fate) → IsNext old new → is_below bound old ≡ true → is_below bound new ≡ true
below_next bound old new next below = ⊎_elim (λ same. ap (is_below bound) same ∙ below) (λ ranked. absurd (false≢true (sym (ap (is_below bound) ranked.was) ∙ below))) next

kept_next : (old new : Fate) → IsNext old new → is_kept old ≡ true → is_kept new ≡ true
kept_next old new next kept = ⊎_elim (λ same. ap is_kept same ∙ kept) (λ ranked. ap is_kept ranked.now) next

before_next : (round : ℕ) (old new : Fate) → IsNext old new → fell_before round new ≡ fell_before round old
before_next round old new next = ⊎_elim (λ same. ap (fell_before round) same) (λ ranked. ap (fell_before round) ranked.now ∙ sym (ap (fell_before round) ranked.was)) next

in_next : (round : ℕ) (old new : Fate) → IsNext old new → fell_in round new ≡ fell_in round old
in_next round old new next = ⊎_elim (λ same. ap (fell_in round) same) (λ ranked. ap (fell_in round) ranked.now ∙ sym (ap (fell_in round) ranked.was)) next

pub marked_next : (old new : Fate) → IsNext old new → is_marked new ≡ is_marked old
marked_next old new next = ⊎_elim (λ same. ap is_marked same) (λ ranked. ap is_marked ranked.now ∙ sym (ap is_marked ranked.was)) next

module _ (old new : List Fate) where
  -- each node has the same fate as before, or was open and has a rank
  abbrev pub IsLater : Type 0
  IsLater = (node : ℕ) → IsNext (fate_of old node) (fate_of new node)

  module _ (later : IsLater) where
    pub earns_later : (rank : ℕ) (move : Move) → earns rank old move ≡ true → earns rank new move ≡ true
    earns_later rank move = go move.unfair
      where
        below : (node : ℕ) → is_below rank (fate_of old node) ≡ true → is_below rank (fate_of new node) ≡ true
        below node = below_next rank (fate_of old node) (fate_of new node) (later node)

        kept : (node : ℕ) → is_kept (fate_of old node) ≡ true → is_kept (fate_of new node) ≡ true
        kept node = kept_next (fate_of old node) (fate_of new node) (later node)

        go : (unfair : Bool) →
            (if unfair then list_all (λ node. is_below rank (fate_of old node)) move.targets else (list_all (λ node. is_kept (fate_of old node)) move.targets && list_any (λ node. is_below rank (fate_of old node)) move.targets)) ≡ true →
            (if unfair then list_all (λ node. is_below rank (fate_of new node)) move.targets else (list_all (λ node. is_kept (fate_of new node)) move.targets && list_any (λ node. is_below rank (fate_of new node)) move.targets)) ≡ true
        go true was = all_then _ (λ node. is_below rank (fate_of new node)) below move.targets was
        go false was =
            let both = and_parts _ _ was in
            and_from _ _ (all_then (λ node. is_kept (fate_of old node)) (λ node. is_kept (fate_of new node)) kept move.targets both.0)
            (any_then (λ node. is_below rank (fate_of old node)) (λ node. is_below rank (fate_of new node)) below move.targets both.1)

    pub forces_later : (round : ℕ) (move : Move) → forces round new move ≡ forces round old move
    forces_later round move = ap (λ b. b || (if move.unfair then list_any (λ node. fell_in round (fate_of new node)) move.targets else list_all (λ node. fell_in round (fate_of new node)) move.targets)) any_before ∙ ap (λ b. list_any (λ node. fell_before round (fate_of old node)) move.targets || b) (go move.unfair)
      where
        any_before : list_any (λ node. fell_before round (fate_of new node)) move.targets ≡ list_any (λ node. fell_before round (fate_of old node)) move.targets
        any_before = any_same _ (λ node. fell_before round (fate_of old node)) (λ node. before_next round (fate_of old node) (fate_of new node) (later node)) move.targets

        here : (node : ℕ) → fell_in round (fate_of new node) ≡ fell_in round (fate_of old node)
        here node = in_next round (fate_of old node) (fate_of new node) (later node)

        go : (unfair : Bool) → (if unfair then list_any (λ node. fell_in round (fate_of new node)) move.targets else list_all (λ node. fell_in round (fate_of new node)) move.targets)
            ≡ (if unfair then list_any (λ node. fell_in round (fate_of old node)) move.targets else list_all (λ node. fell_in round (fate_of old node)) move.targets)
        go true = any_same _ (λ node. fell_in round (fate_of old node)) here move.targets
        go false = all_same _ (λ node. fell_in round (fate_of old node)) here move.targets

below_of : (bound : ℕ) (fate : Fate) → ((rank by : ℕ) → fate ≡ Ranked rank by → rank < bound) → is_won fate ≡ true → is_below bound fate ≡ true
below_of bound Open small won = won
below_of bound Goal small won = refl
below_of bound (Ranked rank by) small won = lt-ltb rank bound (small rank by refl)
below_of bound (Fallen round) small won = won

-- a move that wins earns a rank above all
pub earns_bound : (bound : ℕ) (fates : List Fate) → RanksBelow fates bound → (move : Move) → wins fates move ≡ true → earns bound fates move ≡ true
earns_bound bound fates small move = go move.unfair
  where
    below : (node : ℕ) → is_won (fate_of fates node) ≡ true → is_below bound (fate_of fates node) ≡ true
    below node = below_of bound (fate_of fates node) (small node)

    go : (unfair : Bool) →
        (if unfair then list_all (λ node. is_won (fate_of fates node)) move.targets else (list_all (λ node. is_kept (fate_of fates node)) move.targets && list_any (λ node. is_won (fate_of fates node)) move.targets)) ≡ true →
        (if unfair then list_all (λ node. is_below bound (fate_of fates node)) move.targets else (list_all (λ node. is_kept (fate_of fates node)) move.targets && list_any (λ node. is_below bound (fate_of fates node)) move.targets)) ≡ true
    go true won = all_then (λ node. is_won (fate_of fates node)) (λ node. is_below bound (fate_of fates node)) below move.targets won
    go false won =
        let both = and_parts _ _ won in
        and_from _ _ both.0 (any_then (λ node. is_won (fate_of fates node)) (λ node. is_below bound (fate_of fates node)) below move.targets both.1)
