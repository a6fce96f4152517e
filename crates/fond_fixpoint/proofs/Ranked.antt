-- One more node with a rank.
use Rattle.std.proofs.Common.{◌≡◌, ◌≢◌, ℕ, ◌+◌, ◌<◌, List, Bool, true, length, set, refl, sym, ap, ◌∙◌, subst, ⊎_elim, inl, inr, arith}
use Rattle.std.specs.Prelude.{count_by}
use Rattle.std.proofs.lemmas.Bool.{false≢true, cases_eq}
use Rattle.std.proofs.lemmas.List.{get_or-set_other, get_or-set_same, length-set}
use Rattle.fond_fixpoint.specs.declared.fate.Fate.{Fate}
use Rattle.fond_fixpoint.specs.declared.fate.Fate.TheVariants.{Open, Goal, Ranked, Fallen}
use Rattle.fond_fixpoint.specs.Moves.{Move, move_at}
use Rattle.fond_fixpoint.specs.Fates.{fate_of, is_open, is_kept, wins, earns, IsEarned}
use Rattle.fond_fixpoint.specs.Rounds.{IsRound, IsSearch}
use Rattle.fond_fixpoint.proofs.Tests.{count_same, count_less}
use Rattle.fond_fixpoint.proofs.Later.{IsLater, earns_later, forces_later, earns_bound, marked_next}

pub is_Open : (fate : Fate) → is_open fate ≡ true → fate ≡ Open
is_Open Open is = refl
is_Open Goal is = absurd (false≢true is)
is_Open (Ranked rank by) is = absurd (false≢true is)
is_Open (Fallen round) is = absurd (false≢true is)

module _ (moves : List Move) (fates : List Fate) (number bound : ℕ) (there : number < length moves) (within : (move_at moves number).source < length fates)
    (open_ : is_open (fate_of fates (move_at moves number).source) ≡ true) (won : wins fates (move_at moves number) ≡ true) where
  abbrev node : ℕ
  node = (move_at moves number).source

  abbrev after : List Fate
  after = set fates node (Ranked bound number)

  was : fate_of fates node ≡ Open
  was = is_Open (fate_of fates node) open_

  at_node : (k : ℕ) → k ≡ node → fate_of after k ≡ Ranked bound number
  at_node k same = ap (λ n. fate_of after n) same ∙ get_or-set_same fates node (Ranked bound number) Open within

  at_other : (k : ℕ) → k ≢ node → fate_of after k ≡ fate_of fates k
  at_other k other = get_or-set_other fates node k (Ranked bound number) Open other

  later : IsLater fates after
  later k = ⊎_elim (λ same. inr (record { was = ap (fate_of fates) same ∙ was; rank = bound; by = number; now = at_node k same })) (λ other. inl (at_other k other)) (cases_eq k node)

  abbrev earns_after : ℕ → ℕ → Type 0
  earns_after rank by = earns rank after (move_at moves by) ≡ true

  ranked_again : (goals : List Bool) (round : ℕ) → IsRound goals moves round bound fates → (k rank by : ℕ) → fate_of after k ≡ Ranked rank by → (rank < bound + 1) × IsEarned moves after k rank by
  ranked_again goals round now k rank by is = ⊎_elim
      (λ same.
      let both : Ranked bound number ≡ Ranked rank by = sym (at_node k same) ∙ is in
      let same_rank : bound ≡ rank = cc in
      let same_by : number ≡ by = cc in (
        omega arith,
        record {
          there = subst (λ n. n < length moves) same_by there;
          source = subst (λ n. (move_at moves n).source ≡ k) same_by (sym same);
          earned = subst (λ n. earns_after rank n) same_by (subst (λ r. earns_after r number) same_rank (earns_later fates after later bound (move_at moves number) (earns_bound bound fates now.below (move_at moves number) won)));
        },
      ))
      (λ other.
      let before : fate_of fates k ≡ Ranked rank by = sym (at_other k other) ∙ is in
      let earned = now.ranks_hold k rank by before in
      let small = now.below k rank by before in
      (omega arith, record { there = earned.there; source = earned.source; earned = earns_later fates after later rank (move_at moves by) earned.earned }))
      (cases_eq k node)

  -- what holds in the round holds with the node ranked
  ranked : (goals : List Bool) (round : ℕ) → IsRound goals moves round bound fates → IsRound goals moves round (bound + 1) after
  ranked goals round now = record {
    whole = length-set fates node (Ranked bound number) ∙ now.whole;
    goals_hold = λ k. marked_next (fate_of fates k) (fate_of after k) (later k) ∙ now.goals_hold k;
    ranks_hold = λ k rank by is. (ranked_again goals round now k rank by is).1;
    below = λ k rank by is. (ranked_again goals round now k rank by is).0;
    falls_hold = λ k fell is. (
        let before : fate_of fates k ≡ Fallen fell = ⊎_elim (λ same. absurd (not_fallen (sym (at_node k same) ∙ is))) (λ other. sym (at_other k other) ∙ is) (cases_eq k node) in
        let falls = now.falls_hold k fell before in
        (falls.0, λ by small source. forces_later fates after later fell (move_at moves by) ∙ falls.1 by small source)
        );
    few = (let same : count_by is_kept after ≡ count_by is_kept fates = count_same is_kept fates node (Ranked bound number) Open within (ap is_kept was) in omega (arith, same, now.few));
  }
    where
      not_fallen : {rank by fell : ℕ} → ¬ Ranked rank by ≡ Fallen fell
      not_fallen is = cc

  pub is_search : (before : ℕ) → bound ≡ before + 1 → IsSearch moves fates after before (before + 1)
  is_search before is = record {
    keeps = λ goals round now. subst (λ b. IsRound goals moves round b after) (ap (λ b. b + 1) is) (ranked goals round (subst (λ b. IsRound goals moves round b fates) (sym is) now));
    counted = (let less : count_by is_open after + 1 ≡ count_by is_open fates = count_less is_open fates node (Ranked bound number) Open within open_ refl in omega (arith, less));
    longer = omega arith;
  }
