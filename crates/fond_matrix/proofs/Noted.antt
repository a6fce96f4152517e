-- The rivals that are noted for a literal.
use Rattle.std.proofs.Common.{◌≡◌, ℕ, ◌+◌, ◌-◌, ◌*◌, ◌<◌, ◌≤◌, ◌^◌, List, Bool, true, false, not, Option, None, length, sym, subst, ◌∙◌, ⊎_elim, arith}
use Rattle.std.specs.Prelude.{◌&&◌}
use Rattle.std.specs.Bool.{Decides}
use Rattle.std.proofs.lemmas.Bool.{and_from, and_parts, cases_lt, false≢true, false_from_ne_true, not-true, not_from_false}
use Rattle.fond_state.specs.Cubes.{literal_at}
use Rattle.fond_state.specs.Words.{truth_in}
use Rattle.fond_matrix.specs.Below.{TwoBelow}
use Rattle.fond_matrix.specs.Rows.{clashes}
use Rattle.fond_matrix.specs.Rivals.{IsSole, IsNoted}
use Rattle.fond_matrix.proofs.Opposed.{no_clash}

module _ (rows : List (List ℕ)) (cube : List (Option Bool)) (atom : ℕ) where
  -- an atom without a literal has no rival
  pub noted_absent : (bound end rival : ℕ) → literal_at cube atom ≡ None → IsNoted rows cube bound atom rival → IsNoted rows cube end atom rival
  noted_absent bound end rival none noted = (
    λ lt. absurd (false≢true (sym (no_clash rows cube rival atom none) ∙ (noted.0 lt).1.0)),
    λ _ k _ sole. false≢true (sym (no_clash rows cube k atom none) ∙ sole.0),
    noted.2,
  )

  module _ (start count place : ℕ) (twice : List ℕ) (within : place ≤ 64 * count)
      (two : (k : ℕ) → k < 64 * count → Decides (truth_in twice k) (TwoBelow (clashes rows cube (64 * start + k)) (length cube)))
      (before : (k : ℕ) → k < place → (clashes rows cube (64 * start + k) atom && not (truth_in twice k)) ≡ false) where
    not_sole : (k : ℕ) → k < place → ¬ IsSole rows cube atom (64 * start + k)
    not_sole k lt sole =
        let none : truth_in twice k ≡ false = false_from_ne_true _ (λ e. sole.1 ((two k (omega (arith, lt, within))).0 e)) in
        false≢true (sym (before k lt) ∙ and_from _ _ sole.0 (not_from_false (truth_in twice k) none))

    -- no cube of the words is a rival
    pub noted_none : (end rival : ℕ) → end ≤ 64 * start + place → rival ≡ 2 ^ 32 - 1 → IsNoted rows cube (64 * start) atom rival → IsNoted rows cube end atom rival
    noted_none end rival le is noted = (
      λ lt. absurd (omega (arith, lt, is)),
      λ _ k lt. ⊎_elim
          (λ early. noted.1 is k early)
          (λ from.
          let same : 64 * start + (k - 64 * start) ≡ k = omega (arith, from) in
          subst (λ n. ¬ IsSole rows cube atom n) same (not_sole (k - 64 * start) (omega (arith, lt, le, from))))
          (cases_lt k (64 * start)),
      noted.2,
    )

    -- the first rival of the words
    pub noted_some : (end rival : ℕ) → rival ≡ 64 * start + place → rival < end → end < 2 ^ 32 → place < 64 * count → (clashes rows cube (64 * start + place) atom && not (truth_in twice place)) ≡ true → IsNoted rows cube end atom rival
    noted_some end rival is lt small inside found = (
      λ _.
          let parts = and_parts (clashes rows cube (64 * start + place) atom) (not (truth_in twice place)) found in
          let none : truth_in twice place ≡ false = not-true (truth_in twice place) parts.1 in
          let sole : IsSole rows cube atom (64 * start + place) = (parts.0, λ pair. false≢true (sym none ∙ (two place inside).1 pair)) in
          (lt, subst (λ n. IsSole rows cube atom n) (sym is) sole),
      λ large. absurd (omega (arith, large, lt, small)),
      omega (arith, lt, small),
    )
