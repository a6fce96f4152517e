-- What a cube contradicts, literal by literal.
use Rattle.std.proofs.Common.{◌≡◌, ℕ, suc, ◌+◌, ◌-◌, ◌*◌, ◌<◌, ◌≤◌, List, Bool, true, false, not, Option, Some, None, length, sym, ap, subst, ◌∙◌, ⊎_elim, arith}
use Rattle.std.specs.Prelude.{◌||◌, ◌&&◌}
use Rattle.std.specs.Bool.{Decides}
use Rattle.std.proofs.lemmas.Bool.{cases_lt, false≢true}
use Rattle.std.proofs.lemmas.List.{get_or_past}
use Rattle.fond_state.specs.Cubes.{literal_at}
use Rattle.fond_state.specs.Words.{truth_in}
use Rattle.fond_matrix.specs.Below.{TwoBelow}
use Rattle.fond_matrix.specs.Rows.{row_at, opposes, clashes, IsOpposed}
use Rattle.fond_matrix.proofs.Below.{some_more, two_more}

module _ (rows : List (List ℕ)) (cube : List (Option Bool)) (number : ℕ) where
  -- an atom without a literal does not clash
  pub no_clash : (atom : ℕ) → literal_at cube atom ≡ None → clashes rows cube number atom ≡ false
  no_clash atom none = ap (λ l. opposes rows atom l number) none

  -- the row of the opposite literal has the clashes
  pub clash_row : (row : List ℕ) (atom : ℕ) (sign : Bool) → literal_at cube atom ≡ Some sign → row ≡ row_at rows (not sign) atom → truth_in row number ≡ clashes rows cube number atom
  clash_row row atom sign is told = ap (λ r. truth_in r number) told ∙ sym (ap (λ l. opposes rows atom l number) is)

  -- an atom that clashes is one of the cube's
  pub clash_within : (atom : ℕ) → clashes rows cube number atom ≡ true → atom < length cube
  clash_within atom passes = ⊎_elim
      (λ lt. lt)
      (λ past. absurd (false≢true (sym (no_clash atom (get_or_past cube atom None past)) ∙ passes)))
      (cases_lt atom (length cube))

  -- the next literal
  pub opposed_more : (old new : Bool) (from atom : ℕ) → from ≤ atom → ((a : ℕ) → from ≤ a → a < atom → literal_at cube a ≡ None) →
      new ≡ (old || clashes rows cube number atom) → Decides old (IsOpposed rows cube from number) → Decides new (IsOpposed rows cube (atom + 1) number)
  opposed_more old new from atom le none is told =
      let next : suc atom ≡ atom + 1 = omega arith in
      let more = some_more (clashes rows cube number) from atom le (λ a from_ below. no_clash a (none a from_ below)) old told in
      subst (λ n. Decides new (IsOpposed rows cube n number)) next (subst (λ b. Decides b (IsOpposed rows cube (suc atom) number)) (sym is) more)

-- the literals two by two
module _ (rows : List (List ℕ)) (cube : List (Option Bool)) (number : ℕ) where
  pub twice_more : (t o new : Bool) (from atom : ℕ) → from ≤ atom → ((a : ℕ) → from ≤ a → a < atom → literal_at cube a ≡ None) →
      new ≡ (t || (o && clashes rows cube number atom)) → Decides t (TwoBelow (clashes rows cube number) from) → Decides o (IsOpposed rows cube from number) → Decides new (TwoBelow (clashes rows cube number) (atom + 1))
  twice_more t o new from atom le none is told some =
      let next : suc atom ≡ atom + 1 = omega arith in
      let more = two_more (clashes rows cube number) from atom le (λ a from_ below. no_clash rows cube number a (none a from_ below)) t o told some in
      subst (λ n. Decides new (TwoBelow (clashes rows cube number) n)) next (subst (λ b. Decides b (TwoBelow (clashes rows cube number) (suc atom))) (sym is) more)

  -- past the last literal there is no clash
  below : (from : ℕ) → ((a : ℕ) → from ≤ a → literal_at cube a ≡ None) → (atom : ℕ) → clashes rows cube number atom ≡ true → atom < from
  below from none atom passes = ⊎_elim
      (λ lt. lt)
      (λ past. absurd (false≢true (sym (no_clash rows cube number atom (none atom past)) ∙ passes)))
      (cases_lt atom from)

  pub opposed_all : (b : Bool) (from : ℕ) → ((a : ℕ) → from ≤ a → literal_at cube a ≡ None) → from ≤ length cube → Decides b (IsOpposed rows cube from number) → Decides b (IsOpposed rows cube (length cube) number)
  opposed_all b from none le told = (
    λ e. let some = told.0 e in (some.0, omega (arith, some.1, le), some.2),
    λ some. told.1 (some.0, below from none some.0 some.2, some.2),
  )

  pub twice_all : (b : Bool) (from : ℕ) → ((a : ℕ) → from ≤ a → literal_at cube a ≡ None) → from ≤ length cube → Decides b (TwoBelow (clashes rows cube number) from) → Decides b (TwoBelow (clashes rows cube number) (length cube))
  twice_all b from none le told = (
    λ e. let two = told.0 e in (two.0, two.1, two.2, omega (arith, two.3, le), two.4, two.5),
    λ two. told.1 (two.0, two.1, two.2, below from none two.1 two.5, two.4, two.5),
  )

-- what is found in words from a word on
module _ (rows : List (List ℕ)) (cube : List (Option Bool)) (out : List ℕ) (start count place : ℕ) (within : place ≤ 64 * count)
    (before : (k : ℕ) → k < 64 * start → IsOpposed rows cube (length cube) k)
    (set : (k : ℕ) → k < place → truth_in out k ≡ true)
    (found : (k : ℕ) → k < 64 * count → Decides (truth_in out k) (IsOpposed rows cube (length cube) (64 * start + k))) where
  pub opposed_before : (k : ℕ) → k < 64 * start + place → IsOpposed rows cube (length cube) k
  opposed_before k lt = ⊎_elim
      (λ early. before k early)
      (λ from.
      let same : 64 * start + (k - 64 * start) ≡ k = omega (arith, from) in
      subst (λ n. IsOpposed rows cube (length cube) n) same ((found (k - 64 * start) (omega (arith, lt, from, within))).0 (set (k - 64 * start) (omega (arith, lt, from)))))
      (cases_lt k (64 * start))
