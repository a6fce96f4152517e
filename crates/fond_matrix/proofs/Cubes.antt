-- The cubes of a matrix of bits, and which of them a cube contradicts.
use Rattle.std.proofs.Common.{◌≡◌, ℕ, zero, suc, ◌+◌, ◌<◌, ◌≤◌, min, List, [], ◌∷◌, ◌++◌, Bool, true, false, not, Option, Some, None, length, map, take, refl, sym, ap, subst, ◌∙◌, ⊎_elim, inl, inr, arith}
use Rattle.std.specs.Prelude.{◌⊎◌, slice_index_or, position}
use Rattle.std.specs.Option.{IfSome, IfNone}
use Rattle.std.proofs.lemmas.Bool.{cases_lt, cases_eq, false≢true, false_from_ne_true}
use Rattle.std.proofs.lemmas.List.{get_or_past, get_or_push, get_or_append_left, get_or_default, get_or-take, length-take, length_push, map_push}
use Rattle.fond_state.specs.Cubes.{literal_at, Contradicts}
use Rattle.fond_match.specs.Lies.{is_sign}
use Rattle.fond_match.specs.Besides.{is_beside, is_beside-Decides}
use Rattle.fond_match.proofs.Joined.{found_at, found_nowhere}
use Rattle.fond_matrix.specs.Rows.{has, opposes, clashes, IsOpposed}
use Rattle.fond_matrix.specs.Matrices.{cube_at, IsMatrixOf, literal_by, literals_of, cubes_of}
use Rattle.fond_matrix.proofs.Opposed.{clash_within}

-- ---- the cubes of bits

literal_is : (l : Option Bool) (plus minus : Bool) → plus ≡ is_sign l true → minus ≡ is_sign l false → literal_by plus minus ≡ l
literal_is l plus minus p m = ap (λ b. literal_by b minus) p ∙ ap (λ b. literal_by (is_sign l true) b) m ∙ by l
  where
    by : (l : Option Bool) → literal_by (is_sign l true) (is_sign l false) ≡ l
    by None = refl
    by (Some true) = refl
    by (Some false) = refl

length-literals_of : (rows : List (List ℕ)) (number atom count : ℕ) → length (literals_of rows number atom count) ≡ count
unfolding literals_of
length-literals_of rows number atom zero = refl
length-literals_of rows number atom (suc count) = ap suc (length-literals_of rows number (suc atom) count)

pub lengths_of : (rows : List (List ℕ)) (number : ℕ) (counts : List ℕ) → map length (cubes_of rows number counts) ≡ counts
unfolding cubes_of
lengths_of rows number [] = refl
lengths_of rows number (count ∷ counts) = ap (λ n. n ∷ map length (cubes_of rows (suc number) counts)) (length-literals_of rows number 0 count) ∙ ap (λ ns. count ∷ ns) (lengths_of rows (suc number) counts)

pub length-cubes_of : (rows : List (List ℕ)) (number : ℕ) (counts : List ℕ) → length (cubes_of rows number counts) ≡ length counts
unfolding cubes_of
length-cubes_of rows number [] = refl
length-cubes_of rows number (count ∷ counts) = ap suc (length-cubes_of rows (suc number) counts)

literals_are : (rows : List (List ℕ)) (number atom : ℕ) (cube : List (Option Bool)) → ((sign : Bool) (a : ℕ) → has rows sign (atom + a) number ≡ is_sign (literal_at cube a) sign) → literals_of rows number atom (length cube) ≡ cube
unfolding literals_of
literals_are rows number atom [] told = refl
literals_are rows number atom (l ∷ cube) told =
    let here : atom ≡ atom + 0 = omega arith in
    let first = literal_is l (has rows true atom number) (has rows false atom number) (ap (λ a. has rows true a number) here ∙ told true 0) (ap (λ a. has rows false a number) here ∙ told false 0) in
    ap (λ k. k ∷ literals_of rows number (suc atom) (length cube)) first
    ∙ ap (λ ls. l ∷ ls) (literals_are rows number (suc atom) cube (λ sign a. let next : suc atom + a ≡ atom + suc a = omega arith in ap (λ k. has rows sign k number) next ∙ told sign (suc a)))

cubes_from : (rows : List (List ℕ)) (number : ℕ) (cubes : List (List (Option Bool))) → ((sign : Bool) (a k : ℕ) → has rows sign a (number + k) ≡ is_sign (literal_at (cube_at cubes k) a) sign) → cubes_of rows number (map length cubes) ≡ cubes
unfolding cubes_of
cubes_from rows number [] told = refl
cubes_from rows number (cube ∷ cubes) told =
    let here : number ≡ number + 0 = omega arith in
    ap (λ c. c ∷ cubes_of rows (suc number) (map length cubes)) (literals_are rows number 0 cube (λ sign a. let same : 0 + a ≡ a = omega arith in ap (λ k. has rows sign k number) same ∙ ap (λ k. has rows sign a k) here ∙ told sign a 0))
    ∙ ap (λ cs. cube ∷ cs) (cubes_from rows (suc number) cubes (λ sign a k. let next : suc number + k ≡ number + suc k = omega arith in ap (λ n. has rows sign a n) next ∙ told sign a (suc k)))

-- bits that are those of cubes give them back
pub cubes_are : (rows : List (List ℕ)) (cubes : List (List (Option Bool))) (counts : List ℕ) → IsMatrixOf cubes rows → map length cubes ≡ counts → cubes_of rows 0 counts ≡ cubes
cubes_are rows cubes counts told is = ap (cubes_of rows 0) (sym is) ∙ cubes_from rows 0 cubes (λ sign a k. let same : 0 + k ≡ k = omega arith in ap (λ n. has rows sign a n) same ∙ told sign a k)

-- ---- a cube is added

module _ (old : List (List ℕ)) (counts : List ℕ) (told : IsMatrixOf (cubes_of old 0 counts) old) where
  abbrev cubes : List (List (Option Bool))
  cubes = cubes_of old 0 counts

  past_cubes : (k : ℕ) → length counts ≤ k → cube_at cubes k ≡ []
  past_cubes k past = get_or_past cubes k [] (omega (arith, past, length-cubes_of old 0 counts))

  -- no literal has a bit of the next cube
  pub next_clear : (sign : Bool) (atom : ℕ) → has old sign atom (length counts) ≡ false
  next_clear sign atom = told sign atom (length counts) ∙ ap (λ c. is_sign (literal_at c atom) sign) (past_cubes (length counts) (omega arith))

  -- equal bits are of equal cubes
  pub same_cubes : (new : List (List ℕ)) → ((sign : Bool) (atom number : ℕ) → has new sign atom number ≡ has old sign atom number) → cubes_of new 0 counts ≡ cubes
  same_cubes new same = cubes_are new cubes counts (λ sign atom number. same sign atom number ∙ told sign atom number) (lengths_of old 0 counts)

  module _ (new : List (List ℕ)) (cube : List (Option Bool))
      (here : (sign : Bool) (atom : ℕ) → has new sign atom (length counts) ≡ is_sign (literal_at cube atom) sign)
      (other : (sign : Bool) (atom number : ℕ) → ¬ number ≡ length counts → has new sign atom number ≡ has old sign atom number) where
    abbrev more : List (List (Option Bool))
    more = cubes ++ cube ∷ []

    counted : length cubes ≡ length counts
    counted = length-cubes_of old 0 counts

    cube_last : cube_at more (length counts) ≡ cube
    cube_last = get_or_push cubes cube [] (length counts) counted

    cube_other : (k : ℕ) → ¬ k ≡ length counts → cube_at more k ≡ cube_at cubes k
    cube_other k differs = ⊎_elim
        (λ lt. get_or_append_left cubes (cube ∷ []) [] k lt)
        (λ past. get_or_past more k [] (omega (arith, past, differs, counted, length_push cubes cube)) ∙ sym (get_or_past cubes k [] past))
        (cases_lt k (length cubes))

    pub pushed_bits : IsMatrixOf more new
    pushed_bits sign atom number = ⊎_elim
        (λ is. ap (has new sign atom) is ∙ here sign atom ∙ ap (λ c. is_sign (literal_at c atom) sign) (sym (ap (cube_at more) is ∙ cube_last)))
        (λ differs. other sign atom number differs ∙ told sign atom number ∙ ap (λ c. is_sign (literal_at c atom) sign) (sym (cube_other number differs)))
        (cases_eq number (length counts))

    pub pushed_cubes : cubes_of new 0 (counts ++ length cube ∷ []) ≡ more
    pushed_cubes = cubes_are new more (counts ++ length cube ∷ []) pushed_bits (map_push length cubes cube ∙ ap (λ ns. ns ++ length cube ∷ []) (lengths_of old 0 counts))

-- ---- what a cube contradicts

sign_same : (l : Option Bool) (sign : Bool) → is_sign l sign ≡ true → l ≡ Some sign
sign_same None sign e = absurd (false≢true e)
sign_same (Some true) true e = refl
sign_same (Some true) false e = absurd (false≢true e)
sign_same (Some false) true e = absurd (false≢true e)
sign_same (Some false) false e = refl

sign_refl : (sign : Bool) → is_sign (Some sign) sign ≡ true
sign_refl true = refl
sign_refl false = refl

module _ (cubes : List (List (Option Bool))) (rows : List (List ℕ)) (told : IsMatrixOf cubes rows) (cube : List (Option Bool)) where
  -- a clash is of opposite literals
  pub clash_literals : (number atom : ℕ) → clashes rows cube number atom ≡ true → (sign : Bool) × (literal_at cube atom ≡ Some sign) × (literal_at (cube_at cubes number) atom ≡ Some (not sign))
  clash_literals number atom passes = by (literal_at cube atom) refl passes
    where
      by : (l : Option Bool) → literal_at cube atom ≡ l → opposes rows atom l number ≡ true → (sign : Bool) × (literal_at cube atom ≡ Some sign) × (literal_at (cube_at cubes number) atom ≡ Some (not sign))
      by None is e = absurd (false≢true e)
      by (Some sign) is e = (sign, is, sign_same (literal_at (cube_at cubes number) atom) (not sign) (sym (told (not sign) atom number) ∙ e))

  -- opposite literals clash
  pub clash_from : (number atom : ℕ) (sign : Bool) → literal_at cube atom ≡ Some sign → literal_at (cube_at cubes number) atom ≡ Some (not sign) → clashes rows cube number atom ≡ true
  clash_from number atom sign one two = ap (λ l. opposes rows atom l number) one ∙ told (not sign) atom number ∙ ap (λ l. is_sign l (not sign)) two ∙ sign_refl (not sign)

  pub contradicts_from : (number : ℕ) → IsOpposed rows cube (length cube) number → Contradicts cube (cube_at cubes number)
  contradicts_from number (atom, lt, passes) = let parts = clash_literals number atom passes in (atom, parts.0, parts.1, parts.2)

  pub contradicts_to : (number : ℕ) → Contradicts cube (cube_at cubes number) → IsOpposed rows cube (length cube) number
  contradicts_to number (atom, sign, one, two) =
      let passes = clash_from number atom sign one two in
      (atom, clash_within rows cube number atom passes, passes)

  pub beside_from : (number : ℕ) → ¬ IsOpposed rows cube (length cube) number → is_beside cube (cube_at cubes number) ≡ true
  beside_from number none = (is_beside-Decides cube (cube_at cubes number)).1 (λ apart. none (contradicts_to number apart))

  pub not_beside : (number : ℕ) → IsOpposed rows cube (length cube) number → is_beside cube (cube_at cubes number) ≡ false
  not_beside number opposed = false_from_ne_true _ (λ e. (is_beside-Decides cube (cube_at cubes number)).0 e (contradicts_from number opposed))

  module _ (below number : ℕ) (few : number ≤ below) (fewer : number ≤ length cubes) (before : (k : ℕ) → k < number → IsOpposed rows cube (length cube) k) where
    none_before : (k : ℕ) (d : List (Option Bool)) → k < number → is_beside cube (slice_index_or (take below cubes) k d) ≡ false
    none_before k d lt =
        let here : k < length (take below cubes) = omega (arith, lt, few, fewer, length-take below cubes) in
        ap (is_beside cube) (get_or_default (take below cubes) k d [] here ∙ get_or-take below cubes k [] (omega (arith, lt, few))) ∙ not_beside k (before k lt)

    -- the first that is found
    pub first_is : number < below → number < length cubes → ¬ IsOpposed rows cube (length cube) number → position (is_beside cube) (take below cubes) ≡ Some number
    first_is lt small none =
        let here : number < length (take below cubes) = omega (arith, lt, small, length-take below cubes) in
        found_at (is_beside cube) (take below cubes) number none_before (cube_at cubes number) here
        (sym (get_or_default (take below cubes) number (cube_at cubes number) [] here ∙ get_or-take below cubes number [] lt)) (beside_from number none)

    -- none is found
    pub none_is : (below ≤ number) ⊎ (length cubes ≤ number) → position (is_beside cube) (take below cubes) ≡ None
    none_is end = found_nowhere (is_beside cube) (take below cubes) number none_before (⊎_elim
        (λ le. omega (arith, le, length-take below cubes))
        (λ le. omega (arith, le, length-take below cubes))
        end)

  -- what is found among the cubes before a number
  pub found_is : (result : Option ℕ) (below end : ℕ) → end ≡ min below (length cubes) → IfSome result (λ number. number < end) → IfSome result (λ number. ¬ IsOpposed rows cube (length cube) number) →
      IfSome result (λ number. (k : ℕ) → k < number → IsOpposed rows cube (length cube) k) → IfNone result ((k : ℕ) → k < end → IsOpposed rows cube (length cube) k) → result ≡ position (is_beside cube) (take below cubes)
  found_is None below end is small none before all = sym (none_is below end (omega (arith, is)) (omega (arith, is)) all (⊎_elim (λ lt. inl (omega (arith, is, lt))) (λ le. inr (omega (arith, is, le))) (cases_lt below (length cubes))))
  found_is (Some number) below end is small none before all = sym (first_is below number (omega (arith, is, small)) (omega (arith, is, small)) before (omega (arith, is, small)) (omega (arith, is, small)) none)

-- ---- no cubes

module _ (rows : List (List ℕ)) (counts : List ℕ) (none : counts ≡ []) where
  pub no_cubes : cubes_of rows 0 counts ≡ []
  unfolding cubes_of
  no_cubes = ap (cubes_of rows 0) none

  pub no_bits : ((sign : Bool) (atom number : ℕ) → has rows sign atom number ≡ false) → IsMatrixOf (cubes_of rows 0 counts) rows
  no_bits clear sign atom number = clear sign atom number ∙ sym (ap (λ cs. is_sign (literal_at (cube_at cs number) atom) sign) no_cubes)

-- bits that are the same are still those of the cubes
pub same_bits : (old new : List (List ℕ)) (counts others : List ℕ) → IsMatrixOf (cubes_of old 0 counts) old → ((sign : Bool) (atom number : ℕ) → has new sign atom number ≡ has old sign atom number) → others ≡ counts →
    (cubes_of new 0 others ≡ cubes_of old 0 counts) × IsMatrixOf (cubes_of new 0 others) new
same_bits old new counts others told same is =
    let cubes : cubes_of new 0 others ≡ cubes_of old 0 counts = ap (cubes_of new 0) is ∙ same_cubes old counts told new same in
    (cubes, subst (λ cs. IsMatrixOf cs new) (sym cubes) (λ sign atom number. same sign atom number ∙ told sign atom number))
