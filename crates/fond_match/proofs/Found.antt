-- The least number that was visited is that of the first cube that passes a test.
use Rattle.std.proofs.Common.{◌≡◌, ℕ, ◌<◌, ◌≤◌, List, [], ◌∷◌, Bool, true, false, Option, Some, None, length, map, fold, cond, get_or, refl, sym, ap, ◌∙◌, subst, inl, inr, ⊎_elim, arith}
use Rattle.std.specs.Prelude.{◌&&◌, Contains, slice_get, nat_lt, option_map, position}
use Rattle.std.specs.List.{position_or_len}
use Rattle.std.proofs.lemmas.Bool.{false≢true}
use Rattle.std.proofs.lemmas.Bool.Decides.{nat_tests}
use Rattle.std.proofs.lemmas.List.{get_or-map, length-map}
use Rattle.std.proofs.lemmas.List.Sums.{position_or_len_is}
use Rattle.std.proofs.lemmas.Option.{slice_get-get_or, slice_get-map}
use Rattle.fond_match.specs.Visits.{IsLeast, cube_at, better}
use Rattle.fond_match.proofs.Members.{no_member, member_cases}

module _ (lies : List (Option Bool) → Bool) (cubes : List (List (Option Bool))) where
  -- one more number in front
  least_skip : (best first found : ℕ) (numbers : List ℕ) → IsLeast lies cubes best numbers found → (lies (cube_at cubes first) ≡ true → found ≤ first) → IsLeast lies cubes best (first ∷ numbers) found
  least_skip best first found numbers least skipped = record {
    small = least.small;
    from = least.from;
    least = λ number has passes. ⊎_elim
        (λ is. let passed : lies (cube_at cubes first) ≡ true = ap (λ n. lies (cube_at cubes n)) is ∙ passes in omega (arith, skipped passed, is))
        (λ there. least.least number there passes)
        (member_cases first numbers number has);
  }

  least_take : (best first found : ℕ) (numbers : List ℕ) → first < best → lies (cube_at cubes first) ≡ true → IsLeast lies cubes first numbers found → IsLeast lies cubes best (first ∷ numbers) found
  least_take best first found numbers below passes least = record {
    small = omega (arith, least.small, below);
    from = ⊎_elim
        (λ is. let P : ℕ → Type 0 = λ n. lies (cube_at cubes n) ≡ true in inr (subst P (sym is) passes))
        (λ one. inr one)
        least.from;
    least = λ number has passed. ⊎_elim (λ is. omega (arith, least.small, is)) (λ there. least.least number there passed) (member_cases first numbers number has);
  }

  least_step : (best first : ℕ) (numbers : List ℕ) → ((best : ℕ) → IsLeast lies cubes best numbers (fold (better lies cubes) best numbers)) → (b t : Bool) → nat_lt first best ≡ b → lies (cube_at cubes first) ≡ t →
      IsLeast lies cubes best (first ∷ numbers) (fold (better lies cubes) (cond (b && t) first best) numbers)
  least_step best first numbers rest true true lt passes = least_take best first _ numbers (grind (arith, nat_tests)) passes (rest first)
  least_step best first numbers rest true false lt fails = least_skip best first _ numbers (rest best) (λ passes. absurd (false≢true (sym fails ∙ passes)))
  least_step best first numbers rest false t ge is =
      let large : best ≤ first = grind (arith, nat_tests) in
      let small : fold (better lies cubes) best numbers ≤ best = (rest best).small in
      least_skip best first _ numbers (rest best) (λ passes. omega (arith, small, large))

  -- the fold over some numbers finds the least
  pub least_found : (best : ℕ) (numbers : List ℕ) → IsLeast lies cubes best numbers (fold (better lies cubes) best numbers)
  least_found best [] = record { small = omega arith; from = inl refl; least = λ number has passes. absurd (no_member number has) }
  least_found best (first ∷ numbers) = least_step best first numbers (λ best. least_found best numbers) (nat_lt first best) (lies (cube_at cubes first)) refl refl

module _ {X : Type 0} (cube : X → List (Option Bool)) where
  -- the cube of an item that was read
  pub cube_read : (items : List X) (k : ℕ) (item : X) → k < length items → item ≡ get_or items k item → slice_get (map cube items) k ≡ Some (cube item)
  cube_read items k item small is = slice_get-map cube items k ∙ ap (option_map cube) (slice_get-get_or items k item small ∙ ap (λ x. Some x) (sym is))

  pub cube_found : (items : List X) (k : ℕ) (item : X) → k < length items → item ≡ get_or items k item → cube_at (map cube items) k ≡ cube item
  cube_found items k item small is = get_or-map cube items k item [] small ∙ ap cube (sym is)

module _ {X : Type 0} (cube : X → List (Option Bool)) (lies : List (Option Bool) → Bool) (visited : List ℕ) where
  -- each item whose cube passes was visited
  abbrev pub VisitsPassing : List X → Type 0
  VisitsPassing items = (number : ℕ) (own : List (Option Bool)) → slice_get (map cube items) number ≡ Some own → lies own ≡ true → Contains visited number

  at_item : (items : List X) (d : X) (k : ℕ) → k < length items → cube_at (map cube items) k ≡ cube (get_or items k d)
  at_item items d k small = get_or-map cube items k d [] small

  first_is : (items : List X) (d : X) (found : ℕ) → VisitsPassing items → IsLeast lies (map cube items) (length items) visited found → position_or_len (λ item. lies (cube item)) items ≡ found
  first_is items d found complete least = position_or_len_is (λ item. lies (cube item)) items found d least.small
      (λ k small. fails k (omega (arith, small, least.small)) small (lies (cube (get_or items k d))) refl)
      (λ small. ⊎_elim (λ is. absurd (omega (arith, is, small))) (λ one. ap lies (sym (at_item items d found small)) ∙ one) least.from)
    where
      fails : (k : ℕ) → k < length items → k < found → (b : Bool) → lies (cube (get_or items k d)) ≡ b → b ≡ false
      fails k within small false is = refl
      fails k within small true is =
          let same = at_item items d k within in
          let there : slice_get (map cube items) k ≡ Some (cube (get_or items k d)) =
          slice_get-get_or (map cube items) k [] (omega (arith, within, length-map items cube)) ∙ ap (λ c. Some c) same in
          let has = complete k (cube (get_or items k d)) there is in
          absurd (omega (arith, small, least.least k has (ap lies same ∙ is)))

  position_is : (items : List X) (found : ℕ) → VisitsPassing items → IsLeast lies (map cube items) (length items) visited found → position_or_len (λ item. lies (cube item)) items ≡ found
  position_is [] found complete least = omega (arith, least.small)
  position_is (item ∷ items) found complete least = first_is (item ∷ items) item found complete least

  -- the least number that was visited, if one was, is that of the first item whose cube passes
  pub first_found : (items : List X) (found : ℕ) → VisitsPassing items → IsLeast lies (map cube items) (length items) visited found →
      position (λ item. lies (cube item)) items ≡ cond (nat_lt found (length items)) (Some found) None
  first_found items found complete least = ap (λ n. cond (nat_lt n (length items)) (Some n) None) (position_is items found complete least)
