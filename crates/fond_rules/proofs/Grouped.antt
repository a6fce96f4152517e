-- Conditions of pairs, by their actions.
use Rattle.std.proofs.Common.{◌≡◌, ◌≢◌, ℕ, zero, suc, List, [], ◌∷◌, ◌++◌, Bool, true, false, not, Option, Some, None, All, length, cond, get_or, refl, sym, ap, ◌∙◌, subst, ⊎_elim, arith}
use Rattle.std.specs.Prelude.{◌&&◌, Contains, Decides, MatchOption, is_some, nat_eq, nat_lt, position}
use Rattle.std.specs.List.{position_or_len}
use Rattle.std.proofs.Math.ListN.{set}
use Rattle.std.proofs.lemmas.Bool.{false≢true, ltb-false, ltb-true}
use Rattle.std.proofs.lemmas.Bool.Decides.{nat_tests}
use Rattle.std.proofs.lemmas.List.{get_or-set_same, get_or-set_other}
use Rattle.std.proofs.lemmas.List.Elements.{All-contains, All-contains_itself, Contains-append_left, Contains-append_right, Contains-push_cases}
use Rattle.std.proofs.lemmas.List.Sums.{fails_before_first, passes_at_first}
use Rattle.fond_state.specs.Cubes.{Contradicts}
use Rattle.fond_match.specs.Besides.{permits, is_beside, is_beside-Decides}
use Rattle.fond_match.proofs.Members.{first_member}
use Rattle.fond_task.specs.declared.rule.Pair.{Pair}
use Rattle.fond_task.specs.Layers.{CubeView}
use Rattle.fond_rules.specs.Belongs.{ArePairsOver}
use Rattle.fond_rules.specs.Groups.{AreNumbered, AreConditionsOf, list_at}
use Rattle.fond_rules.specs.Targets.{AllContradict}

module _ (lists : List (List CubeView)) (numbers : ℕ → Option ℕ) (apart : AreNumbered lists numbers) where
  module _ (act number : ℕ) (own : numbers act ≡ Some number) (list : List CubeView) where
    set_own : (other : ℕ) → act ≡ other → list_at (set lists number list) (numbers other) ≡ list
    set_own other is = ap (list_at (set lists number list)) (ap numbers (sym is) ∙ own) ∙ get_or-set_same lists number list [] (apart.there act number own)

    set_past : (other : ℕ) (found : Option ℕ) → numbers other ≡ found → act ≢ other → list_at (set lists number list) found ≡ list_at lists found
    set_past other None is differs = refl
    set_past other (Some place) is differs =
        get_or-set_other lists number place list [] (λ same. differs (apart.own act other number own (is ∙ ap (λ n. Some n) same)))

    -- the list of an action was replaced
    set_by : (other : ℕ) (b : Bool) → nat_eq act other ≡ b → list_at (set lists number list) (numbers other) ≡ cond b list (list_at lists (numbers other))
    set_by other true same = set_own other (grind (arith, nat_tests))
    set_by other false differs = set_past other (numbers other) refl (grind (arith, nat_tests))

  -- one more cube in the list of an action
  pub put_cube : (act number : ℕ) (own : numbers act ≡ Some number) (cube : CubeView) (list : List CubeView) → list ≡ list_at lists (Some number) ++ cube ∷ [] → (other : ℕ) →
      list_at (set lists number list) (numbers other) ≡ cond (nat_eq act other) (list_at lists (numbers other) ++ cube ∷ []) (list_at lists (numbers other))
  put_cube act number own cube list grown other = set_by act number own list other (nat_eq act other) refl ∙ by (nat_eq act other) refl
    where
      by : (b : Bool) → nat_eq act other ≡ b → cond b list (list_at lists (numbers other)) ≡ cond b (list_at lists (numbers other) ++ cube ∷ []) (list_at lists (numbers other))
      by true same =
          let is : act ≡ other = grind (arith, nat_tests) in
          grown ∙ ap (λ found. list_at lists found ++ cube ∷ []) (sym own ∙ ap numbers is)
      by false differs = refl

module _ (pairs : List Pair) (pair : Pair) (act : ℕ) (cubes : List CubeView) (before : AreConditionsOf pairs act cubes) where
  last_pair : Contains (pairs ++ pair ∷ []) pair
  last_pair = Contains-append_right pairs (pair ∷ []) pair (first_member pair [])

  last_cube : Contains (cubes ++ pair.cond ∷ []) pair.cond
  last_cube = Contains-append_right cubes (pair.cond ∷ []) pair.cond (first_member pair.cond [])

  -- the conditions of one more pair
  pub conditions_more : (b : Bool) → nat_eq pair.act act ≡ b → AreConditionsOf (pairs ++ pair ∷ []) act (cond b (cubes ++ pair.cond ∷ []) cubes)
  conditions_more true same = record {
    complete = λ one has own. ⊎_elim
        (λ there. Contains-append_left cubes (pair.cond ∷ []) one.cond (before.complete one there own))
        (λ is. let P : Pair → Type 0 = λ p. Contains (cubes ++ pair.cond ∷ []) p.cond in subst P is last_cube)
        (Contains-push_cases pairs pair one has);
    within = λ cube has. ⊎_elim
        (λ there. let one = before.within cube there in (one.0, Contains-append_left pairs (pair ∷ []) one.0 one.1, one.2, one.3))
        (λ is. (pair, last_pair, grind (arith, nat_tests), is))
        (Contains-push_cases cubes pair.cond cube has);
  }
  conditions_more false differs = record {
    complete = λ one has own. ⊎_elim
        (λ there. before.complete one there own)
        (λ is. let other : ¬ pair.act ≡ act = grind (arith, nat_tests) in absurd (other (ap (λ (p : Pair). p.act) is ∙ own)))
        (Contains-push_cases pairs pair one has);
    within = λ cube has. let one = before.within cube has in (one.0, Contains-append_left pairs (pair ∷ []) one.0 one.1, one.2, one.3);
  }

-- no pair has an action of which there are no conditions
pub none_contradict : (pairs : List Pair) (act : ℕ) (cube : CubeView) → AreConditionsOf pairs act [] → AllContradict pairs act cube
none_contradict pairs act cube conditions = λ pair has own. absurd (omega (arith, (conditions.complete pair has own).1))

-- conditions by lists that are the same
pub conditions_same : (items pairs : List Pair) (act : ℕ) (known cubes : List CubeView) → items ≡ pairs → cubes ≡ known → AreConditionsOf items act known → AreConditionsOf pairs act cubes
conditions_same items pairs act known cubes same is conditions =
    let P : List Pair → Type 0 = λ ps. AreConditionsOf ps act cubes in
    let Q : List CubeView → Type 0 = λ cs. AreConditionsOf items act cs in
    subst P same (subst Q (sym is) conditions)

-- the conditions of pairs are over the atoms of the pairs
pub conditions_over : (atoms : ℕ) (pairs : List Pair) (act : ℕ) (cubes : List CubeView) → AreConditionsOf pairs act cubes → ArePairsOver atoms pairs → All (λ cube. length cube ≡ atoms) cubes
conditions_over atoms pairs act cubes conditions over = λ k d small.
    let one = conditions.within (get_or cubes k d) (All-contains_itself cubes k d small) in
    ap length (sym one.3) ∙ All-contains (λ pair. length pair.cond ≡ atoms) pairs one.0 over one.1

opposed : (known literal : Option Bool) → permits known literal ≡ false → (sign : Bool) × (known ≡ Some sign) × (literal ≡ Some (not sign))
opposed None literal e = absurd (false≢true (sym e))
opposed (Some known) None e = absurd (false≢true (sym e))
opposed (Some true) (Some true) e = absurd (false≢true (sym e))
opposed (Some true) (Some false) e = (true, refl, refl)
opposed (Some false) (Some true) e = (false, refl, refl)
opposed (Some false) (Some false) e = absurd (false≢true (sym e))

contradicts_by : (known literal : Option Bool) (cube other : CubeView) → (is_beside cube other ≡ false → Contradicts cube other) → (b : Bool) → permits known literal ≡ b → (b && is_beside cube other) ≡ false → Contradicts (known ∷ cube) (literal ∷ other)
contradicts_by known literal cube other rest true is e = let one = rest e in (suc one.0, one.1, one.2, one.3)
contradicts_by known literal cube other rest false is e = let one = opposed known literal is in (zero, one.0, one.1, one.2)

-- a cube contradicts those that it does not lie beside
contradicts_from : (cube other : CubeView) → is_beside cube other ≡ false → Contradicts cube other
contradicts_from [] other e = absurd (false≢true (sym e))
contradicts_from (known ∷ cube) [] e = absurd (false≢true (sym e))
contradicts_from (known ∷ cube) (literal ∷ other) e = contradicts_by known literal cube other (contradicts_from cube other) (permits known literal) refl e

module _ {X : Type 0} (test : X → Bool) where
  first_or_none : (xs : List X) → MatchOption (position test xs) ((x : X) → Contains xs x → test x ≡ false) (λ _. (x : X) × Contains xs x × (test x ≡ true))
  first_or_none [] = λ x has. absurd (omega (arith, has.1))
  first_or_none (y ∷ ys) = by (nat_lt (position_or_len test (y ∷ ys)) (length (y ∷ ys))) refl
    where
      by : (b : Bool) → nat_lt (position_or_len test (y ∷ ys)) (length (y ∷ ys)) ≡ b →
          MatchOption (cond b (Some (position_or_len test (y ∷ ys))) None) ((x : X) → Contains (y ∷ ys) x → test x ≡ false) (λ _. (x : X) × Contains (y ∷ ys) x × (test x ≡ true))
      by true lt =
          let small = ltb-true (position_or_len test (y ∷ ys)) (length (y ∷ ys)) lt in
          (get_or (y ∷ ys) (position_or_len test (y ∷ ys)) y, All-contains_itself (y ∷ ys) (position_or_len test (y ∷ ys)) y small, passes_at_first test (y ∷ ys) y small)
      by false ge = λ x has.
          ap test (sym has.2) ∙ fails_before_first test (y ∷ ys) has.0 x (omega (arith, has.1, ltb-false (position_or_len test (y ∷ ys)) (length (y ∷ ys)) ge))

module _ (pairs : List Pair) (act : ℕ) (cube : CubeView) (cubes : List CubeView) (conditions : AreConditionsOf pairs act cubes) where
  contradict_by : (found : Option ℕ) (all : Bool) → is_some found ≡ not all → MatchOption found ((x : CubeView) → Contains cubes x → is_beside cube x ≡ false) (λ _. (x : CubeView) × Contains cubes x × (is_beside cube x ≡ true)) →
      Decides all (AllContradict pairs act cube)
  contradict_by None true is none = (λ e pair has own. contradicts_from cube pair.cond (none pair.cond (conditions.complete pair has own)), λ all. refl)
  contradict_by None false is none = absurd (false≢true is)
  contradict_by (Some n) true is one = absurd (false≢true (sym is))
  contradict_by (Some n) false is one = (
    λ e. absurd (false≢true e),
    λ all.
        let pair = conditions.within one.0 one.1 in
        let P : CubeView → Type 0 = λ c. Contradicts cube c in
        absurd ((is_beside-Decides cube one.0).0 one.2 (subst P pair.3 (all pair.0 pair.1 pair.2))),
  )

  -- a cube contradicts the conditions of all pairs of an action if it lies beside none of them
  pub contradict_all : (found : Option ℕ) (all : Bool) → is_some found ≡ not all → found ≡ position (λ other. is_beside cube other) cubes → Decides all (AllContradict pairs act cube)
  contradict_all found all is at =
      let P : Option ℕ → Type 0 = λ found. MatchOption found ((x : CubeView) → Contains cubes x → is_beside cube x ≡ false) (λ _. (x : CubeView) × Contains cubes x × (is_beside cube x ≡ true)) in
      contradict_by found all is (subst P (sym at) (first_or_none (λ other. is_beside cube other) cubes))
