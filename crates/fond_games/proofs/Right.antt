-- Tables in which each node has the right level.
use Rattle.std.proofs.Common.{⊎_elim, ◌≡◌, ℕ, ◌<◌, ◌≤◌, List, [], ◌∷◌, ◌++◌, sym, ap, ◌∙◌, subst, arith}
use Rattle.std.specs.Prelude.{◌⊎◌, Contains}
use Rattle.std.proofs.lemmas.Bool.{cases_lt}
use Rattle.fond_games.specs.Graphs.{IsEdge, successors_of}
use Rattle.fond_games.specs.declared.kind.Kind.{Kind}
use Rattle.fond_games.specs.declared.kind.Kind.TheVariants.{Goal, Unfair}
use Rattle.fond_games.specs.Levels.{level_at, first_level}
use Rattle.fond_games.specs.Certified.{HasLevel, IsAbove, IsGreatest, IsHighest, IsLeast, IsLesser, IsRightAt}
use Rattle.fond_games.proofs.Lists.{Contains-none, Contains-here, Contains-left, Contains-right, Contains-cases, Contains-either}

-- a member of a list with one more at its end
at_end : {P : Type 0} (xs : List ℕ) (x y : ℕ) → Contains (xs ++ x ∷ []) y → (Contains xs y → P) → (x ≡ y → P) → P
at_end xs x y has before here = ⊎_elim before (λ end. ⊎_elim here (λ none. absurd (Contains-none y none)) (Contains-cases y x [] end)) (Contains-either y xs (x ∷ []) has)

module _ (table xs : List ℕ) (x bound own new : ℕ) (is : own ≡ level_at table x) where
  earlier : (level : ℕ) → HasLevel xs table level → HasLevel (xs ++ x ∷ []) table level
  earlier level found = (found.0, Contains-left found.0 xs (x ∷ []) found.1, found.2)

  here : HasLevel (xs ++ x ∷ []) table own
  here = (x, Contains-right x xs (x ∷ []) (Contains-here x []), sym is)

  -- the least level with one node more
  pub least_more : IsLeast xs table bound → IsLesser bound own new → IsLeast (xs ++ x ∷ []) table new
  least_more before less = record {
    found = λ some. ⊎_elim
        (λ first. subst (HasLevel (xs ++ x ∷ []) table) (sym first) (earlier bound (before.found (omega (arith, some, first)))))
        (λ second. subst (HasLevel (xs ++ x ∷ []) table) (sym second) here)
        less.either;
    least = λ node has some. at_end xs x node has
        (λ old. let low = before.least node old some in (less.some low.0, let small = less.low_first low.0 in omega (arith, small, low.1)))
        (λ same.
        let level : level_at table node ≡ own = ap (level_at table) (sym same) ∙ sym is in
        let small = less.low_second (omega (arith, some, level)) in
        (⊎_elim (λ has_bound. less.some has_bound) (λ none. let all = less.first (omega (arith, none)) in omega (arith, all, some, level)) (cases_lt 0 bound), omega (arith, small, level)));
  }

  -- the greatest level with one node more, which has a level
  pub highest_more : IsHighest xs table bound → 0 < own → bound ≤ new → own ≤ new → (new ≡ own) ⊎ (new ≡ bound) → IsHighest (xs ++ x ∷ []) table new
  highest_more before has_own above_bound above_own either = record {
    found = λ some. ⊎_elim
        (λ second. subst (HasLevel (xs ++ x ∷ []) table) (sym second) here)
        (λ first. subst (HasLevel (xs ++ x ∷ []) table) (sym first) (earlier bound (before.found (omega (arith, some, first)))))
        either;
    each = λ node has. at_end xs x node has
        (λ old. let low = before.each node old in (low.0, omega (arith, low.1, above_bound)))
        (λ same.
        let level : level_at table node ≡ own = ap (level_at table) (sym same) ∙ sym is in
        (omega (arith, level, has_own), omega (arith, level, above_own)));
  }

module _ (graph : List (List ℕ)) (table : List ℕ) (node : ℕ) where
  goal_differs : (kind : Kind) → ¬ (first_level kind ≡ 1) → ¬ (kind ≡ Goal)
  goal_differs kind other is = other (ap first_level is)

  -- an unfair node with a level one above the greatest of its successors
  pub unfair_right : (nexts : List ℕ) (bound : ℕ) → nexts ≡ successors_of graph node → IsGreatest nexts table bound → IsAbove (level_at table node) bound → IsRightAt Unfair graph table node
  unfair_right nexts bound are greatest above = record {
    goal = λ is. absurd (goal_differs Unfair (λ one. omega (arith, one)) is);
    one = λ is. absurd (⊎_elim (λ both. omega (arith, is, both.1)) (λ more. omega (arith, is, more.0, more.1)) above);
    falls = λ some. ⊎_elim
        (λ both. absurd (omega (arith, some, both.1)))
        (λ more. ⊎_elim
        (λ highest.
        let found = highest.found more.0 in
        ((found.0, moved found.0 found.1), λ after edge. let low = highest.each after (back after edge) in (low.0, omega (arith, low.1, more.1))))
        (λ lacks. absurd (omega (arith, lacks.0, more.0)))
        greatest)
        above;
    least = λ level falls. ⊎_elim
        (λ highest. ⊎_elim
        (λ both. let low = highest.each falls.0.0 (back falls.0.0 falls.0.1) in absurd (omega (arith, low.0, low.1, both.0)))
        (λ more.
        let found = highest.found more.0 in
        let low = falls.1 found.0 (moved found.0 found.1) in
        (omega (arith, more.1), omega (arith, more.1, found.2, low.1)))
        above)
        (λ lacks. let low = falls.1 lacks.1.0 (moved lacks.1.0 lacks.1.1) in absurd (omega (arith, low.0, lacks.1.2)))
        greatest;
  }
    where
      moved : (after : ℕ) → Contains nexts after → IsEdge graph node after
      moved after has = subst (λ (xs : List ℕ). Contains xs after) are has

      back : (after : ℕ) → IsEdge graph node after → Contains nexts after
      back after edge = subst (λ (xs : List ℕ). Contains xs after) (sym are) edge
