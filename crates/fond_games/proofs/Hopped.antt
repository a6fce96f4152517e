-- Hops are the levels of a graph with one goal, in which chance picks each edge.
use Rattle.std.proofs.Common.{inl, inr, ⊎_elim, ◌≡◌, ℕ, zero, suc, ◌+◌, ◌<◌, ◌≤◌, List, [], ◌∷◌, length, refl, sym, ap, ◌∙◌, subst, arith}
use Rattle.std.proofs.Math.ListN.{set, replicate}
use Rattle.std.proofs.lemmas.Bool.{cases_lt}
use Rattle.std.proofs.lemmas.List.{get_or-set_same, get_or-set_other, length-set, length-replicate}
use Rattle.fond_games.specs.Walks.{Walk, stay, leave}
use Rattle.fond_games.specs.Graphs.{IsEdge}
use Rattle.fond_games.specs.declared.kind.Kind.{Kind}
use Rattle.fond_games.specs.declared.kind.Kind.TheVariants.{Goal, Fair}
use Rattle.fond_games.specs.Levels.{kind_at, level_at, Falls, AreLevels, first_level}
use Rattle.fond_games.specs.Hops.{AreHops}
use Rattle.fond_games.proofs.Raised.{same_or_not}
use Rattle.fond_games.proofs.Tours.{edge_within}

fair_at : (n node : ℕ) → node < n → kind_at (replicate n Fair) node ≡ Fair
fair_at zero node there = absurd (omega (arith, there))
fair_at (suc n) zero there = refl
fair_at (suc n) (suc node) there = fair_at n node (omega (arith, there))

module _ (graph : List (List ℕ)) (target : ℕ) (there : target < length graph) (kinds : List Kind) (is : kinds ≡ set (replicate (length graph) Fair) target Goal) where
  pub known : length kinds ≡ length graph
  known = ap length is ∙ length-set (replicate (length graph) Fair) target Goal ∙ length-replicate (length graph) Fair

  at_target : kind_at kinds target ≡ Goal
  at_target = ap (λ ks. kind_at ks target) is ∙ get_or-set_same (replicate (length graph) Fair) target Goal Goal (let long = length-replicate (length graph) Fair in omega (arith, there, long))

  elsewhere : (node : ℕ) → node < length graph → ¬ (node ≡ target) → kind_at kinds node ≡ Fair
  elsewhere node within differs = ap (λ ks. kind_at ks node) is ∙ get_or-set_other (replicate (length graph) Fair) target node Goal Goal differs ∙ fair_at (length graph) node within

  module _ (table : List ℕ) (levels : AreLevels kinds graph table) where
    starts : level_at table target ≡ 1
    starts = levels.goals target there at_target

    past : (node : ℕ) → length graph ≤ node → level_at table node ≡ 0
    past node beyond = none table node (omega (arith, levels.long, beyond))
      where
        none : (xs : List ℕ) (i : ℕ) → length xs ≤ i → level_at xs i ≡ 0
        none [] i long = refl
        none (x ∷ xs) zero long = absurd (omega (arith, long))
        none (x ∷ xs) (suc i) long = none xs i (omega (arith, long))

    one_before : (node after : ℕ) → IsEdge graph node after → 0 < level_at table after → 0 < level_at table node
    one_before node after edge has = ⊎_elim
        (λ same. let one : level_at table node ≡ 1 = ap (level_at table) same ∙ starts in omega (arith, one))
        (λ differs.
        let fair = elsewhere node (edge_within graph node after edge) differs in
        let below = levels.least node (level_at table after + 1) (subst (λ k. Falls k graph table (level_at table after + 1) node) (sym fair) (after, edge, (has, omega arith))) in
        below.0)
        (same_or_not node target)

    along : (node : ℕ) (states : List ℕ) (last : ℕ) → Walk (IsEdge graph) node states last → 0 < level_at table last → 0 < level_at table node
    along node states last (stay s) has = has
    along node states last (leave s t u rest step walk) has = one_before s t step (along t rest u walk has)

    pub hops : AreHops graph target table
    hops = record {
      starts = omega (arith, starts);
      reaches = λ node way. along node way.0 target way.1 (omega (arith, starts));
      falls = λ node has. ⊎_elim
          (λ same. inl same)
          (λ differs. ⊎_elim
          (λ within.
          let fair = elsewhere node within differs in
          ⊎_elim
          (λ more. inr (subst (λ k. Falls k graph table (level_at table node) node) fair (levels.falls node more)))
          (λ low.
          let one : level_at table node ≡ 1 = omega (arith, has, low) in
          absurd (goal_fair (sym (levels.ones node one) ∙ fair)))
          (cases_lt 1 (level_at table node)))
          (λ beyond. let none = past node beyond in absurd (omega (arith, none, has)))
          (cases_lt node (length graph)))
          (same_or_not node target);
    }
      where
        goal_fair : ¬ (Goal ≡ Fair)
        goal_fair same = let one : 1 ≡ 0 = ap first_level same in omega (arith, one)
