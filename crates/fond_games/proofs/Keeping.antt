-- Which edges are kept out of a node.
use Rattle.std.proofs.Common.{inl, inr, ⊎_elim, ◌≡◌, ℕ, zero, suc, ◌+◌, ◌<◌, ◌≤◌, List, [], ◌∷◌, ◌++◌, length, length-append, refl, sym, ap, ◌∙◌, subst, arith}
use Rattle.std.specs.Prelude.{◌⊎◌, Contains}
use Rattle.std.proofs.lemmas.Bool.{cases_lt}
use Rattle.fond_games.specs.Graphs.{IsEdge, successors_of}
use Rattle.fond_games.specs.declared.kind.Kind.{Kind}
use Rattle.fond_games.specs.declared.kind.Kind.TheVariants.{Goal, Fair, Unfair}
use Rattle.fond_games.specs.Levels.{kind_at, level_at, Falls, AreLevels}
use Rattle.fond_games.specs.Keeping.{KeptAt, MovesOn}
use Rattle.fond_games.proofs.Lists.{Contains-none, Contains-here, Contains-cases}

abbrev code : Kind → ℕ
code Goal = 0
code Fair = 1
code Unfair = 2

fair_not_unfair : ¬ (Fair ≡ Unfair)
fair_not_unfair same = let one : 1 ≡ 2 = ap code same in omega (arith, one)

-- what is a goal or fair is not unfair
pub not_unfair : (kind : Kind) → (kind ≡ Goal) ⊎ (kind ≡ Fair) → ¬ (kind ≡ Unfair)
not_unfair kind (inl goal) unfair = let zero_two : 0 ≡ 2 = ap code (sym goal ∙ unfair) in omega (arith, zero_two)
not_unfair kind (inr fair) unfair = fair_not_unfair (sym fair ∙ unfair)

-- no level is above the sum of all
total : List ℕ → ℕ
total [] = 0
total (level ∷ table) = level + total table

at_most : (table : List ℕ) (node : ℕ) → level_at table node ≤ total table
unfolding total
at_most [] node = omega arith
at_most (level ∷ table) zero = omega arith
at_most (level ∷ table) (suc node) = omega (arith, at_most table node)

module _ (kinds : List Kind) (graph : List (List ℕ)) (table : List ℕ) (levels : AreLevels kinds graph table) (moves_on : MovesOn kinds graph) (node : ℕ) (within : node < length graph) where
  -- out of a node with a level nothing is kept
  pub kept_none : (kept : List ℕ) → kept ≡ [] → 0 < level_at table node → KeptAt kinds graph table node kept
  kept_none kept is has = subst (KeptAt kinds graph table node) (sym is) (record {
    edges = λ after there. absurd (Contains-none after there);
    fair = λ after none. absurd (omega (arith, has, none));
    goes_on = λ none. absurd (omega (arith, has, none));
  })

  module _ (none : level_at table node ≡ 0) where
    no_goal : ¬ (kind_at kinds node ≡ Goal)
    no_goal goal = let one = levels.goals node within goal in omega (arith, one, none)

    unfallen : (level : ℕ) → ¬ Falls (kind_at kinds node) graph table level node
    unfallen level falls = let below = levels.least node level falls in omega (arith, below.0, none)

    fair_ends : (kind : Kind) → kind ≡ kind_at kinds node → ¬ (kind ≡ Unfair) → (after : ℕ) → IsEdge graph node after → level_at table after ≡ 0
    fair_ends Goal is fair after edge = absurd (no_goal (sym is))
    fair_ends Unfair is fair after edge = absurd (fair refl)
    fair_ends Fair is fair after edge = ⊎_elim
        (λ has. absurd (unfallen (level_at table after + 1) (subst (λ k. Falls k graph table (level_at table after + 1) node) is (after, edge, (has, omega arith)))))
        (λ zero_after. omega (arith, zero_after))
        (cases_lt 0 (level_at table after))

    -- all edges of a fair node
    pub kept_all : (kept : List ℕ) → kept ≡ successors_of graph node → ¬ (kind_at kinds node ≡ Unfair) → KeptAt kinds graph table node kept
    kept_all kept is fair = subst (KeptAt kinds graph table node) (sym is) (record {
      edges = λ after there. (none, there, fair_ends (kind_at kinds node) refl fair after there);
      fair = λ after zero is_fair edge. edge;
      goes_on = λ zero. moves_on node within no_goal;
    })

    -- some successor of an unfair node has no level
    pub not_all : kind_at kinds node ≡ Unfair → ¬ ((after : ℕ) → Contains (successors_of graph node) after → 0 < level_at table after)
    not_all unfair each =
        let top = total table + 1 in
        let falls : Falls Unfair graph table top node = (moves_on node within no_goal, λ after edge. (each after edge, let most = at_most table after in omega (arith, most))) in
        unfallen top (subst (λ k. Falls k graph table top node) (sym unfair) falls)

    -- one edge of an unfair node
    pub kept_one : (kept : List ℕ) (next : ℕ) → kept ≡ next ∷ [] → kind_at kinds node ≡ Unfair → IsEdge graph node next → level_at table next ≡ 0 → KeptAt kinds graph table node kept
    kept_one kept next is unfair edge open_ = subst (KeptAt kinds graph table node) (sym is) (record {
      edges = λ after there. ⊎_elim
          (λ same. (none, subst (λ n. IsEdge graph node n) same edge, subst (λ n. level_at table n ≡ 0) same open_))
          (λ later. absurd (Contains-none after later))
          (Contains-cases after next [] there);
      fair = λ after zero_at fair. absurd (fair_not_unfair (sym fair ∙ unfair));
      goes_on = λ zero_at. (next, Contains-here next []);
    })

at_front : (edges more : List (List ℕ)) (node : ℕ) → node < length edges → successors_of (edges ++ more) node ≡ successors_of edges node
at_front [] more node within = absurd (omega (arith, within))
at_front (first ∷ edges) more zero within = refl
at_front (first ∷ edges) more (suc node) within = at_front edges more node (omega (arith, within))

at_end : (edges : List (List ℕ)) (last : List ℕ) → successors_of (edges ++ last ∷ []) (length edges) ≡ last
at_end [] last = refl
at_end (first ∷ edges) last = at_end edges last

-- one list more has what each of the others has
pub one_kept : (Has : ℕ → List ℕ → Type 0) (edges new : List (List ℕ)) (last : List ℕ) (count : ℕ) → length edges ≡ count → new ≡ edges ++ last ∷ [] → ((node : ℕ) → node < count → Has node (successors_of edges node)) → Has count last →
    (length new ≡ count + 1) × ((node : ℕ) → node < count + 1 → Has node (successors_of new node))
one_kept Has edges new last count counted is each here = (
  let long : length new ≡ length (edges ++ last ∷ []) = ap length is in omega (arith, long, length-append edges (last ∷ []), counted),
  λ node within. subst (λ (xs : List (List ℕ)). Has node (successors_of xs node)) (sym is) (⊎_elim
      (λ less. subst (Has node) (sym (at_front edges (last ∷ []) node (omega (arith, less, counted)))) (each node less))
      (λ end.
      let same : node ≡ length edges = omega (arith, end, within, counted) in
      let named : count ≡ node = omega (arith, end, within) in
      let value : last ≡ successors_of (edges ++ last ∷ []) node = sym (ap (successors_of (edges ++ last ∷ [])) same ∙ at_end edges last) in
      subst (Has node) value (subst (λ n. Has n last) named here))
      (cases_lt node count)),
)
