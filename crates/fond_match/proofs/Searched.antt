-- The visits of a node are among those at the node and in its branches.
use Rattle.std.proofs.Common.{◌≡◌, ℕ, ◌+◌, ◌<◌, ◌≤◌, List, [], ◌∷◌, ◌++◌, Bool, true, false, Option, length, map, take, fold, get_or, append_assoc, refl, sym, ap, ◌∙◌, subst, inl, inr, ⊎_elim, arith}
use Rattle.std.specs.Prelude.{◌⊎◌, Contains, nat_le}
use Rattle.std.specs.List.{concat, filter}
use Rattle.std.proofs.lemmas.Bool.{false≢true, leb-true}
use Rattle.std.proofs.lemmas.List.{append-nil, map-append, take_more, take_all}
use Rattle.std.proofs.lemmas.List.Folds.{concat-append}
use Rattle.std.proofs.lemmas.List.Elements.{Contains-append_cases}
use Rattle.fond_match.specs.declared.node.Node.{Node}
use Rattle.fond_match.specs.declared.node.Node.TheViews.{out-Node, roll-Node}
use Rattle.fond_match.specs.declared.node.Node.TheOpen.{Node-F}
use Rattle.fond_match.specs.declared.node.Node.TheFolds.{fold_out-Node, fold-roll-Node}
use Rattle.fond_match.specs.Visits.{IsLeast, better, cube_at, enters, entered, visits, visits_step, visits_of_all}
use Rattle.fond_match.proofs.Found.{least_found}
use Rattle.fond_match.proofs.Members.{from_filter, member_if, passed_filter, tested_if}

-- the numbers at a node and in its branches that are not below the least one
abbrev pub below_node : (ℕ → Bool → Bool) → Node-F Node → List ℕ
below_node has node = filter (λ number. nat_le node.least number) (node.numbers.items ++ visits_of_all has node.branches.items)

pub visits_out : (has : ℕ → Bool → Bool) (node : Node) → visits has node ≡ entered has (out-Node node).literal (below_node has (out-Node node))
visits_out has = fold_out-Node (List ℕ) (visits_step has)

pub visits_roll : (has : ℕ → Bool → Bool) (node : Node-F Node) → visits has (roll-Node node) ≡ entered has node.literal (below_node has node)
visits_roll has = fold-roll-Node (List ℕ) (visits_step has)

pub visits_of_all-push : (has : ℕ → Bool → Bool) (nodes : List Node) (node : Node) → visits_of_all has (nodes ++ node ∷ []) ≡ visits_of_all has nodes ++ visits has node
visits_of_all-push has nodes node = ap concat (map-append (visits has) nodes (node ∷ [])) ∙ concat-append (map (visits has) nodes) (visits has node ∷ []) ∙ ap (λ one. visits_of_all has nodes ++ one) (append-nil (visits has node))

module _ (has : ℕ → Bool → Bool) (node : Node) (number : ℕ) (visited : Contains (visits has node) number) where
  in_entered : Contains (entered has (out-Node node).literal (below_node has (out-Node node))) number
  in_entered = let P : List ℕ → Type 0 = λ numbers. Contains numbers number in subst P (visits_out has node) visited

  is_entered : enters has (out-Node node).literal ≡ true
  is_entered = tested_if (enters has (out-Node node).literal) (below_node has (out-Node node)) number in_entered

  in_below : Contains (below_node has (out-Node node)) number
  in_below = member_if (enters has (out-Node node).literal) (below_node has (out-Node node)) number in_entered

  not_below : (out-Node node).least ≤ number
  not_below = leb-true (out-Node node).least number (passed_filter (λ number. nat_le (out-Node node).least number) _ number in_below)

  at_or_in : Contains ((out-Node node).numbers.items ++ visits_of_all has (out-Node node).branches.items) number
  at_or_in = from_filter (λ number. nat_le (out-Node node).least number) _ number in_below

module _ (lies : List (Option Bool) → Bool) (cubes : List (List (Option Bool))) (has : ℕ → Bool → Bool) (node : Node) (best : ℕ) where
  -- a node without a number below the best one is passed over
  pub skipped_least : best ≤ (out-Node node).least → IsLeast lies cubes best (visits has node) best
  skipped_least large = record { small = omega arith; from = inl refl; least = λ number visited passes. omega (arith, large, not_below has node number visited) }

  -- if the cube of the least number passes, no number of the node is below it
  pub passed_least : (out-Node node).least ≤ best → lies (cube_at cubes (out-Node node).least) ≡ true → IsLeast lies cubes best (visits has node) (out-Node node).least
  passed_least small passes = record { small = small; from = inr passes; least = λ number visited passed. not_below has node number visited }

  -- a node that the query does not enter is passed over
  pub not_entered : enters has (out-Node node).literal ≡ false → IsLeast lies cubes best (visits has node) best
  not_entered out = record { small = omega arith; from = inl refl; least = λ number visited passes. absurd (false≢true (sym out ∙ is_entered has node number visited)) }

  -- after the numbers at the node, no branch was searched
  pub searched_numbers : (numbers : List ℕ) (found : ℕ) → numbers ≡ (out-Node node).numbers.items → found ≡ fold (better lies cubes) best numbers → IsLeast lies cubes best ((out-Node node).numbers.items ++ []) found
  searched_numbers numbers found own is =
      let P : List ℕ → Type 0 = λ visited. IsLeast lies cubes best visited found in
      let Q : ℕ → Type 0 = λ found. IsLeast lies cubes best numbers found in
      subst P (own ∙ sym (append-nil (out-Node node).numbers.items)) (subst Q (sym is) (least_found lies cubes best numbers))

  -- after all branches, the node was searched
  pub searched_node : (found i : ℕ) (branches : List Node) → branches ≡ (out-Node node).branches.items → length branches ≤ i → IsLeast lies cubes best ((out-Node node).numbers.items ++ visits_of_all has (take i branches)) found →
      IsLeast lies cubes best (visits has node) found
  searched_node found i branches own end least =
      let same : take i branches ≡ (out-Node node).branches.items = take_all i branches end ∙ own in
      let P : List Node → Type 0 = λ nodes. IsLeast lies cubes best ((out-Node node).numbers.items ++ visits_of_all has nodes) found in
      let all = subst P same least in
      record { small = all.small; from = all.from; least = λ number visited. all.least number (at_or_in has node number visited) }

-- the least of some numbers, and then of more
least_both : (lies : List (Option Bool) → Bool) (cubes : List (List (Option Bool))) (best found more : ℕ) (first rest : List ℕ) →
    IsLeast lies cubes best first found → IsLeast lies cubes found rest more → IsLeast lies cubes best (first ++ rest) more
least_both lies cubes best found more first rest one other = record {
  small = omega (arith, one.small, other.small);
  from = ⊎_elim (λ is. let P : ℕ → Type 0 = λ n. (n ≡ best) ⊎ (lies (cube_at cubes n) ≡ true) in subst P (sym is) one.from) (λ passes. inr passes) other.from;
  least = λ number has passes. ⊎_elim (λ there. omega (arith, other.small, one.least number there passes)) (λ there. other.least number there passes) (Contains-append_cases first rest number has);
}

-- one more branch was searched
pub searched_branch : (lies : List (Option Bool) → Bool) (cubes : List (List (Option Bool))) (has : ℕ → Bool → Bool) (best found more : ℕ) (numbers : List ℕ) (branches : List Node) (i : ℕ) (branch : Node) →
    i < length branches → branch ≡ get_or branches i branch → IsLeast lies cubes best (numbers ++ visits_of_all has (take i branches)) found → IsLeast lies cubes found (visits has branch) more →
    IsLeast lies cubes best (numbers ++ visits_of_all has (take (i + 1) branches)) more
searched_branch lies cubes has best found more numbers branches i branch within is before one =
    let taken : take (i + 1) branches ≡ take i branches ++ branch ∷ [] = take_more branches i branch within ∙ ap (λ b. take i branches ++ b ∷ []) (sym is) in
    let same : (numbers ++ visits_of_all has (take i branches)) ++ visits has branch ≡ numbers ++ visits_of_all has (take (i + 1) branches) =
    append_assoc numbers (visits_of_all has (take i branches)) (visits has branch) ∙ ap (λ ns. numbers ++ ns) (sym (ap (visits_of_all has) taken ∙ visits_of_all-push has (take i branches) branch)) in
    let P : List ℕ → Type 0 = λ visited. IsLeast lies cubes best visited more in
    subst P same (least_both lies cubes best found more (numbers ++ visits_of_all has (take i branches)) (visits has branch) before one)
