-- In a flat graph in which each node in reach has a successor, some node in reach has a tour.
use Rattle.std.proofs.Common.{inl, inr, ⊎_elim, ◌≡◌, ℕ, zero, suc, ◌<◌, ◌≤◌, List, [], ◌∷◌, ◌++◌, Bool, true, false, length, get_or, refl, sym, ap, ◌∙◌, subst, append_assoc, length-append, arith}
use Rattle.std.specs.Prelude.{◌⊎◌, ◌&&◌, ◌||◌, ◌==◌, Contains, not}
use Rattle.std.specs.Bool.{Decides}
use Rattle.std.specs.List.{list_any}
use Rattle.std.proofs.lemmas.Bool.{cases_Bool, cases_lt}
use Rattle.std.proofs.lemmas.Bool.Decides.{Decides-eqb}
use Rattle.fond_games.specs.Walks.{Walk, stay, leave, IsInReach, Follows}
use Rattle.fond_games.specs.Laws.{ToursExist}
use Rattle.fond_games.proofs.Lists.{Contains-none, Contains-here, Contains-later, Contains-cases, search_list, any_has, any_from, number_passing, fewer_still, or_cases, or_left, or_right, and_left, and_right, and_both, not_true, not_false, both_ways, decided}
use Rattle.fond_games.proofs.Stages.{stable}
use Rattle.fond_games.proofs.Walking.{join, through, one_step, begins_with, passes, follows_left, follows_right}

-- the numbers below this one
abbrev below : ℕ → List ℕ
below zero = []
below (suc n) = n ∷ below n

below_has : (n k : ℕ) → k < n → Contains (below n) k
below_has zero k less = absurd (omega (arith, less))
below_has (suc n) k less = ⊎_elim
    (λ under. Contains-later k n (below n) (below_has n k under))
    (λ over. let same : n ≡ k = omega (arith, less, over) in subst (λ m. Contains (n ∷ below n) m) same (Contains-here n (below n)))
    (cases_lt k n)

-- a walk in which something follows has a step
pub some_step : (loop : List ℕ) (knot a b : ℕ) → Follows (loop ++ knot ∷ []) a b → 0 < length loop
some_step [] knot a b follows = let long : 1 ≡ length (follows.before ++ a ∷ b ∷ follows.rest) = ap length follows.split in absurd (omega (arith, long, length-append follows.before (a ∷ b ∷ follows.rest)))
some_step (first ∷ loop) knot a b follows = omega arith

-- an edge of a graph that is given by a function
abbrev pub Edge : (ℕ → List ℕ) → ℕ → ℕ → Type 0
Edge succ node after = Contains (succ node) after

module _ (succ : ℕ → List ℕ) (n : ℕ) (within : (node after : ℕ) → Contains (succ node) after → node < n) where
  -- whether a node is in reach within so many steps
  abbrev near : ℕ → ℕ → ℕ → Bool
  near target zero node = node == target
  near target (suc k) node = near target k node || list_any (near target k) (succ node)

  near_sound : (target k node : ℕ) → near target k node ≡ true → IsInReach (Edge succ) node target
  near_sound target zero node is = let same : node ≡ target = (Decides-eqb node target).0 is in subst (λ t. IsInReach (Edge succ) node t) same ([], stay node)
  near_sound target (suc k) node is = ⊎_elim
      (λ before. near_sound target k node before)
      (λ later. let found = any_has (near target k) (succ node) later in through node found.0 target (one_step node found.0 found.1) (near_sound target k found.0 found.2))
      (or_cases (near target k node) (list_any (near target k) (succ node)) is)

  near_here : (target k : ℕ) → near target k target ≡ true
  near_here target zero = (Decides-eqb target target).1 refl
  near_here target (suc k) = or_left (near target k target) (list_any (near target k) (succ target)) (near_here target k)

  abbrev far : ℕ → ℕ → ℕ → Bool
  far target k node = not (near target k node)

  falls : (target k node : ℕ) → far target (suc k) node ≡ true → far target k node ≡ true
  falls target k node is = not_false (near target k node) (⊎_elim
      (λ yes_is. absurd (both_ways (near target (suc k) node) (or_left (near target k node) (list_any (near target k) (succ node)) yes_is) (not_true (near target (suc k) node) is)))
      (λ no_is. no_is)
      (cases_Bool (near target k node)))

  -- so many steps suffice
  enough : (target : ℕ) → (stage : ℕ) × ((node : ℕ) → Contains (below n) node → far target stage node ≡ true → far target (suc stage) node ≡ true)
  enough target = stable (far target) (falls target) (below n)

  near_complete : (stage : ℕ) (node : ℕ) (states : List ℕ) (target : ℕ) → ((other : ℕ) → Contains (below n) other → far target stage other ≡ true → far target (suc stage) other ≡ true) → Walk (Edge succ) node states target → near target stage node ≡ true
  near_complete stage node states target settled (stay s) = near_here s stage
  near_complete stage node states target settled (leave s t u rest step walk) =
      let later = near_complete stage t rest u settled walk in
      let up : near u (suc stage) s ≡ true = or_right (near u stage s) (list_any (near u stage) (succ s)) (any_from (near u stage) (succ s) t step later) in
      ⊎_elim
      (λ is. is)
      (λ fails. absurd (both_ways (near u (suc stage) s) up (not_true (near u (suc stage) s) (settled s (below_has n s (within s t step)) (not_false (near u stage s) fails)))))
      (cases_Bool (near u stage s))

  -- whether a node is in reach of another
  abbrev reaches : ℕ → ℕ → Bool
  reaches node target = near target (enough target).0 node

  reaches_decides : (node target : ℕ) → Decides (reaches node target) (IsInReach (Edge succ) node target)
  reaches_decides node target = (near_sound target (enough target).0 node, λ way. near_complete (enough target).0 node way.0 target (enough target).1 way.1)

  -- a node is recurrent if it is in reach of each node in its reach
  abbrev IsRecurrent : ℕ → Type 0
  IsRecurrent node = (other : ℕ) → IsInReach (Edge succ) node other → IsInReach (Edge succ) other node

  module _ (from : ℕ) (goes_on : (node : ℕ) → IsInReach (Edge succ) from node → (after : ℕ) × Edge succ node after) where
    inside : (node : ℕ) → IsInReach (Edge succ) from node → Contains (below n) node
    inside node way = let next = goes_on node way in below_has n node (within node next.0 next.1)

    -- a node from which one does not come back
    abbrev one_way : ℕ → ℕ → Bool
    one_way node other = reaches node other && not (reaches other node)

    fewer_after : (node other : ℕ) → IsInReach (Edge succ) from node → one_way node other ≡ true → number_passing (reaches other) (below n) < number_passing (reaches node) (below n)
    fewer_after node other way is =
        let on = (reaches_decides node other).0 (and_left (reaches node other) (not (reaches other node)) is) in
        fewer_still (reaches other) (reaches node) (below n)
        (λ last has far_is. (reaches_decides node last).1 (through node other last on ((reaches_decides other last).0 far_is))) node (inside node way)
        (not_true (reaches other node) (and_right (reaches node other) (not (reaches other node)) is)) ((reaches_decides node node).1 ([], stay node))

    comes_back : (node : ℕ) → IsInReach (Edge succ) from node → ((other : ℕ) → Contains (below n) other → one_way node other ≡ false) → IsRecurrent node
    comes_back node way none other on = ⊎_elim
        (λ back. (reaches_decides other node).0 back)
        (λ never. absurd (both_ways (one_way node other) (and_both (reaches node other) (not (reaches other node)) ((reaches_decides node other).1 on) (not_false (reaches other node) never)) (none other (inside other (through from node other way on)))))
        (cases_Bool (reaches other node))

    recurrent_by : (bound node : ℕ) → IsInReach (Edge succ) from node → number_passing (reaches node) (below n) ≤ bound → (knot : ℕ) × IsInReach (Edge succ) from knot × IsRecurrent knot
    recurrent_by zero node way few = ⊎_elim
        (λ found. absurd (omega (arith, few, fewer_after node found.0 way found.2)))
        (λ none. (node, way, comes_back node way none))
        (search_list (one_way node) (below n))
    recurrent_by (suc bound) node way few = ⊎_elim
        (λ found. recurrent_by bound found.0 (through from node found.0 way ((reaches_decides node found.0).0 (and_left (reaches node found.0) (not (reaches found.0 node)) found.2))) (omega (arith, few, fewer_after node found.0 way found.2)))
        (λ none. (node, way, comes_back node way none))
        (search_list (one_way node) (below n))

  -- closed walks from a recurrent node
  module _ (knot : ℕ) (recurrent : IsRecurrent knot) where
    abbrev Has : List ℕ → ℕ → ℕ → Type 0
    Has loop = Follows (loop ++ knot ∷ [])

    has_second : (one two : List ℕ) (a b : ℕ) → Has two a b → Has (one ++ two) a b
    has_second one two a b has = subst (λ xs. Follows xs a b) (sym (append_assoc one two (knot ∷ []))) (follows_right one (two ++ knot ∷ []) a b has)

    has_first : (one two : List ℕ) (a b : ℕ) → Walk (Edge succ) knot two knot → Has one a b → Has (one ++ two) a b
    has_first one two a b walk has =
        let start = begins_with knot two knot walk in
        let same : (one ++ two) ++ knot ∷ [] ≡ (one ++ knot ∷ []) ++ start.0 = append_assoc one two (knot ∷ []) ∙ ap (λ xs. one ++ xs) start.1 ∙ sym (append_assoc one (knot ∷ []) start.0) in
        subst (λ xs. Follows xs a b) (sym same) (follows_left (one ++ knot ∷ []) start.0 a b has)

    -- a closed walk through one edge
    through_edge : (node after : ℕ) → IsInReach (Edge succ) knot node → Edge succ node after → (loop : List ℕ) × Walk (Edge succ) knot loop knot × Has loop node after
    through_edge node after on edge =
        let back = recurrent after (through knot node after on (one_step node after edge)) in
        let start = begins_with after back.0 knot back.1 in (
          on.0 ++ node ∷ back.0,
          join knot on.0 node (node ∷ back.0) knot on.1 (leave node after knot back.0 edge back.1),
          record { before = on.0; rest = start.0; split = append_assoc on.0 (node ∷ back.0) (knot ∷ []) ∙ ap (λ xs. on.0 ++ node ∷ xs) start.1 },
        )

    through_edges : (node : ℕ) → IsInReach (Edge succ) knot node → (afters : List ℕ) → ((after : ℕ) → Contains afters after → Edge succ node after) → (loop : List ℕ) × Walk (Edge succ) knot loop knot × ((after : ℕ) → Contains afters after → Has loop node after)
    through_edges node on [] edges = ([], stay knot, λ after has. absurd (Contains-none after has))
    through_edges node on (first ∷ afters) edges =
        let one = through_edge node first on (edges first (Contains-here first afters)) in
        let two = through_edges node on afters (λ after has. edges after (Contains-later after first afters has)) in (
          one.0 ++ two.0,
          join knot one.0 knot two.0 knot one.1 two.1,
          λ after has. ⊎_elim
              (λ is. subst (λ b. Has (one.0 ++ two.0) node b) is (has_first one.0 two.0 node first two.1 one.2))
              (λ later. has_second one.0 two.0 node after (two.2 after later))
              (Contains-cases after first afters has),
        )

    through_nodes : (nodes : List ℕ) → (loop : List ℕ) × Walk (Edge succ) knot loop knot × ((node after : ℕ) → Contains nodes node → IsInReach (Edge succ) knot node → Edge succ node after → Has loop node after)
    through_nodes [] = ([], stay knot, λ node after has on edge. absurd (Contains-none node has))
    through_nodes (first ∷ nodes) = go (through_nodes nodes) (decided (reaches knot first) (reaches_decides knot first))
      where
        go : (loop : List ℕ) × Walk (Edge succ) knot loop knot × ((node after : ℕ) → Contains nodes node → IsInReach (Edge succ) knot node → Edge succ node after → Has loop node after) →
            IsInReach (Edge succ) knot first ⊎ (¬ IsInReach (Edge succ) knot first) →
            (loop : List ℕ) × Walk (Edge succ) knot loop knot × ((node after : ℕ) → Contains (first ∷ nodes) node → IsInReach (Edge succ) knot node → Edge succ node after → Has loop node after)
        go two (inr never) = (
          two.0,
          two.1,
          λ node after has on edge. ⊎_elim
              (λ is. absurd (never (subst (λ m. IsInReach (Edge succ) knot m) (sym is) on)))
              (λ later. two.2 node after later on edge)
              (Contains-cases node first nodes has),
        )
        go two (inl way) =
            let one = through_edges first way (succ first) (λ after has. has) in (
              one.0 ++ two.0,
              join knot one.0 knot two.0 knot one.1 two.1,
              λ node after has on edge. ⊎_elim
                  (λ is. subst (λ m. Has (one.0 ++ two.0) m after) is (has_first one.0 two.0 first after two.1 (one.2 after (subst (λ m. Edge succ m after) (sym is) edge))))
                  (λ later. has_second one.0 two.0 node after (two.2 node after later on edge))
                  (Contains-cases node first nodes has),
            )

  -- a tour, over a function
  pub record Tour (knot : ℕ) (loop : List ℕ) : Type 0 where
    pub closes : Walk (Edge succ) knot loop knot
    pub moves : 0 < length loop
    pub full : (node after : ℕ) → Contains loop node → Edge succ node after → Follows (loop ++ knot ∷ []) node after

  pub tour_from : (from : ℕ) → ((node : ℕ) → IsInReach (Edge succ) from node → (after : ℕ) × Edge succ node after) → (knot : ℕ) × (loop : List ℕ) × IsInReach (Edge succ) from knot × Tour knot loop
  tour_from from goes_on =
      let found = recurrent_by from goes_on (number_passing (reaches from) (below n)) from ([], stay from) (omega arith) in
      let walk = through_nodes found.0 found.2 (below n) in
      let next = goes_on found.0 found.1 in (
        found.0,
        walk.0,
        found.1,
        record {
          closes = walk.1;
          moves = some_step walk.0 found.0 found.0 next.0 (walk.2 found.0 next.0 (below_has n found.0 (within found.0 next.0 next.1)) ([], stay found.0) next.1);
          full = λ node after has edge. walk.2 node after (below_has n node (within node after edge)) (passes found.0 walk.0 found.0 walk.1 node has).0 edge;
        },
      )

pub edge_within : (xs : List (List ℕ)) (node after : ℕ) → Contains (get_or xs node []) after → node < length xs
edge_within [] node after has = absurd (Contains-none after has)
edge_within (x ∷ xs) zero after has = omega arith
edge_within (x ∷ xs) (suc node) after has = let less = edge_within xs node after has in omega (arith, less)

pub tours_exist_lem : ToursExist
tours_exist_lem graph from goes_on =
    let found = tour_from (λ node. get_or graph node []) (length graph) (edge_within graph) from goes_on in
    let tour = found.3 in
    (found.0, found.1, found.2, record { closes = tour.closes; moves = tour.moves; full = tour.full })
