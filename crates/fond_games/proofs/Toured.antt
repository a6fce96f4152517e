-- A tour of a graph of kept edges is the closed walk of a lasso.
use Rattle.std.proofs.Common.{inl, inr, ⊎_elim, ◌≡◌, ℕ, ◌<◌, List, [], ◌∷◌, ◌++◌, Some, length, map, get_or, refl, sym, ap, ◌∙◌, subst, arith}
use Rattle.std.specs.Prelude.{◌⊎◌, Contains, slice_get}
use Rattle.std.proofs.lemmas.List.{length-map}
use Rattle.std.proofs.lemmas.Option.{slice_get_within, slice_get-get_or, get_or_from_slice_get}
use Rattle.fond_state.specs.Games.{Game, Policy, Reach}
use Rattle.fond_games.specs.Walks.{Walk, stay, leave, Follows}
use Rattle.fond_games.specs.Lassos.{Step, Lasso}
use Rattle.fond_games.specs.Finite.{game_of}
use Rattle.fond_games.specs.Graphs.{IsEdge, HasEdge, IsTour, IsTourFrom}
use Rattle.fond_games.specs.Keeping.{IsKept}
use Rattle.fond_games.specs.Laws.{KeptGraphsGoOn, KeptToursAreLassos}
use Rattle.fond_games.proofs.Lists.{Contains-none, Contains-here, Contains-later, Contains-cases, Contains-either}
use Rattle.fond_games.proofs.Walking.{passes, turned, walk_to, walk_map, follows_map, map_joined}
use Rattle.fond_games.proofs.Tours.{edge_within}
use Rattle.fond_games.proofs.Trapped.{same_default, Contains-from_map}

same_map : {T : Type 0} (f g : ℕ → T) (xs : List ℕ) → ((x : ℕ) → Contains xs x → f x ≡ g x) → map f xs ≡ map g xs
same_map f g [] same = refl
same_map f g (x ∷ xs) same = ap (λ y. y ∷ map f xs) (same x (Contains-here x xs)) ∙ ap (λ ys. g x ∷ ys) (same_map f g xs (λ y has. same y (Contains-later y x xs has)))

-- each node of a tour has a successor
pub tour_edge : (graph : List (List ℕ)) (knot : ℕ) (loop : List ℕ) → IsTour graph knot loop → (node : ℕ) → Contains loop node → HasEdge graph node
tour_edge graph knot loop tour node has = let out = (passes knot loop knot tour.closes node has).1 in (out.0, out.1)

pub knot_edge : (graph : List (List ℕ)) (knot : ℕ) (loop : List ℕ) → IsTour graph knot loop → HasEdge graph knot
knot_edge graph knot loop tour = tour_edge graph knot loop tour knot (turned knot loop knot tour.closes tour.moves)

-- in a graph of kept edges each node in reach of a node with a successor has one
goes_on_from : {S A : Type 0} (game : Game S A) (policy : Policy S A) (states : List S) (graph : List (List ℕ)) → IsKept game policy states graph → (node : ℕ) (nodes : List ℕ) (last : ℕ) → Walk (IsEdge graph) node nodes last → HasEdge graph node → HasEdge graph last
goes_on_from game policy states graph kept node nodes last (stay s) edge = edge
goes_on_from game policy states graph kept node nodes last (leave s t u rest step walk) edge = goes_on_from game policy states graph kept t rest u walk (kept.goes_on s t step)

module _ {S A : Type 0} (game : Game S A) (policy : Policy S A) (states : List S) (graph : List (List ℕ)) (kept : IsKept game policy states graph) (first : S) where
  abbrev state_at : ℕ → S
  state_at node = get_or states node first

  at : (node : ℕ) → node < length states → slice_get states node ≡ Some (state_at node)
  at node less = slice_get-get_or states node first less

  edge_step : (node after : ℕ) → IsEdge graph node after → (node < length states) × (after < length states) × Step game policy (state_at node) (state_at after)
  edge_step node after edge =
      let in_graph = edge_within graph node after edge in
      let within : node < length states = omega (arith, in_graph, kept.long) in
      let found = kept.steps node after (state_at node) edge (at node within) in
      (within, slice_get_within states after found.0 found.1, subst (λ s. Step game policy (state_at node) s) (sym (get_or_from_slice_get states after found.0 first found.1)) found.2)

  module _ (from : ℕ) (nodes : List ℕ) (tour : IsTourFrom graph from nodes) where
    loop_within : (node : ℕ) → Contains tour.loop node → node < length states
    loop_within node has = let edge = tour_edge graph tour.knot tour.loop tour.is_tour node has in (edge_step node edge.0 edge.1).0

    knot_within : tour.knot < length states
    knot_within = loop_within tour.knot (turned tour.knot tour.loop tour.knot tour.is_tour.closes tour.is_tour.moves)

    lasso_of_tour : (stem : List S) → Walk (Step game policy) game.first stem (state_at tour.knot) → Lasso game policy
    lasso_of_tour stem comes =
        let knot = tour.knot in
        let loop = tour.loop in
        record {
          stem = stem;
          knot = state_at knot;
          loop = map state_at loop;
          comes = comes;
          closes = walk_map state_at (λ i j edge. (edge_step i j edge).2) knot loop knot tour.is_tour.closes;
          moves = let long = length-map loop state_at in let some = tour.is_tour.moves in omega (arith, long, some);
          fair = λ state choice after has chosen fair next. follow state choice after (Contains-from_map state_at loop state has) chosen fair next;
        }
      where
        follow : (state : S) (choice : A) (after : S) → ((node : ℕ) × Contains tour.loop node × (state_at node ≡ state)) → policy state ≡ Some choice → ¬ game.IsUnfair choice → game.IsNext state choice after →
            Follows (map state_at tour.loop ++ state_at tour.knot ∷ []) state after
        follow state choice after source chosen fair next =
            let node = source.0 in
            let edge = tour_edge graph tour.knot tour.loop tour.is_tour node source.1 in
            let to = kept.fair node edge.0 state choice after edge.1 (at node (loop_within node source.1) ∙ ap Some source.2) chosen fair next in
            let follows = follows_map state_at tour.loop tour.knot node to.0 (tour.is_tour.full node to.0 source.1 to.1) in
            let is_after : state_at to.0 ≡ after = get_or_from_slice_get states to.0 after first to.2 in
            let P : S → Type 0 = λ s. Follows (map state_at tour.loop ++ state_at tour.knot ∷ []) s (state_at to.0) in
            let Q : S → Type 0 = λ s. Follows (map state_at tour.loop ++ state_at tour.knot ∷ []) state s in
            subst Q is_after (subst P source.2 follows)

    numbered : map (slice_get states) nodes ≡ map Some (map state_at tour.loop ++ state_at tour.knot ∷ [])
    numbered =
        let all = tour.loop ++ tour.knot ∷ [] in
        ap (map (slice_get states)) tour.given
        ∙ same_map (slice_get states) (λ node. Some (state_at node)) all (λ node has. at node (inside node (Contains-either node tour.loop (tour.knot ∷ []) has)))
        ∙ twice all
        ∙ ap (map Some) (map_joined state_at tour.loop (tour.knot ∷ []))
      where
        inside : (node : ℕ) → Contains tour.loop node ⊎ Contains (tour.knot ∷ []) node → node < length states
        inside node (inl has) = loop_within node has
        inside node (inr has) = ⊎_elim (λ is. subst (λ n. n < length states) is knot_within) (λ none. absurd (Contains-none node none)) (Contains-cases node tour.knot [] has)

        twice : (xs : List ℕ) → map (λ node. Some (state_at node)) xs ≡ map Some (map state_at xs)
        twice [] = refl
        twice (x ∷ xs) = ap (λ ys. Some (state_at x) ∷ ys) (twice xs)

    -- a tour is the closed walk of a lasso with any stem that comes to its knot
    pub lasso_with : (stem : List S) → Walk (Step game policy) game.first stem (state_at tour.knot) →
        (lasso : Lasso game policy) × (lasso.stem ≡ stem) × (lasso.knot ≡ state_at tour.knot) × (map (slice_get states) nodes ≡ map Some (lasso.loop ++ lasso.knot ∷ []))
    unfolding lasso_of_tour
    lasso_with stem comes = (lasso_of_tour stem comes, refl, refl, numbered)

    pub is_lasso : ((state : S) → Contains states state → Reach game policy state) → (lasso : Lasso game policy) × (map (slice_get states) nodes ≡ map Some (lasso.loop ++ lasso.knot ∷ []))
    is_lasso reached =
        let knot = tour.knot in
        let stem = walk_to game policy (state_at knot) (reached (state_at knot) (knot, knot_within, same_default states knot (state_at knot) first knot_within)) in
        let found = lasso_with stem.0 stem.1 in
        (found.0, found.3)

something_at : {S : Type 0} (states : List S) (at : ℕ) → at < length states → S
something_at [] at less = absurd (omega (arith, less))
something_at (state ∷ states) at less = state

pub kept_graphs_go_on_lem : (S A : Type 0) → KeptGraphsGoOn S A
kept_graphs_go_on_lem S A tests policy states graph from kept edge node way = goes_on_from (game_of tests) policy states graph kept from way.0 node way.1 edge

pub kept_tours_are_lassos_lem : (S A : Type 0) → KeptToursAreLassos S A
kept_tours_are_lassos_lem S A tests policy states graph from nodes kept reached tour =
    let edge = knot_edge graph tour.knot tour.loop tour.is_tour in
    let some = something_at states tour.knot (omega (arith, edge_within graph tour.knot edge.0 edge.1, kept.long)) in
    is_lasso (game_of tests) policy states graph kept some from nodes tour reached
