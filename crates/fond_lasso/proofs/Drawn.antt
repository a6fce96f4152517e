-- Flat games that tell of a policy: what their levels, their stems and their cycles say of it.
use Rattle.std.proofs.Common.{inl, inr, ⊎_elim, ◌≡◌, ℕ, zero, suc, ◌+◌, ◌-◌, ◌<◌, ◌≤◌, List, [], ◌∷◌, ◌++◌, Some, length, map, get_or, slice_get, sym, ap, ◌∙◌, subst, arith}
use Rattle.std.specs.Prelude.{◌⊎◌, Contains}
use Rattle.std.specs.List.{AllZip}
use Rattle.std.proofs.lemmas.Bool.{cases_lt}
use Rattle.std.proofs.lemmas.Option.{same_Some, slice_get_within, slice_get-get_or, get_or_from_slice_get}
use Rattle.fond_text.specs.Lists.{AreDistinct}
use Rattle.fond_state.specs.Games.{Game, Policy, Reach, start, onward, IsSolution}
use Rattle.fond_games.specs.Walks.{Walk, stay, leave, IsInReach}
use Rattle.fond_games.specs.Lassos.{Step, Acts, ActsEverywhere}
use Rattle.fond_games.specs.Rankings.{IsNearer, IsRanking, IsLeastRanking}
use Rattle.fond_games.specs.Graphs.{IsEdge}
use Rattle.fond_games.specs.declared.kind.Kind.{Kind}
use Rattle.fond_games.specs.declared.kind.Kind.TheVariants.{Goal, Fair, Unfair}
use Rattle.fond_games.specs.Levels.{kind_at, level_at, IsBelow, Falls, AreLevels}
use Rattle.fond_games.specs.Keeping.{IsKept, KeepsEdges, MovesOn}
use Rattle.fond_games.specs.Findings.{Tell, ShowsStuck, ShowsLasso, TellsRank}
use Rattle.fond_games.proofs.Refuting.{refutes, ranked_free}
use Rattle.fond_games.proofs.Tours.{edge_within}
use Rattle.fond_games.proofs.Toured.{knot_edge, lasso_with}
use Rattle.fond_games.proofs.Walking.{through, one_step, step_of, walk_map}
use Rattle.fond_task.proofs.Lists.{Contains_numbered, number_of}
use Rattle.fond_lasso.specs.Judged.{IsRooted, IsStem, AreAllLevelled, IsHeld}
use Rattle.fond_lasso.proofs.Numbers.{one_number, zip_from}

module _ {S A : Type 0} (game : Game S A) (policy : Policy S A) (states : List S) where
  -- states are those that a policy reaches, the first one first
  pub record AreStates : Type 0 where
    pub first : slice_get states 0 ≡ Some game.first
    pub once : AreDistinct states
    pub reached : (state : S) → Contains states state → Reach game policy state
    pub all : (state : S) → Reach game policy state → Contains states state

  -- edges lead from each state to those that come next
  pub record AreEdges (graph : List (List ℕ)) : Type 0 where
    pub long : length graph ≡ length states
    pub steps : (node after : ℕ) (state : S) → IsEdge graph node after → slice_get states node ≡ Some state → (other : S) × (slice_get states after ≡ Some other) × Step game policy state other
    pub edges : (node : ℕ) (state other : S) → slice_get states node ≡ Some state → Step game policy state other → (after : ℕ) × IsEdge graph node after × (slice_get states after ≡ Some other)

  -- kinds tell goals, and who picks the outcome of each choice
  pub record AreKinds (kinds : List Kind) : Type 0 where
    pub long : length kinds ≡ length states
    pub goal : (node : ℕ) (state : S) → slice_get states node ≡ Some state → kind_at kinds node ≡ Goal → game.IsGoal state
    pub goals : (node : ℕ) (state : S) → slice_get states node ≡ Some state → game.IsGoal state → kind_at kinds node ≡ Goal
    pub fair : (node : ℕ) (state : S) (choice : A) → slice_get states node ≡ Some state → ¬ game.IsGoal state → policy state ≡ Some choice → ¬ game.IsUnfair choice → kind_at kinds node ≡ Fair
    pub unfair : (node : ℕ) (state : S) (choice : A) → slice_get states node ≡ Some state → ¬ game.IsGoal state → policy state ≡ Some choice → game.IsUnfair choice → kind_at kinds node ≡ Unfair

  module _ (listed : AreStates) (graph : List (List ℕ)) (drawn : AreEdges graph) where
    abbrev state_at : ℕ → S
    state_at node = get_or states node game.first

    at : (node : ℕ) → node < length states → slice_get states node ≡ Some (state_at node)
    at node less = slice_get-get_or states node game.first less

    begins : state_at 0 ≡ game.first
    begins = get_or_from_slice_get states 0 game.first game.first listed.first

    -- an edge is a step
    edge_step : (node after : ℕ) → IsEdge graph node after → (node < length states) × (after < length states) × Step game policy (state_at node) (state_at after)
    edge_step node after edge =
        let within : node < length states = omega (arith, edge_within graph node after edge, drawn.long) in
        let next = drawn.steps node after (state_at node) edge (at node within) in
        (within, slice_get_within states after next.0 next.1, subst (λ s. Step game policy (state_at node) s) (sym (get_or_from_slice_get states after next.0 game.first next.1)) next.2)

    -- each node is in reach of the first
    in_reach : (state : S) → Reach game policy state → (node : ℕ) → slice_get states node ≡ Some state → IsInReach (IsEdge graph) 0 node
    in_reach state start node is = subst (λ n. IsInReach (IsEdge graph) 0 n) (one_number states listed.once 0 node game.first listed.first is) ([], stay 0)
    in_reach state (onward before choice after reached open_ chosen next) node is =
        let from = number_of states before (listed.all before reached) in
        let edge = drawn.edges from.0 before after from.1 (step_of game policy before choice after open_ chosen next) in
        let same : edge.0 ≡ node = one_number states listed.once edge.0 node after edge.2 is in
        let way = in_reach before reached from.0 from.1 in
        subst (λ n. IsInReach (IsEdge graph) 0 n) same (through 0 from.0 edge.0 way (one_step from.0 edge.0 edge.1))

    pub rooted : IsRooted graph
    rooted = record {
      ends = λ node after edge. let step = edge_step node after edge in omega (arith, step.1, drawn.long);
      reaches = λ node within.
          let is = at node (omega (arith, within, drawn.long)) in
          in_reach (state_at node) (listed.reached (state_at node) (Contains_numbered states node (state_at node) is)) node is;
    }

    -- a walk tells of the states that it leaves, and of its end
    shows : (node : ℕ) (walk : List ℕ) (last : ℕ) → Walk (IsEdge graph) node walk last → last < length states → Tell states (walk ++ last ∷ []) (map state_at walk ++ state_at last ∷ [])
    shows node walk last (stay s) within = ap (λ o. o ∷ []) (at s within)
    shows node walk last (leave s t u rest step more) within = ap (λ o. o ∷ map (slice_get states) (rest ++ u ∷ [])) (at s (edge_step s t step).0) ∙ ap (λ os. Some (state_at s) ∷ os) (shows t rest u more within)

    -- a stem is a walk by the choices of the policy
    comes : (target : ℕ) (walk : List ℕ) → Walk (IsEdge graph) 0 walk target → Walk (Step game policy) game.first (map state_at walk) (state_at target)
    comes target walk way = subst (λ s. Walk (Step game policy) s (map state_at walk) (state_at target)) begins (walk_map state_at (λ i j edge. (edge_step i j edge).2) 0 walk target way)

    -- a dead end refutes, and a stem shows it
    pub stuck : (node : ℕ) (state : S) (stem : List ℕ) → slice_get states node ≡ Some state → ¬ game.IsGoal state → ¬ Acts game policy state → IsStem graph node stem → (¬ IsSolution game policy) × ShowsStuck game policy states stem
    stuck node state stem is open_ none stemmed =
        let within = slice_get_within states node state is in
        let same : state_at node ≡ state = get_or_from_slice_get states node state game.first is in
        let reached = listed.reached state (Contains_numbered states node state is) in
        let told : Tell states stem (map state_at stemmed.0 ++ state_at node ∷ []) = ap (map (slice_get states)) stemmed.1 ∙ shows 0 stemmed.0 node stemmed.2 within in
        let way = comes node stemmed.0 stemmed.2 in (
          refutes game policy (inl (record { state = state; reached = reached; open_ = open_; none = none })),
          record {
            walked = map state_at stemmed.0;
            last = state;
            comes = subst (λ s. Walk (Step game policy) game.first (map state_at stemmed.0) s) same way;
            open_ = open_;
            none = none;
            told = subst (λ s. Tell states stem (map state_at stemmed.0 ++ s ∷ [])) same told;
          },
        )

    module _ (kinds : List Kind) (known : AreKinds kinds) where
      -- an edge leads out of each node whose state is no goal, if a choice may lead somewhere in each of them
      pub moves_on : ((state : S) → Reach game policy state → ¬ game.IsGoal state → (other : S) × Step game policy state other) → MovesOn kinds graph
      moves_on onwards node within no_goal =
          let is = at node (omega (arith, within, drawn.long)) in
          let next = onwards (state_at node) (listed.reached (state_at node) (Contains_numbered states node (state_at node) is)) (λ goal. no_goal (known.goals node (state_at node) is goal)) in
          let edge = drawn.edges node (state_at node) next.0 is next.1 in
          (edge.0, edge.1)

      module _ (table : List ℕ) (levels : AreLevels kinds graph table) where
        within_graph : (node : ℕ) (state : S) → slice_get states node ≡ Some state → node < length graph
        within_graph node state is = let within = slice_get_within states node state is in omega (arith, within, drawn.long)

        goal_level : (node : ℕ) (state : S) → slice_get states node ≡ Some state → game.IsGoal state → level_at table node ≡ 1
        goal_level node state is goal = levels.goals node (within_graph node state is) (known.goals node state is goal)

        -- the edges that are kept are kept of the policy
        pub is_kept : (kept : List (List ℕ)) → KeepsEdges kinds graph table kept → IsKept game policy states kept
        is_kept kept keeps = record {
          long = keeps.long ∙ drawn.long;
          steps = λ node after state edge is. drawn.steps node after state (back node after edge).1 is;
          fair = λ node end state choice other edge is chosen fair next.
              let own = back node end edge in
              let open_ = (drawn.steps node end state own.1 is).2.open_ in
              let found = drawn.edges node state other is (step_of game policy state choice other open_ chosen next) in
              (found.0, (keeps.each node (inside node end edge)).fair found.0 own.0 (known.fair node state choice is open_ chosen fair) found.1, found.2);
          goes_on = λ node after edge.
              let own = back node after edge in
              let step = edge_step node after own.1 in
              let found = (keeps.each after (omega (arith, step.1, drawn.long))).goes_on own.2 in
              (found.0, found.1);
        }
          where
            inside : (node after : ℕ) → IsEdge kept node after → node < length graph
            inside node after edge = omega (arith, edge_within kept node after edge, keeps.long)

            back : (node after : ℕ) → IsEdge kept node after → (level_at table node ≡ 0) × IsEdge graph node after × (level_at table after ≡ 0)
            back node after edge = (keeps.each node (inside node after edge)).edges after edge

        module _ (acts : ActsEverywhere game policy) (picked : (action : A) → game.IsUnfair action ⊎ (¬ game.IsUnfair action)) (decided : (state : S) → game.IsGoal state ⊎ (¬ game.IsGoal state)) (moving : MovesOn kinds graph) where
          falls_as : (kind : Kind) (node level : ℕ) → kind_at kinds node ≡ kind → Falls (kind_at kinds node) graph table level node → Falls kind graph table level node
          falls_as kind node level is falls = subst (λ k. Falls k graph table level node) is falls

          falls_from : (kind : Kind) (node level : ℕ) → kind_at kinds node ≡ kind → Falls kind graph table level node → Falls (kind_at kinds node) graph table level node
          falls_from kind node level is falls = subst (λ k. Falls k graph table level node) (sym is) falls

          -- what a step by a choice leads to
          next_edge : (node : ℕ) (state other : S) (choice : A) → slice_get states node ≡ Some state → ¬ game.IsGoal state → policy state ≡ Some choice → game.IsNext state choice other → (after : ℕ) × IsEdge graph node after × (slice_get states after ≡ Some other)
          next_edge node state other choice is open_ chosen next = drawn.edges node state other is (step_of game policy state choice other open_ chosen next)

          edge_next : (node after : ℕ) (state : S) (choice : A) → slice_get states node ≡ Some state → policy state ≡ Some choice → IsEdge graph node after → (other : S) × (slice_get states after ≡ Some other) × game.IsNext state choice other
          edge_next node after state choice is chosen edge =
              let found = drawn.steps node after state edge is in
              let same : found.2.choice ≡ choice = same_Some found.2.choice choice (sym found.2.chosen ∙ chosen) in
              (found.0, found.1, subst (λ c. game.IsNext state c found.0) same found.2.next)

          -- a ranking of at most n at a state bounds its level
          small : (other : S → ℕ) → IsRanking game policy other → (n node : ℕ) (state : S) → slice_get states node ≡ Some state → ¬ game.IsGoal state → other state ≤ n → IsBelow table (n + 2) node
          small other ranking zero node state is open_ low = let some = ranking.some state (listed.reached state (Contains_numbered states node state is)) open_ in absurd (omega (arith, some, low))
          small other ranking (suc n) node state is open_ low =
              let reached = listed.reached state (Contains_numbered states node state is) in
              let acting = acts state reached open_ in
              let nearer = λ (after : ℕ) (next : S) (there : slice_get states after ≡ Some next) (near : IsNearer game other (other state) next). ⊎_elim
              (λ goal. let one = goal_level after next there goal in let below : IsBelow table (n + 2) after = (omega (arith, one), omega (arith, one)) in below)
              (λ still. ⊎_elim
              (λ goal. absurd (still goal))
              (λ less. small other ranking n after next there still (omega (arith, less, low)))
              near)
              (decided next) in
              ⊎_elim
              (λ unfair.
              let each = λ (after : ℕ) (edge : IsEdge graph node after). let found = edge_next node after state acting.0 is acting.1 edge in nearer after found.0 found.1 (ranking.unfair state acting.0 found.0 reached open_ acting.1 unfair found.2) in
              let some = moving node (within_graph node state is) (λ goal. open_ (known.goal node state is goal)) in
              raised n node (falls_from Unfair node (n + 2) (known.unfair node state acting.0 is open_ acting.1 unfair) (some, each)))
              (λ fair.
              let found = ranking.fair state acting.0 reached open_ acting.1 fair in
              let edge = next_edge node state found.0 acting.0 is open_ acting.1 found.1 in
              raised n node (falls_from Fair node (n + 2) (known.fair node state acting.0 is open_ acting.1 fair) (edge.0, edge.1, nearer edge.0 found.0 edge.2 found.2)))
              (picked acting.0)
            where
              raised : (n node : ℕ) → Falls (kind_at kinds node) graph table (n + 2) node → IsBelow table (suc n + 2) node
              raised n node falls = let below = levels.least node (n + 2) falls in (below.0, omega (arith, below.1))

          module _ (levelled : AreAllLevelled table) (number : S → ℕ) (numbered : (node : ℕ) (state : S) → slice_get states node ≡ Some state → number state ≡ node) where
            -- the rank that a level tells
            abbrev rank : S → ℕ
            rank state = level_at table (number state) - 1

            ranked : (node : ℕ) (state : S) → slice_get states node ≡ Some state → level_at table node ≡ rank state + 1
            ranked node state is =
                let has = levelled node (let within = within_graph node state is in omega (arith, within, levels.long)) in
                let same : level_at table (number state) ≡ level_at table node = ap (level_at table) (numbered node state is) in
                omega (arith, has, same)

            above : (node : ℕ) (state : S) → slice_get states node ≡ Some state → ¬ game.IsGoal state → 1 < level_at table node
            above node state is open_ = ⊎_elim
                (λ more. more)
                (λ low.
                let told = ranked node state is in
                let one : level_at table node ≡ 1 = omega (arith, low, told) in
                absurd (open_ (known.goal node state is (levels.ones node one))))
                (cases_lt 1 (level_at table node))

            nearer : (node after : ℕ) (state other : S) → slice_get states node ≡ Some state → slice_get states after ≡ Some other → IsBelow table (level_at table node) after → IsNearer game rank (rank state) other
            nearer node after state other is there below = let one = ranked node state is in let two = ranked after other there in inr (omega (arith, one, two, below.1))

            ranking : IsRanking game policy rank
            ranking = record {
              some = λ state reached open_.
                  let node = number_of states state (listed.all state reached) in
                  let more = above node.0 state node.1 open_ in
                  let told = ranked node.0 state node.1 in
                  omega (arith, more, told);
              fair = λ state choice reached open_ chosen fair.
                  let node = number_of states state (listed.all state reached) in
                  let falls = falls_as Fair node.0 (level_at table node.0) (known.fair node.0 state choice node.1 open_ chosen fair) (levels.falls node.0 (above node.0 state node.1 open_)) in
                  let found = edge_next node.0 falls.0 state choice node.1 chosen falls.1 in
                  (found.0, found.2, nearer node.0 falls.0 state found.0 node.1 found.1 falls.2);
              unfair = λ state choice after reached open_ chosen unfair next.
                  let node = number_of states state (listed.all state reached) in
                  let falls = falls_as Unfair node.0 (level_at table node.0) (known.unfair node.0 state choice node.1 open_ chosen unfair) (levels.falls node.0 (above node.0 state node.1 open_)) in
                  let edge = next_edge node.0 state after choice node.1 open_ chosen next in
                  nearer node.0 edge.0 state after node.1 edge.2 (falls.1 edge.0 edge.1);
            }

            -- levels less one are the least ranking, and they tell of it
            pub solved : IsSolution game policy × ((rank : S → ℕ) × IsLeastRanking game policy rank × AllZip (TellsRank game rank) states table)
            solved = (
              record { acts = acts; free = ranked_free game policy rank ranking picked },
              (
                rank,
                record {
                  is_ranking = ranking;
                  least = λ other is_one state reached open_.
                      let node = number_of states state (listed.all state reached) in
                      let below = small other is_one (other state) node.0 state node.1 open_ (omega arith) in
                      let told = ranked node.0 state node.1 in
                      omega (arith, below.1, told);
                },
                zip_from (TellsRank game rank) states table (sym (levels.long ∙ drawn.long)) (λ node state level is own.
                    let same : level_at table node ≡ level = get_or_from_slice_get table node level 0 own in
                    ⊎_elim
                    (λ goal. let one = goal_level node state is goal in inl (goal, omega (arith, one, same)))
                    (λ open_. let told = ranked node state is in inr (open_, omega (arith, told, same)))
                    (decided state)),
              ),
            )

      -- a cycle in which a play can be held is that of a lasso
      pub held : (stem cycle : List ℕ) → IsHeld kinds graph stem cycle → (¬ IsSolution game policy) × ShowsLasso game policy states stem cycle
      held stem cycle is =
          let kept = is_kept is.table is.levels is.kept is.keeps in
          let way = comes is.tour.knot is.stemmed.0 is.stemmed.2 in
          let found = lasso_with game policy states is.kept kept game.first is.from cycle is.tour (map state_at is.stemmed.0) way in
          let edge = knot_edge is.kept is.tour.knot is.tour.loop is.tour.is_tour in
          let within : is.tour.knot < length states = omega (arith, edge_within is.kept is.tour.knot edge.0 edge.1, is.keeps.long, drawn.long) in
          let told : Tell states stem (map state_at is.stemmed.0 ++ state_at is.tour.knot ∷ []) = ap (map (slice_get states)) is.stemmed.1 ∙ shows 0 is.stemmed.0 is.tour.knot is.stemmed.2 within in
          let P : List S → Type 0 = λ walked. Tell states stem (walked ++ state_at is.tour.knot ∷ []) in
          let Q : S → Type 0 = λ knot. Tell states stem (found.0.stem ++ knot ∷ []) in (
            refutes game policy (inr found.0),
            record { lasso = found.0; stem_told = subst Q (sym found.2) (subst P (sym found.1) told); cycle_told = found.3 },
          )
