-- The laws of lassos and rankings.
use Rattle.std.specs.Prelude.{◌≡◌, ◌⊎◌, ℕ, List, [], ◌∷◌, ◌++◌, Some, Contains, map, slice_get}
use Rattle.fond_state.specs.Games.{Policy, Reach, IsSolution}
use Rattle.fond_games.specs.Walks.{IsInReach}
use Rattle.fond_games.specs.Lassos.{Lasso, Stuck, AlwaysLeads, NoneUnfair, AllUnfair, ActsEverywhere, GoalsInReach, WalksBounded}
use Rattle.fond_games.specs.Rankings.{IsRanking, IsLeastRanking}
use Rattle.fond_games.specs.Finite.{Tests, game_of, ReachesOnly}
use Rattle.fond_games.specs.Graphs.{IsEdge, HasEdge, AlwaysGoesOn, IsTour, IsTourFrom}
use Rattle.fond_games.specs.Keeping.{IsKept}

-- a policy that is stuck, or has a lasso, is no solution
abbrev pub LassosRefute : Type 0 → Type 0 → Type 0
LassosRefute S A = (tests : Tests S A) (policy : Policy S A) → Stuck (game_of tests) policy ⊎ Lasso (game_of tests) policy → ¬ IsSolution (game_of tests) policy

-- where each applicable action may lead to some state, a policy that reaches finitely many states and is no solution is stuck or has a
-- lasso
abbrev pub LassosAreFound : Type 0 → Type 0 → Type 0
LassosAreFound S A = (tests : Tests S A) (policy : Policy S A) (states : List S) → AlwaysLeads (game_of tests) → ReachesOnly (game_of tests) policy states → ¬ IsSolution (game_of tests) policy → Stuck (game_of tests) policy ⊎ Lasso (game_of tests) policy

-- where no applicable action is unfair, a policy that reaches finitely many states is a solution if and only if it acts everywhere and
-- goals stay in reach
abbrev pub FairSolutions : Type 0 → Type 0 → Type 0
FairSolutions S A = (tests : Tests S A) (policy : Policy S A) (states : List S) → NoneUnfair (game_of tests) → ReachesOnly (game_of tests) policy states →
    (IsSolution (game_of tests) policy → ActsEverywhere (game_of tests) policy × GoalsInReach (game_of tests) policy) × (ActsEverywhere (game_of tests) policy × GoalsInReach (game_of tests) policy → IsSolution (game_of tests) policy)

-- where every applicable action is unfair, a policy that reaches finitely many states is a solution if and only if it acts everywhere
-- and its walks are bounded
abbrev pub UnfairSolutions : Type 0 → Type 0 → Type 0
UnfairSolutions S A = (tests : Tests S A) (policy : Policy S A) (states : List S) → AllUnfair (game_of tests) → ReachesOnly (game_of tests) policy states →
    (IsSolution (game_of tests) policy → ActsEverywhere (game_of tests) policy × WalksBounded (game_of tests) policy) × (ActsEverywhere (game_of tests) policy × WalksBounded (game_of tests) policy → IsSolution (game_of tests) policy)

-- of policies that act everywhere and reach finitely many states, one that has a ranking is a solution, and a solution has a least one
abbrev pub RankingsDecide : Type 0 → Type 0 → Type 0
RankingsDecide S A = (tests : Tests S A) (policy : Policy S A) (states : List S) → ReachesOnly (game_of tests) policy states → ActsEverywhere (game_of tests) policy →
    (((rank : S → ℕ) × IsRanking (game_of tests) policy rank) → IsSolution (game_of tests) policy) × (IsSolution (game_of tests) policy → (rank : S → ℕ) × IsLeastRanking (game_of tests) policy rank)

-- in a flat graph in which each node in reach has a successor, a node in reach has a tour
abbrev pub ToursExist : Type 0
ToursExist = (graph : List (List ℕ)) (from : ℕ) → AlwaysGoesOn graph from → (knot : ℕ) × (loop : List ℕ) × IsInReach (IsEdge graph) from knot × IsTour graph knot loop

-- in a graph of kept edges each node in reach of a node with a successor has one
abbrev pub KeptGraphsGoOn : Type 0 → Type 0 → Type 0
KeptGraphsGoOn S A = (tests : Tests S A) (policy : Policy S A) (states : List S) (graph : List (List ℕ)) (from : ℕ) → IsKept (game_of tests) policy states graph → HasEdge graph from → AlwaysGoesOn graph from

-- a tour of a graph of kept edges, over reached states, is the closed walk of a lasso, number by number
abbrev pub KeptToursAreLassos : Type 0 → Type 0 → Type 0
KeptToursAreLassos S A = (tests : Tests S A) (policy : Policy S A) (states : List S) (graph : List (List ℕ)) (from : ℕ) (nodes : List ℕ) → IsKept (game_of tests) policy states graph
    → ((state : S) → Contains states state → Reach (game_of tests) policy state) → IsTourFrom graph from nodes
    → (lasso : Lasso (game_of tests) policy) × (map (slice_get states) nodes ≡ map Some (lasso.loop ++ lasso.knot ∷ []))
