-- The numbers that a query visits in a tree over literals.
use Rattle.std.specs.Prelude.{◌≡◌, ◌≤◌, ◌⊎◌, ◌&&◌, ◌++◌, ℕ, List, [], Bool, true, Option, Some, None, map, Contains, slice_get, slice_index_or, nat_le, nat_lt, if◌then◌else◌}
use Rattle.std.specs.List.{concat, filter}
use Rattle.fond_state.specs.Cubes.{literal_at}
use Rattle.fond_match.specs.declared.node.Literal.{Literal}
use Rattle.fond_match.specs.declared.node.Node.{Node}
use Rattle.fond_match.specs.declared.node.Node.TheOpen.{Node-F}
use Rattle.fond_match.specs.declared.node.Node.TheFolds.{fold-Node}

-- whether a query with these literals has the literal of a node, if the node has one
abbrev pub enters : (ℕ → Bool → Bool) → Option Literal → Bool
enters has None = true
enters has (Some literal) = has literal.atom literal.sign

-- the numbers behind a literal, if the query has it, or else none
abbrev pub entered : (ℕ → Bool → Bool) → Option Literal → List ℕ → List ℕ
entered has literal numbers = if enters has literal then numbers else []

-- one node, with what is visited in its branches
abbrev pub visits_step : (ℕ → Bool → Bool) → Node-F (List ℕ) → List ℕ
visits_step has node = entered has node.literal (filter (λ number. nat_le node.least number) (node.numbers.items ++ concat node.branches.items))

-- the numbers that a query visits in a node: none if it lacks the literal of the node, or else those of the node and those
-- that it visits in the branches, except any below the least number of the node
abbrev pub visits : (ℕ → Bool → Bool) → Node → List ℕ
visits has = fold-Node (List ℕ) (visits_step has)

-- the numbers that a query visits in some nodes
abbrev pub visits_of_all : (ℕ → Bool → Bool) → List Node → List ℕ
visits_of_all has nodes = concat (map (visits has) nodes)

-- the cube of a number
abbrev pub cube_at : List (List (Option Bool)) → ℕ → List (Option Bool)
cube_at cubes number = slice_index_or cubes number []

-- a number if it is below the best one and its cube passes the test, or else the best one
abbrev pub better : (List (Option Bool) → Bool) → List (List (Option Bool)) → ℕ → ℕ → ℕ
better lies cubes best number = if nat_lt number best && lies (cube_at cubes number) then number else best

-- a query with these literals has each literal of a cube
abbrev pub HasEach : (ℕ → Bool → Bool) → List (Option Bool) → Type 0
HasEach has cube = (atom : ℕ) (sign : Bool) → literal_at cube atom ≡ Some sign → has atom sign ≡ true

-- for each query, the numbers after are among those before, and leave out none of a cube of which the query has each literal
pub record Keeps (cubes : List (List (Option Bool))) (before after : (ℕ → Bool → Bool) → List ℕ) : Type 0 where
  pub complete : (has : ℕ → Bool → Bool) (number : ℕ) (cube : List (Option Bool)) → slice_get cubes number ≡ Some cube → HasEach has cube → Contains (before has) number → Contains (after has) number
  pub within : (has : ℕ → Bool → Bool) (number : ℕ) → Contains (after has) number → Contains (before has) number

-- a number that was found is the best one before or one whose cube passes the test, and is no greater than the best one
-- or any visited number whose cube passes
pub record IsLeast (lies : List (Option Bool) → Bool) (cubes : List (List (Option Bool))) (best : ℕ) (visited : List ℕ) (found : ℕ) : Type 0 where
  pub small : found ≤ best
  pub from : (found ≡ best) ⊎ (lies (cube_at cubes found) ≡ true)
  pub least : (number : ℕ) → Contains visited number → lies (cube_at cubes number) ≡ true → found ≤ number
