-- Levels of a flat game: how many lucky steps a node is from a goal, and one more.
use Rattle.std.specs.Prelude.{⊤, ◌≡◌, ℕ, ◌<◌, ◌≤◌, ◌+◌, List, [], ◌∷◌, zero, suc, Bool, true, false, length, slice_index_or}
use Rattle.fond_games.specs.Graphs.{IsEdge, HasEdge}
use Rattle.fond_games.specs.declared.kind.Kind.{Kind}
use Rattle.fond_games.specs.declared.kind.Kind.TheVariants.{Goal, Fair, Unfair}

-- the kind of a node: a goal past the end
abbrev pub kind_at : List Kind → ℕ → Kind
kind_at kinds node = slice_index_or kinds node Goal

-- the level of a node: 0 if the table has none for it
abbrev pub level_at : List ℕ → ℕ → ℕ
level_at table node = slice_index_or table node 0

-- a node has a level below this one
abbrev pub IsBelow : List ℕ → ℕ → ℕ → Type 0
IsBelow table level node = (0 < level_at table node) × (level_at table node < level)

-- a node that is no goal falls below a level: by some edge if chance picks, by each of its edges, of which there is at least
-- one, if an opponent does
abbrev pub Falls : Kind → List (List ℕ) → List ℕ → ℕ → ℕ → Type 0
Falls Goal graph table level node = ¬ ⊤
Falls Fair graph table level node = (after : ℕ) × IsEdge graph node after × IsBelow table level after
Falls Unfair graph table level node = HasEdge graph node × ((after : ℕ) → IsEdge graph node after → IsBelow table level after)

-- a table has the levels up to this one: those of goals are 1, and that of another node is the least one below which it falls
pub record AreLevelsTo (kinds : List Kind) (graph : List (List ℕ)) (most : ℕ) (table : List ℕ) : Type 0 where
  pub long : length table ≡ length graph
  pub low : (node : ℕ) → level_at table node ≤ most
  pub goals : (node : ℕ) → node < length graph → kind_at kinds node ≡ Goal → level_at table node ≡ 1
  pub ones : (node : ℕ) → level_at table node ≡ 1 → kind_at kinds node ≡ Goal
  pub falls : (node : ℕ) → 1 < level_at table node → Falls (kind_at kinds node) graph table (level_at table node) node
  pub least : (node level : ℕ) → level ≤ most → Falls (kind_at kinds node) graph table level node → IsBelow table (level + 1) node

-- a table has the level of each node that has one: those of goals are 1, and that of another node is the least one below which it falls
pub record AreLevels (kinds : List Kind) (graph : List (List ℕ)) (table : List ℕ) : Type 0 where
  pub long : length table ≡ length graph
  pub goals : (node : ℕ) → node < length graph → kind_at kinds node ≡ Goal → level_at table node ≡ 1
  pub ones : (node : ℕ) → level_at table node ≡ 1 → kind_at kinds node ≡ Goal
  pub falls : (node : ℕ) → 1 < level_at table node → Falls (kind_at kinds node) graph table (level_at table node) node
  pub least : (node level : ℕ) → Falls (kind_at kinds node) graph table level node → IsBelow table (level + 1) node

-- the level of a node of this kind before any round
abbrev pub first_level : Kind → ℕ
first_level Goal = 1
first_level Fair = 0
first_level Unfair = 0

-- how many nodes of a table have no level
abbrev pub zeros : List ℕ → ℕ
zeros [] = zero
zeros (zero ∷ table) = suc (zeros table)
zeros (suc level ∷ table) = zeros table

-- a round gives this level to nodes alone that had none and fall below it, and to all of them before this one; it is told whether
-- there was one
pub record IsRound (kinds : List Kind) (graph : List (List ℕ)) (level : ℕ) (first table : List ℕ) (is_raised : Bool) (node : ℕ) : Type 0 where
  pub long : length table ≡ length first
  pub kept : (other : ℕ) → 0 < level_at first other → level_at table other ≡ level_at first other
  pub raised : (other : ℕ) → level_at first other ≡ 0 → 0 < level_at table other → (level_at table other ≡ level) × Falls (kind_at kinds other) graph first level other
  pub done : (other : ℕ) → other < node → level_at first other ≡ 0 → Falls (kind_at kinds other) graph first level other → level_at table other ≡ level
  pub left : zeros table ≤ zeros first
  pub fewer : is_raised ≡ true → zeros table < zeros first
  pub same : is_raised ≡ false → table ≡ first
