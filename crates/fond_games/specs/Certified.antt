-- What a test of a table of levels looks at: a node and its successors.
use Rattle.std.specs.Prelude.{◌≡◌, ◌⊎◌, ℕ, ◌<◌, ◌≤◌, ◌+◌, List, Contains}
use Rattle.fond_games.specs.declared.kind.Kind.{Kind}
use Rattle.fond_games.specs.declared.kind.Kind.TheVariants.{Goal}
use Rattle.fond_games.specs.Levels.{level_at, IsBelow, Falls}

-- the lesser of two levels, where 0 is none
pub record IsLesser (one two lesser : ℕ) : Type 0 where
  pub first : one ≡ 0 → lesser ≡ two
  pub second : two ≡ 0 → lesser ≡ one
  pub low_first : 0 < one → lesser ≤ one
  pub low_second : 0 < two → lesser ≤ two
  pub either : (lesser ≡ one) ⊎ (lesser ≡ two)
  pub some : 0 < one → 0 < lesser

-- a node has a level, and it is this one
abbrev pub HasLevel : List ℕ → List ℕ → ℕ → Type 0
HasLevel nodes table level = (node : ℕ) × Contains nodes node × (level_at table node ≡ level)

-- the least level of some nodes, 0 if none of them has one
pub record IsLeast (nodes table : List ℕ) (bound : ℕ) : Type 0 where
  pub found : 0 < bound → HasLevel nodes table bound
  pub least : (node : ℕ) → Contains nodes node → 0 < level_at table node → (0 < bound) × (bound ≤ level_at table node)

-- the greatest level of some nodes, of which each has one; 0 if there are none
pub record IsHighest (nodes table : List ℕ) (bound : ℕ) : Type 0 where
  pub found : 0 < bound → HasLevel nodes table bound
  pub each : (node : ℕ) → Contains nodes node → IsBelow table (bound + 1) node

-- the greatest level of some nodes, or 0 if one of them has none
abbrev pub IsGreatest : List ℕ → List ℕ → ℕ → Type 0
IsGreatest nodes table bound = IsHighest nodes table bound ⊎ ((bound ≡ 0) × HasLevel nodes table 0)

-- a level is one more than a bound, or both are 0
abbrev pub IsAbove : ℕ → ℕ → Type 0
IsAbove level bound = ((bound ≡ 0) × (level ≡ 0)) ⊎ ((0 < bound) × (level ≡ bound + 1))

-- a node of this kind has the right level, given those of its successors
pub record IsRightAt (kind : Kind) (graph : List (List ℕ)) (table : List ℕ) (node : ℕ) : Type 0 where
  pub goal : kind ≡ Goal → level_at table node ≡ 1
  pub one : level_at table node ≡ 1 → kind ≡ Goal
  pub falls : 1 < level_at table node → Falls kind graph table (level_at table node) node
  pub least : (level : ℕ) → Falls kind graph table level node → IsBelow table (level + 1) node
