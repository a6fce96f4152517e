-- Indexes of cubes that grow.
use Rattle.std.specs.Prelude.{◌≡◌, ℕ, ◌+◌, ◌-◌, ◌*◌, ◌^◌, ◌<◌, ◌≤◌, ⊤, List, [], ◌∷◌, Option, Bool, drop, length}
use Rattle.fond_match.specs.declared.index.Index.{Index}
use Rattle.fond_match.specs.declared.matcher.Matcher.{Matcher}
use Rattle.fond_match.specs.Matchers.{IsMatcherOf}

-- how many cubes some blocks have together
abbrev pub covered : List Matcher → ℕ
covered [] = 0
covered (block ∷ blocks) = block.count + covered blocks

-- blocks are of consecutive cubes from the first on, and each has more of them than all those after it together
abbrev pub AreBlocksOf : List (List (Option Bool)) → List Matcher → Type 0
AreBlocksOf cubes [] = ⊤
AreBlocksOf cubes (block ∷ blocks) = IsMatcherOf cubes block × (covered blocks < block.count) × AreBlocksOf (drop block.count cubes) blocks

-- blocks are of the first of this many cubes, and each of them has more cubes than come after it
abbrev pub AreHeavy : ℕ → List Matcher → Type 0
AreHeavy count [] = ⊤
AreHeavy count (block ∷ blocks) = (count < 2 * block.count) × AreHeavy (count - block.count) blocks

-- an index is of these cubes if its blocks are of the first of them, as many as it counts
abbrev pub IsIndexOf : List (List (Option Bool)) → Index → Type 0
IsIndexOf cubes index = (index.count ≡ covered index.blocks.items) × AreBlocksOf cubes index.blocks.items

-- of this many cubes, fewer than 32 are in no block of an index
abbrev pub LeavesFew : ℕ → Index → Type 0
LeavesFew count index = count < covered index.blocks.items + 32

-- an index of this many cubes has at most as many blocks as the binary logarithm of one more than the number of cubes
abbrev pub HasFewBlocks : ℕ → Index → Type 0
HasFewBlocks count index = 2 ^ length index.blocks.items ≤ count + 1
