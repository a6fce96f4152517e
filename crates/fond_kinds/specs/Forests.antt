-- Forests among parents. Each number of a forest is a tree's root or keeps its parent; of each cycle one link is left out, and
-- the number that lost its parent is the root of the tree in which that parent is.
use Rattle.std.specs.Prelude.{◌≡◌, ◌⊎◌, ℕ, ◌<◌, Bool, true, false, List, Option, Some, None, length, slice_index, slice_index_or, slice_set}
use Rattle.fond_kinds.specs.Parents.{parent_of, IsBelow, are_within}

-- whether a number is marked
abbrev pub is_marked : List Bool → ℕ → Bool
is_marked marks number = slice_index_or marks number false

-- the parts of a forest, number by number: the parent that is kept, when the number was added, the root of its tree, and some
-- number above it
pub record Forest : Type 0 where
  pub ups : List (Option ℕ)
  pub times : List ℕ
  pub roots : List ℕ
  pub jumps : List ℕ

-- the marked numbers form a forest: each comes later than the parent that it keeps, in whose tree it is, and its jump leads
-- to that parent, or to the jump of that parent's jump
pub record IsForest (parents : List (Option ℕ)) (forest : Forest) (marks : List Bool) : Type 0 where
  pub kept : (number parent : ℕ) → parent_of forest.ups number ≡ Some parent → parent_of parents number ≡ Some parent
  pub marked : (number parent : ℕ) → parent_of forest.ups number ≡ Some parent → is_marked marks number ≡ true
  pub up_marked : (number parent : ℕ) → parent_of forest.ups number ≡ Some parent → is_marked marks parent ≡ true
  pub later : (number parent : ℕ) → parent_of forest.ups number ≡ Some parent → slice_index forest.times parent < slice_index forest.times number
  pub rooted : (number parent : ℕ) → parent_of forest.ups number ≡ Some parent → slice_index forest.roots number ≡ slice_index forest.roots parent
  pub jumps : (number parent : ℕ) → parent_of forest.ups number ≡ Some parent
      → (slice_index forest.jumps number ≡ parent) ⊎ (slice_index forest.jumps number ≡ slice_index forest.jumps (slice_index forest.jumps parent))
  pub jump_marked : (number : ℕ) → is_marked marks number ≡ true → is_marked marks (slice_index forest.jumps number) ≡ true
  pub top : (number : ℕ) → is_marked marks number ≡ true → parent_of forest.ups number ≡ None → slice_index forest.roots number ≡ number
  pub still : (number : ℕ) → is_marked marks number ≡ true → parent_of forest.ups number ≡ None → slice_index forest.jumps number ≡ number
  pub back : (number parent : ℕ) → is_marked marks number ≡ true → parent_of forest.ups number ≡ None → parent_of parents number ≡ Some parent → is_marked marks parent ≡ true
      → slice_index forest.roots parent ≡ number

-- a forest has all numbers
pub record IsWhole (parents : List (Option ℕ)) (forest : Forest) : Type 0 where
  pub marks : List Bool
  pub is : IsForest parents forest marks
  pub all : (number : ℕ) → number < length parents → is_marked marks number ≡ true
  pub within : are_within parents ≡ true
  pub ups : length forest.ups ≡ length parents
  pub times : length forest.times ≡ length parents
  pub roots : length forest.roots ≡ length parents
  pub jumps : length forest.jumps ≡ length parents

-- a forest with one more number, the root of a tree
abbrev pub planted : Forest → ℕ → ℕ → Forest
planted forest number time = record forest {
  times = slice_set forest.times number time;
  roots = slice_set forest.roots number number;
  jumps = slice_set forest.jumps number number;
}

-- a forest with one more number, below its parent
abbrev pub attached : Forest → ℕ → ℕ → ℕ → ℕ → Forest
attached forest number parent time jump = record {
  ups = slice_set forest.ups number (Some parent);
  times = slice_set forest.times number time;
  roots = slice_set forest.roots number (slice_index forest.roots parent);
  jumps = slice_set forest.jumps number jump;
}

-- a step up from a number leads to an earlier one, above which are the same numbers of this time
pub record IsStep (forest : Forest) (at time next : ℕ) : Type 0 where
  pub there : next < length forest.ups
  pub earlier : slice_index forest.times next < slice_index forest.times at
  pub on : (above : ℕ) → slice_index forest.times above ≡ time → IsBelow forest.ups at above → IsBelow forest.ups next above
  pub back : (above : ℕ) → IsBelow forest.ups next above → IsBelow forest.ups at above
