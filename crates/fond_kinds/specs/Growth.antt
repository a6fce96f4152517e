-- A forest that grows along paths of parents.
use Rattle.std.specs.Prelude.{◌≡◌, ◌⊎◌, ℕ, ◌+◌, ◌<◌, Bool, true, false, List, [], ◌∷◌, ◌++◌, Option, Some, None, length, slice_index, slice_set, Contains, ⊤, sum_by, if◌then◌else◌}
use Rattle.fond_text.specs.Lists.{AreDistinct}
use Rattle.fond_kinds.specs.Parents.{parent_of, are_within}
use Rattle.fond_kinds.specs.Forests.{Forest, IsForest, is_marked}
use Rattle.fond_kinds.specs.declared.grower.Grower.{Grower}

-- the number of numbers without a mark
abbrev pub missing : List Bool → ℕ
missing marks = sum_by (λ mark. if mark then 0 else 1) marks

-- whether a number was met, and whether it was added to the forest
abbrev pub is_met : Grower → ℕ → Bool
is_met grower = is_marked grower.seen.items

abbrev pub is_done : Grower → ℕ → Bool
is_done grower = is_marked grower.done.items

-- the numbers that were added form a forest, and each came before the next time
pub record IsGrowing (grower : Grower) : Type 0 where
  pub forest : IsForest grower.parents.now grower.links grower.done.items
  pub within : are_within grower.parents.now ≡ true
  pub ups : length grower.links.ups ≡ length grower.parents.now
  pub times : length grower.links.times ≡ length grower.parents.now
  pub roots : length grower.links.roots ≡ length grower.parents.now
  pub jumps : length grower.links.jumps ≡ length grower.parents.now
  pub seen : length grower.seen.items ≡ length grower.parents.now
  pub done : length grower.done.items ≡ length grower.parents.now
  pub timed : (number : ℕ) → is_done grower number ≡ true → slice_index grower.links.times number < grower.count
  pub met : (number : ℕ) → is_done grower number ≡ true → is_met grower number ≡ true
  pub left : grower.count + missing grower.done.items ≡ length grower.parents.now

-- a number was added, which made this forest
pub record Adds (old new : Grower) (number : ℕ) (forest : Forest) : Type 0 where
  pub parents : new.parents.now ≡ old.parents.now
  pub links : new.links ≡ forest
  pub seen : new.seen.items ≡ old.seen.items
  pub done : new.done.items ≡ slice_set old.done.items number true
  pub count : new.count ≡ old.count + 1

-- a number was met
pub record Meets (old new : Grower) (number : ℕ) : Type 0 where
  pub parents : new.parents.now ≡ old.parents.now
  pub links : new.links ≡ old.links
  pub seen : new.seen.items ≡ slice_set old.seen.items number true
  pub done : new.done.items ≡ old.done.items
  pub count : new.count ≡ old.count

-- between two paths, each number that was met was added, and so was its parent
pub record IsResting (grower : Grower) : Type 0 where
  pub growing : IsGrowing grower
  pub added : (number : ℕ) → is_met grower number ≡ true → is_done grower number ≡ true
  pub closed : (number parent : ℕ) → is_done grower number ≡ true → parent_of grower.parents.now number ≡ Some parent → is_done grower parent ≡ true

-- the first of some numbers, or another one if there are none
abbrev pub first_or : List ℕ → ℕ → ℕ
first_or [] other = other
first_or (number ∷ numbers) other = number

-- following parents leads along a path, and from its end to this number
abbrev pub Leads : List (Option ℕ) → List ℕ → ℕ → Type 0
Leads parents [] end = ⊤
Leads parents (number ∷ path) end = (parent_of parents number ≡ Some (first_or path end)) × Leads parents path end

-- the numbers that were met and not added are those of a path, each once
pub record IsPath (grower : Grower) (path : List ℕ) : Type 0 where
  pub distinct : AreDistinct path
  pub met : (number : ℕ) → Contains path number → is_met grower number ≡ true
  pub waits : (number : ℕ) → Contains path number → is_done grower number ≡ false
  pub all : (number : ℕ) → is_met grower number ≡ true → is_done grower number ≡ false → Contains path number

-- a path is being walked to this number
pub record IsWalking (grower : Grower) (path : List ℕ) (last : ℕ) : Type 0 where
  pub growing : IsGrowing grower
  pub closed : (number parent : ℕ) → is_done grower number ≡ true → parent_of grower.parents.now number ≡ Some parent → is_done grower parent ≡ true
  pub on_path : IsPath grower (path ++ last ∷ [])
  pub leads : Leads grower.parents.now path last

-- a path was walked to its last number, whose parent was met, if it has one
pub record IsWalked (grower : Grower) (path : List ℕ) (last : ℕ) : Type 0 where
  pub walking : IsWalking grower path last
  pub ends : (parent : ℕ) → parent_of grower.parents.now last ≡ Some parent → is_met grower parent ≡ true

-- the numbers of a path are being added, from its end: this one was added last, to the tree of the path's last number, which
-- alone may have a parent that was met and not added; it then is a root
pub record IsUnwinding (grower : Grower) (path : List ℕ) (above last : ℕ) : Type 0 where
  pub growing : IsGrowing grower
  pub on_path : IsPath grower path
  pub leads : Leads grower.parents.now path above
  pub above_done : is_done grower above ≡ true
  pub last_done : is_done grower last ≡ true
  pub same_tree : slice_index grower.links.roots above ≡ slice_index grower.links.roots last
  pub pending : (number parent : ℕ) → is_done grower number ≡ true → parent_of grower.parents.now number ≡ Some parent
      → (is_done grower parent ≡ true) ⊎ ((number ≡ last) × (is_met grower parent ≡ true) × (parent_of grower.links.ups last ≡ None))
