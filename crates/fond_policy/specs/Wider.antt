-- Items that are wider than others, and the number of their literals.
use Rattle.std.specs.Prelude.{◌≡◌, ℕ, ◌+◌, ◌<◌, List, [], ◌∷◌, Bool, true, false, Option, Some, None, slice_get, length}
use Rattle.fond_state.specs.Cubes.{CubeLiesIn}
use Rattle.fond_task.specs.declared.task.Task.{Task}
use Rattle.fond_task.specs.Layers.{CubeView}
use Rattle.fond_policy.specs.Items.{First, AreItemsOver, AreSureItems}
use Rattle.fond_policy.specs.declared.item.Item.{Item}

-- an item is another one with at most its literals
pub record IsWider (item other : Item) : Type 0 where
  pub long : length item.cube ≡ length other.cube
  pub lies : CubeLiesIn other.cube item.cube
  pub same : item.way ≡ other.way

-- items are others, each with at most its literals
pub record AreWider (items others : List Item) : Type 0 where
  pub counted : length items ≡ length others
  pub each : (number : ℕ) (item other : Item) → slice_get items number ≡ Some item → slice_get others number ≡ Some other → IsWider item other

-- one if there is a literal, else none
abbrev pub one_if : Option Bool → ℕ
one_if None = 0
one_if (Some sign) = 1

-- the number of literals of a cube
abbrev pub literals : CubeView → ℕ
literals [] = 0
literals (known ∷ cube) = one_if known + literals cube

-- the number of literals of all items
abbrev pub all_literals : List Item → ℕ
all_literals [] = 0
all_literals (item ∷ items) = literals item.cube + all_literals items

-- items became others: they are sure, over the atoms of the task, and have at most the literals that they had; if they changed, they
-- have fewer, and if not, they are the same. It does not say that they are lean
pub record HaveWidened (task : Task) (firsts : List First) (old new : List Item) (changed : Bool) : Type 0 where
  pub over : AreItemsOver (length task.atoms) new
  pub sure : AreSureItems task firsts new
  pub wider : AreWider new old
  pub fewer : changed ≡ true → all_literals new < all_literals old
  pub none : changed ≡ false → new ≡ old
