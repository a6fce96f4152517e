-- Cubes that lose literals.
use Rattle.std.specs.Prelude.{◌≡◌, ◌<◌, ℕ, ◌+◌, List, [], ◌∷◌, Bool, true, false, Option, Some, None, length}
use Rattle.fond_state.specs.Cubes.{CubeLiesIn}
use Rattle.fond_task.specs.Layers.{CubeView}

-- one if there is a literal, and otherwise zero
abbrev pub one_if : Option Bool → ℕ
one_if None = 0
one_if (Some sign) = 1

-- the number of literals of a cube
abbrev pub literals : CubeView → ℕ
literals [] = 0
literals (known ∷ cube) = one_if known + literals cube

-- a cube has become another one over as many atoms, in which it lies; if it changed, that one has fewer literals, and otherwise it is the same
pub record IsWeaker (old new : CubeView) (changed : Bool) : Type 0 where
  pub long : length new ≡ length old
  pub lies : CubeLiesIn old new
  pub fewer : changed ≡ true → literals new < literals old
  pub none : changed ≡ false → new ≡ old
