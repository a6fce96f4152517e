-- Cubes that take literals of another cube.
use Rattle.std.specs.Prelude.{◌≡◌, length}
use Rattle.fond_state.specs.Cubes.{CubeLiesIn}
use Rattle.fond_task.specs.Layers.{CubeView}

-- a cube grows by literals of a source: it is over as many atoms, and if it had only literals of the source, it still has
abbrev pub TakesFrom : CubeView → CubeView → CubeView → Type 0
TakesFrom source before after = (length after ≡ length before) × (CubeLiesIn source before → CubeLiesIn source after)
