-- Items of which one has another cube.
use Rattle.std.specs.Prelude.{ℕ, zero, suc, List, [], ◌∷◌}
use Rattle.fond_task.specs.Layers.{CubeView}
use Rattle.fond_policy.specs.Items.{with_cube}
use Rattle.fond_policy.specs.declared.item.Item.{Item}

-- items, of which that of this number has another cube; past the end nothing changes
abbrev pub altered : List Item → ℕ → CubeView → List Item
altered [] number cube = []
altered (item ∷ items) zero cube = with_cube item cube ∷ items
altered (item ∷ items) (suc number) cube = item ∷ altered items number cube
