-- States of a ground task without repetition.
use Rattle.std.specs.Prelude.{Bool, List, [], ◌∷◌, ◌++◌, fold, if◌then◌else◌}
use Rattle.std.specs.Bool.{beq}
use Rattle.std.specs.Cmp.Lexicographic.{pointwise}
use Rattle.std.specs.List.{list_any}

-- states with one more at the end, unless it is one of them
abbrev pub added : List (List Bool) → List Bool → List (List Bool)
added states state = if list_any (pointwise beq state) states then states else states ++ state ∷ []

-- the states of a list without repetition, each at its first occurrence
abbrev pub once : List (List Bool) → List (List Bool)
once states = fold added [] states
