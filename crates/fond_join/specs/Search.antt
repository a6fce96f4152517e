-- A search that gives one parameter after the other an object.
use Rattle.std.specs.Prelude.{◌≡◌, ◌<◌, ◌≤◌, ℕ, Bool, true, false, IsTrue, List, [], ◌∷◌, ◌++◌, Option, Some, None, is_some, map, filter, length, slice_index_or, slice_set, unwrap_or}
use Rattle.std.specs.List.{flat_map, list_all}
use Rattle.fond_ast.specs.Ranges.{objects_of}
use Rattle.fond_ast.specs.declared.task.LSchema.{LSchema}
use Rattle.fond_ast.specs.declared.task.LiftedTask.{LiftedTask}
use Rattle.fond_join.specs.Kept.{is_kept}

-- the objects of parameters, with 0 for one that has none
abbrev pub arguments : List (Option ℕ) → List ℕ
arguments env = map (λ object. unwrap_or object 0) env

-- the ways to give parameters objects of their ranges, in this order of the parameters, the first one varying slowest
abbrev pub completions : List (List ℕ) → List (Option ℕ) → List ℕ → List (List (Option ℕ))
completions ranges env [] = env ∷ []
completions ranges env (parameter ∷ order) = flat_map (λ object. completions ranges (slice_set env parameter (Some object)) order) (slice_index_or ranges parameter [])

-- the parameters of an order have no objects, and with those all parameters have one
abbrev pub IsOrder : List (Option ℕ) → List ℕ → Type 0
IsOrder env [] = IsTrue (list_all (λ object. is_some object) env)
IsOrder env (parameter ∷ order) = (slice_index_or env parameter (Some 0) ≡ None) × ((object : ℕ) → IsOrder (slice_set env parameter (Some object)) order)

-- the argument lists of the kept ground actions among the completions
abbrev pub kept_completions : LiftedTask → LSchema → List (Option ℕ) → List ℕ → List (List ℕ)
kept_completions task schema env order = filter (is_kept task schema) (map arguments (completions (objects_of schema.ranges) env order))

-- a search for lists, of which there may be at most so many, comes to its end and adds them to those before; or it stops
-- since there are more
abbrev pub Searched : ℕ → List (List ℕ) → List (List ℕ) → List (List ℕ) → Bool → Type 0
Searched most before all after true = (after ≡ before ++ all) × (length after ≤ most)
Searched most before all after false = most < length (before ++ all)
