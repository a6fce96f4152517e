-- Parameters whose objects all make the precondition surely false.
use Rattle.std.specs.Prelude.{◌≡◌, ◌<◌, ℕ, false, not, List, [], Option, Some, length, slice_index, slice_index_or, slice_set}
use Rattle.fond_ast.specs.Ranges.{objects_of}
use Rattle.fond_ast.specs.declared.form.LCond.{LCond}
use Rattle.fond_ast.specs.declared.task.LSchema.{LSchema}
use Rattle.fond_ast.specs.declared.task.LiftedTask.{LiftedTask}
use Rattle.fond_join.specs.Kept.{is_no}
use Rattle.fond_join.specs.Partial.{partial_value}

-- a condition is surely false for each of some objects of a parameter
abbrev pub IsBarren : LiftedTask → LCond → List (Option ℕ) → ℕ → List ℕ → Type 0
IsBarren task condition env parameter objects = (k : ℕ) → k < length objects → not (is_no (partial_value task (slice_set env parameter (Some (slice_index objects k))) condition)) ≡ false

-- a precondition is surely false for each pair of objects of two parameters
abbrev pub IsBarrenPair : LiftedTask → LSchema → List (Option ℕ) → ℕ → ℕ → Type 0
IsBarrenPair task schema env parameter other =
    (k : ℕ) → k < length (slice_index_or (objects_of schema.ranges) parameter [])
    → IsBarren task schema.pre (slice_set env parameter (Some (slice_index (slice_index_or (objects_of schema.ranges) parameter []) k))) other (slice_index_or (objects_of schema.ranges) other [])
