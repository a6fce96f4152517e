-- The objects of a parameter that a search has to try.
use Rattle.std.specs.Prelude.{◌≡◌, ℕ, Bool, true, false, List, [], Option, filter, slice_index_or}
use Rattle.fond_ast.specs.Ranges.{objects_of}
use Rattle.fond_ast.specs.declared.task.LSchema.{LSchema}
use Rattle.fond_ast.specs.declared.task.LiftedTask.{LiftedTask}
use Rattle.fond_join.specs.Agree.{Agree}
use Rattle.fond_join.specs.Kept.{is_no, open_value}
use Rattle.fond_join.specs.Values.{condition_value}

-- some objects are those of the range of a parameter that pass a test, which the parameter's object passes for each way to
-- complete the known objects by which the precondition is not surely false
abbrev pub AreCandidates : LiftedTask → LSchema → List (Option ℕ) → ℕ → List ℕ → Type 0
AreCandidates task schema env parameter candidates =
    (test : ℕ → Bool) × ((objects : List ℕ) → Agree false env objects → is_no (condition_value (open_value task) objects schema.pre) ≡ false → test (slice_index_or objects parameter 0) ≡ true)
    × (candidates ≡ filter test (slice_index_or (objects_of schema.ranges) parameter []))
