-- What is found at an index.
use Rattle.std.proofs.Common.{◌≡◌, ℕ, true, List, [], ◌∷◌, Some, ◌&&◌, Bool, length, slice_get, sym, ◌∙◌}
use Rattle.std.specs.Prelude.{IsTrue}
use Rattle.std.specs.List.{list_all}
use Rattle.fond_ast.specs.Ranges.{is_rising, objects_of}
use Rattle.fond_ast.specs.Within.{is_schema_within}
use Rattle.fond_ast.specs.declared.task.LSchema.{LSchema}
use Rattle.fond_ast.specs.declared.task.LiftedTask.{LiftedTask}
use Rattle.fond_task.proofs.Found.{all_at}
use Rattle.fond_ast.proofs.Bools.{and-both, and-parts}

-- an index has one item
pub same_found : {X : Type 0} (xs : List X) (i : ℕ) (x y : X) → slice_get xs i ≡ Some x → slice_get xs i ≡ Some y → x ≡ y
same_found xs i x y one other = let both = sym one ∙ other in cc

all_first : {X : Type 0} (test other : X → Bool) (xs : List X) → list_all (λ x. test x && other x) xs ≡ true → list_all test xs ≡ true
all_first test other [] h = h
all_first test other (x ∷ xs) h =
    let parts = and-parts (test x && other x) (list_all (λ x. test x && other x) xs) h in
    and-both (test x) (list_all test xs) (and-parts (test x) (other x) parts.0).0 (all_first test other xs parts.1)

-- the ranges of a schema of a task are rising
pub ranges_rise : (task : LiftedTask) (number : ℕ) (schema : LSchema) → slice_get task.schemas number ≡ Some schema → IsTrue (list_all is_rising (objects_of schema.ranges))
ranges_rise task number schema at =
    all_first is_rising _ (objects_of schema.ranges) (and-parts _ _ (and-parts _ _ (all_at (is_schema_within (length task.objects) task.predicates) task.schemas number schema task.schemas_within at)).0).0
