use Rattle.std.proofs.Common.{◌≡◌, ℕ, ◌<◌, Some, slice_get}
use Rattle.fond_ast.specs.declared.task.LSchema.{LSchema}
use Rattle.fond_succ.proofs.action.find_schema.Given as goal

-- no schema so far has the name
abbrev pub invariant-loop-i : goal.invariant-loop-i
invariant-loop-i l = (number : ℕ) (schema : LSchema) → number < l.i → slice_get l.schemas number ≡ Some schema → schema.name ≡ l.name → ⊥
