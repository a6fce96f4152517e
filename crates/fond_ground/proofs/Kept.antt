-- The kept actions of schemas, schema by schema.
use Rattle.std.proofs.Common.{◌≡◌, ℕ, ◌+◌, ◌∙◌, List, ◌++◌, Some, length, slice_get, map, drop, ap, length-append}
use Rattle.std.specs.List.{enumerate_from, flat_map}
use Rattle.std.proofs.lemmas.List.{length-map}
use Rattle.fond_text.specs.declared.atom.GroundAction.{GroundAction}
use Rattle.fond_ast.specs.declared.task.LSchema.{LSchema}
use Rattle.fond_ast.specs.declared.task.LiftedTask.{LiftedTask}
use Rattle.fond_join.specs.Kept.{kept_args}
use Rattle.fond_ground.proofs.Counts.{drop_item}

-- the actions of a schema of this number with these lists of objects
abbrev pub actions_of : ℕ → List (List ℕ) → List GroundAction
actions_of number lists = map (λ objects. record { schema = number; objects = objects }) lists

-- what is left of the kept actions from an index of the schemas on
abbrev pub actions_from : LiftedTask → ℕ → List LSchema → List GroundAction
actions_from task i schemas = flat_map (λ item. map (λ objects. record { schema = item.0; objects = objects }) (kept_args task item.1)) (enumerate_from i schemas)

pub actions_next : (task : LiftedTask) (schemas : List LSchema) (i : ℕ) (schema : LSchema) → slice_get schemas i ≡ Some schema
    → actions_from task i (drop i schemas) ≡ actions_of i (kept_args task schema) ++ actions_from task (i + 1) (drop (i + 1) schemas)
actions_next task schemas i schema at = ap (actions_from task i) (drop_item schemas i schema at)

pub actions_count : (task : LiftedTask) (schemas : List LSchema) (i : ℕ) (schema : LSchema) → slice_get schemas i ≡ Some schema
    → length (actions_from task i (drop i schemas)) ≡ length (kept_args task schema) + length (actions_from task (i + 1) (drop (i + 1) schemas))
actions_count task schemas i schema at =
    ap length (actions_next task schemas i schema at) ∙ length-append (actions_of i (kept_args task schema)) (actions_from task (i + 1) (drop (i + 1) schemas))
    ∙ ap (λ n. n + length (actions_from task (i + 1) (drop (i + 1) schemas))) (length-map (kept_args task schema) (λ objects. record { schema = i; objects = objects }))
