-- The ground action that names name, if they name one.
use Rattle.std.proofs.Common.{◌≡◌, ℕ, zero, suc, ◌∙◌, List, [], ◌∷◌, map, length, Some, slice_get, refl, sym, ap, subst}
use Rattle.std.specs.Prelude.{IsTrue}
use Rattle.std.proofs.lemmas.Option.{same_Some}
use Rattle.fond_text.specs.declared.atom.GroundAction.{GroundAction}
use Rattle.fond_ast.specs.Within.{are_ranges_within, is_schema_within}
use Rattle.fond_ast.specs.declared.task.LSchema.{LSchema}
use Rattle.fond_ast.specs.declared.task.LiftedTask.{LiftedTask}
use Rattle.fond_succ.proofs.Firsts.{one_place}
use Rattle.fond_ast.specs.Conditions.{IsTuple}
use Rattle.fond_ast.proofs.Bools.{and-parts}
use Rattle.fond_ast.proofs.Come.{all-at}
use Rattle.fond_task.specs.Texts.{name_at}
use Rattle.fond_tree.specs.declared.tree.Tree.{Tree}
use Rattle.fond_tree.specs.Trees.{leaf_of}
use Rattle.fond_succ.specs.Actions.{AreNamesOf, leaf_names}

-- the names of leaves begin with that of the first
first_name : (first : Tree) (rest : List Tree) (name : List ℕ) → leaf_of first ≡ Some name → leaf_names (first ∷ rest) ≡ name ∷ leaf_names rest
first_name first rest name is = rw is refl

named_at : (all : List LSchema) (k : ℕ) (s : LSchema) (name : List ℕ) → slice_get all k ≡ Some s → s.name ≡ name → slice_get (map (λ (x : LSchema). x.name) all) k ≡ Some name
named_at [] k s name at named = cc
named_at (x ∷ all) zero s name at named = ap (λ (y : LSchema). Some y.name) (same_Some x s at) ∙ ap Some named
named_at (x ∷ all) (suc k) s name at named = named_at all k s name at named

-- no names name no action
pub no_names : (task : LiftedTask) (action : GroundAction) → ¬ AreNamesOf task (leaf_names []) action
no_names task action names = let never = names.named in cc

-- the ranges of a schema of a task have objects of the task
pub schema_ranges : (task : LiftedTask) (number : ℕ) (schema : LSchema) → slice_get task.schemas number ≡ Some schema → IsTrue (are_ranges_within (length task.objects) schema.ranges)
schema_ranges task number schema at =
    (and-parts _ _ (and-parts _ _ (all-at (is_schema_within (length task.objects) task.predicates) task.schemas number schema at task.schemas_within)).0).0

module _ (task : LiftedTask) (first : Tree) (rest : List Tree) (name : List ℕ) (is : leaf_of first ≡ Some name) where
  -- no schema has the first name
  pub no_schema : ((number : ℕ) (schema : LSchema) → slice_get task.schemas number ≡ Some schema → ¬ schema.name ≡ name) → (action : GroundAction) → ¬ AreNamesOf task (leaf_names (first ∷ rest)) action
  no_schema none action names =
      let same : name ∷ leaf_names rest ≡ names.schema.name ∷ map (name_at task.objects) action.objects = sym (first_name first rest name is) ∙ names.named in
      let head : names.schema.name ≡ name = cc in
      none action.schema names.schema names.numbered head

  -- this schema has the first name, and these objects of its ranges the others
  pub found_names : (number : ℕ) (schema : LSchema) (objects : List ℕ) → slice_get task.schemas number ≡ Some schema → schema.name ≡ name → IsTuple schema.ranges objects → map (name_at task.objects) objects ≡ leaf_names rest
      → AreNamesOf task (leaf_names (first ∷ rest)) (record { schema = number; objects = objects })
  found_names number schema objects at named fits same = record {
    schema = schema;
    numbered = at;
    fits = fits;
    named = first_name first rest name is ∙ sym (λ i. named i ∷ same i);
  }

  -- this schema has the first name, and no objects of its ranges have the others
  pub no_objects : (number : ℕ) (schema : LSchema) → slice_get task.schemas number ≡ Some schema → schema.name ≡ name → ((objects : List ℕ) → IsTuple schema.ranges objects → ¬ map (name_at task.objects) objects ≡ leaf_names rest)
      → (action : GroundAction) → ¬ AreNamesOf task (leaf_names (first ∷ rest)) action
  no_objects number schema at named none action names =
      let same : name ∷ leaf_names rest ≡ names.schema.name ∷ map (name_at task.objects) action.objects = sym (first_name first rest name is) ∙ names.named in
      let head : names.schema.name ≡ name = cc in
      let tail : map (name_at task.objects) action.objects ≡ leaf_names rest = cc in
      let place : action.schema ≡ number = one_place (map (λ (s : LSchema). s.name) task.schemas) task.distinct_schemas action.schema number name (named_at task.schemas action.schema names.schema name names.numbered head) (named_at task.schemas number schema name at named) in
      let one : names.schema ≡ schema = same_Some _ _ (sym names.numbered ∙ ap (slice_get task.schemas) place ∙ at) in
      none action.objects (subst (λ (s : LSchema). IsTuple s.ranges action.objects) one names.fits) tail
