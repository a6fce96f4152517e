-- Tasks that are alike have the same atoms, and the same values of atoms.
use Rattle.std.proofs.Common.{◌≡◌, ℕ, zero, suc, Bool, List, [], ◌∷◌, Option, map, filter, position, not, refl, ap}
use Rattle.std.specs.Prelude.{if◌then◌else◌}
use Rattle.std.specs.List.{AllZip}
use Rattle.std.specs.FinSet as set
use Rattle.fond_text.specs.declared.atom.Atom.{Atom}
use Rattle.fond_ast.specs.Ranges.{objects_of}
use Rattle.fond_ast.specs.Within.{is_fluent}
use Rattle.fond_ast.specs.declared.task.LPredicate.{LPredicate}
use Rattle.fond_ast.specs.declared.task.LSchema.{LSchema}
use Rattle.fond_ast.specs.declared.task.LiftedTask.{LiftedTask}
use Rattle.fond_ast.specs.Conditions.{tuples}
use Rattle.fond_ast.specs.States.{atoms_of}
use Rattle.fond_task.specs.declared.form.Kleene.TheVariants.{No, Unknown, Yes}
use Rattle.fond_join.specs.Kept.{is_kept, is_no, kept_args, open_value, static_value}
use Rattle.fond_ground.specs.Atoms.{atom_number, fluent_atoms, is_same_atom}
use Rattle.fond_ground.specs.Grounds.{kept_actions}
use Rattle.fond_ground.specs.Texts.{labels_of}
use Rattle.fond_ground.specs.Values.{atom_value, value_or}
use Rattle.fond_laws.specs.Lifted.{IsSameLifted, IsSamePredicate, IsSameSchema}
use Rattle.fond_laws.proofs.SameGroundConditions.{value_same}
use Rattle.fond_laws.proofs.SameLists.{zip-images, zip-numbered}

-- predicates that are alike are fluent alike
same_fluent : (predicates others : List LPredicate) → AllZip IsSamePredicate predicates others → (number : ℕ) → is_fluent predicates number ≡ is_fluent others number
same_fluent [] [] same number = refl
same_fluent [] (other ∷ others) same number = absurd same
same_fluent (predicate ∷ predicates) [] same number = absurd same
same_fluent (predicate ∷ predicates) (other ∷ others) same zero = same.0.fluent
same_fluent (predicate ∷ predicates) (other ∷ others) same (suc number) = same_fluent predicates others same.1 number

module _ (task other : LiftedTask) (same : IsSameLifted task other) where
  -- the fluent atoms are the same
  pub same_atoms : fluent_atoms task ≡ fluent_atoms other
  same_atoms =
      let over : (number : ℕ) → LPredicate → List Atom = λ number predicate. if predicate.fluent then map (λ objects. record { predicate = number; objects = objects }) (tuples (objects_of predicate.ranges)) else [] in
      zip-numbered IsSamePredicate over over (λ number predicate twin alike i. if alike.fluent i then map (λ objects. record { predicate = number; objects = objects }) (tuples (alike.ranges i)) else []) 0 task.predicates other.predicates same.predicates

  -- the numbers of atoms are the same
  pub same_number : (atom : Atom) → atom_number task atom ≡ atom_number other atom
  same_number atom = ap (position (is_same_atom atom)) same_atoms

  -- the values of static atoms are the same
  same_static : (atom : Atom) → static_value task atom ≡ static_value other atom
  same_static atom = ap (λ (init : List Atom). if set.contains (atoms_of init) atom then Yes else No) same.init

  -- the values of atoms on cubes are the same
  pub same_atom_value : (cube : List (Option Bool)) (atom : Atom) → atom_value task cube atom ≡ atom_value other cube atom
  same_atom_value cube atom = λ i. value_or cube (same_static atom i) (same_number atom i)

  -- the values of atoms if nothing is known of the fluent ones are the same
  same_open : (atom : Atom) → open_value task atom ≡ open_value other atom
  same_open atom = λ i. if same_fluent task.predicates other.predicates same.predicates atom.predicate i then Unknown else same_static atom i

  -- schemas that are alike keep the same ground actions
  pub same_args : (schema twin : LSchema) → IsSameSchema schema twin → kept_args task schema ≡ kept_args other twin
  same_args schema twin alike =
      let kept : (objects : List ℕ) → is_kept task schema objects ≡ is_kept other twin objects =
      λ objects i. not (is_no (value_same (open_value task) (open_value other) same_open schema.pre twin.pre alike.pre objects i)) in
      λ i. filter (λ objects. kept objects i) (tuples (alike.ranges i))

  -- the kept ground actions are the same
  pub same_actions : kept_actions task ≡ kept_actions other
  same_actions =
      zip-numbered IsSameSchema (λ number schema. map (λ objects. record { schema = number; objects = objects }) (kept_args task schema)) (λ number schema. map (λ objects. record { schema = number; objects = objects }) (kept_args other schema))
      (λ number schema twin alike. ap (map (λ objects. record { schema = number; objects = objects })) (same_args schema twin alike)) 0 task.schemas other.schemas same.schemas

  -- the names are the same
  pub same_labels : labels_of task ≡ labels_of other
  same_labels = λ i. record {
    predicates = zip-images IsSamePredicate (λ predicate. predicate.name) (λ predicate. predicate.name) (λ predicate twin alike. alike.named) task.predicates other.predicates same.predicates i;
    objects = same.objects i;
    schemas = zip-images IsSameSchema (λ schema. schema.name) (λ schema. schema.name) (λ schema twin alike. alike.named) task.schemas other.schemas same.schemas i;
  }
