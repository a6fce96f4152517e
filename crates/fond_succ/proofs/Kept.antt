-- The kept actions of a task: their schemas and their objects.
use Rattle.std.proofs.Common.{◌≡◌, ℕ, ◌+◌, List, Option, Some, None, map, refl, sym, ap, ◌∙◌, subst, arith}
use Rattle.std.specs.Prelude.{slice_get, IsTrue, option_map}
use Rattle.std.specs.List.{enumerate_from}
use Rattle.std.proofs.lemmas.Option.{none-some, same_Some}
use Rattle.fond_text.specs.declared.atom.GroundAction.{GroundAction}
use Rattle.fond_ast.specs.Ranges.{objects_of}
use Rattle.fond_ast.specs.declared.task.LSchema.{LSchema}
use Rattle.fond_ast.specs.declared.task.LiftedTask.{LiftedTask}
use Rattle.fond_ast.specs.Conditions.{tuples}
use Rattle.fond_ast.proofs.Members.{Member, Member-flat_map, Member-from_flat_map, Member-map, Member-from_map}
use Rattle.fond_join.specs.Kept.{is_kept, kept_args}
use Rattle.fond_ground.specs.Grounds.{kept_actions}
use Rattle.fond_succ.proofs.Firsts.{Member-filter, Member-from_filter, at-enumerate, enumerate-at}

-- if an option's value is mapped to a value, it has one that is mapped there
pub mapped : {X Y : Type 0} (f : X → Y) (o : Option X) (y : Y) → option_map f o ≡ Some y → (x : X) × (o ≡ Some x) × (f x ≡ y)
mapped f None y is = absurd (none-some y is)
mapped f (Some x) y is = (x, refl, same_Some (f x) y is)

module _ (task : LiftedTask) where
  abbrev actions_of_item : ℕ × LSchema → List GroundAction
  actions_of_item item = map (λ objects. record { schema = item.0; objects = objects }) (kept_args task item.1)

  -- the objects of a kept action lie in the ranges of its schema
  pub kept_fits : (action : GroundAction) → Member (kept_actions task) action → (schema : LSchema) × (slice_get task.schemas action.schema ≡ Some schema) × Member (tuples (objects_of schema.ranges)) action.objects
  kept_fits action m =
      let item = Member-from_flat_map actions_of_item (enumerate_from 0 task.schemas) action m in
      let at = at-enumerate 0 task.schemas item.0 item.1 in
      let from = Member-from_map (λ objects. record { schema = item.0.0; objects = objects }) (kept_args task item.0.1) action item.2 in
      let plain : 0 + at.0 ≡ at.0 = omega arith in
      let named : action.schema ≡ at.0 = ap (λ (one : GroundAction). one.schema) from.2 ∙ at.1 ∙ plain in
      let objects : action.objects ≡ from.0 = ap (λ (one : GroundAction). one.objects) from.2 in (
        item.0.1,
        ap (slice_get task.schemas) named ∙ at.2,
        subst (Member (tuples (objects_of item.0.1.ranges))) (sym objects) (Member-from_filter (is_kept task item.0.1) (tuples (objects_of item.0.1.ranges)) from.0 from.1).0,
      )

  -- an action is kept if its objects lie in the ranges of its schema and its precondition is not surely false
  pub kept_from : (action : GroundAction) (schema : LSchema) → slice_get task.schemas action.schema ≡ Some schema → Member (tuples (objects_of schema.ranges)) action.objects → IsTrue (is_kept task schema action.objects) → Member (kept_actions task) action
  kept_from action schema at fits kept =
      let numbered : Member (enumerate_from 0 task.schemas) (0 + action.schema, schema) = enumerate-at 0 task.schemas action.schema schema at in
      let plain : 0 + action.schema ≡ action.schema = omega arith in
      let listed : Member (enumerate_from 0 task.schemas) (action.schema, schema) = subst (λ n. Member (enumerate_from 0 task.schemas) (n, schema)) plain numbered in
      Member-flat_map actions_of_item (enumerate_from 0 task.schemas) (action.schema, schema) action listed (Member-map (λ objects. record { schema = action.schema; objects = objects }) (kept_args task schema) action.objects
      (Member-filter (is_kept task schema) (tuples (objects_of schema.ranges)) action.objects fits kept))
