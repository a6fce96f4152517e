-- The states to which the outcomes of an applicable action lead are those that may come next.
use Rattle.std.proofs.Common.{◌≡◌, ℕ, zero, suc, ◌∙◌, ◌&&◌, Bool, true, List, [], ◌∷◌, map, length, Some, slice_get, refl, sym, ap, subst}
use Rattle.std.specs.List.{list_all}
use Rattle.std.proofs.lemmas.Option.{same_Some}
use Rattle.fond_ast.specs.Ranges.{objects_of}
use Rattle.fond_ast.specs.Within.{are_ranges_within, is_condition_within, is_effect_within, is_schema_within}
use Rattle.fond_ast.specs.declared.task.LSchema.{LSchema}
use Rattle.fond_ast.specs.declared.task.LiftedTask.{LiftedTask}
use Rattle.fond_ast.specs.Conditions.{Holds, IsTuple}
use Rattle.fond_ast.specs.Effects.{Gives, after}
use Rattle.fond_ast.specs.Outcomes.{change_of, outcomes, state_after}
use Rattle.fond_ast.specs.Laws.{OutcomesComeNext}
use Rattle.fond_ast.proofs.Bools.{and-parts}
use Rattle.fond_ast.proofs.Choosing.{Chooses, chooses}
use Rattle.fond_ast.proofs.Given.{given, gives}
use Rattle.fond_ast.proofs.Members.{Member, Member-from_Contains, Contains-from_Member, Member-map, Member-from_map}

-- a test that all items pass is passed by the item at an index
pub all-at : {X : Type 0} (test : X → Bool) (xs : List X) (i : ℕ) (x : X) → slice_get xs i ≡ Some x → list_all test xs ≡ true → test x ≡ true
all-at test [] i x got all = cc
all-at test (y ∷ xs) zero x got all = let same : y ≡ x = cc in ap test (sym same) ∙ (and-parts (test y) (list_all test xs) all).0
all-at test (y ∷ xs) (suc i) x got all = all-at test xs i x got (and-parts (test y) (list_all test xs) all).1

-- the choices in the effect of a schema of a task have members
pub schema-chooses : (task : LiftedTask) (number : ℕ) (schema : LSchema) → slice_get task.schemas number ≡ Some schema → Chooses schema.effect
schema-chooses task number schema numbered =
    let within = all-at (is_schema_within (length task.objects) task.predicates) task.schemas number schema numbered task.schemas_within in
    let effect = and-parts (are_ranges_within (length task.objects) schema.ranges && is_condition_within (length task.objects) task.predicates schema.pre (objects_of schema.ranges)) (is_effect_within (length task.objects) task.predicates schema.effect (objects_of schema.ranges)) within in
    chooses (length task.objects) task.predicates schema.effect (objects_of schema.ranges) effect.1

same-schema : (task : LiftedTask) (number : ℕ) (schema other : LSchema) → slice_get task.schemas number ≡ Some schema → slice_get task.schemas number ≡ Some other → other ≡ schema
same-schema task number schema other a b = same_Some other schema (sym b ∙ a)

pub outcomes-come-next : OutcomesComeNext
outcomes-come-next task state action schema numbered applicable next =
    let list = outcomes action.objects schema.effect in (
      λ is. (
          let same = same-schema task action.schema schema is.schema numbered is.numbered in
          let made = given state schema.effect action.objects is.change (schema-chooses task action.schema schema numbered) (subst (λ (s : LSchema). Gives state action.objects s.effect is.change) same is.gives) in
          Contains-from_Member (map (state_after state) list) next (subst (Member (map (state_after state) list)) (sym (is.leads ∙ ap (after state) made.2)) (Member-map (state_after state) list made.0 made.1))),
      λ c. (
          let from = Member-from_map (state_after state) list next (Member-from_Contains (map (state_after state) list) next c) in
          let same = same-schema task action.schema schema applicable.schema numbered applicable.numbered in
          record {
            schema = schema;
            numbered = numbered;
            fits = subst (λ (s : LSchema). IsTuple s.ranges action.objects) same applicable.fits;
            holds = subst (λ (s : LSchema). Holds state action.objects s.pre) same applicable.holds;
            change = change_of state from.0;
            gives = gives state schema.effect action.objects (change_of state from.0) (from.0, from.1, refl);
            leads = from.2;
          }),
    )
