-- Tasks that are the same are too large alike.
use Rattle.std.proofs.Common.{◌≡◌, ℕ, ◌<◌, List, Contains, length, sym, subst, ◌∙◌}
use Rattle.std.specs.List.{AllZip}
use Rattle.fond_text.specs.declared.code.TheConstants.{MOST_ACTIONS, MOST_ATOMS, MOST_OUTCOMES, TOO_MANY_ACTIONS, TOO_MANY_ATOMS}
use Rattle.fond_text.specs.declared.atom.Atom.{Atom}
use Rattle.fond_text.specs.declared.atom.GroundAction.{GroundAction}
use Rattle.fond_text.specs.declared.fault.Fault.{Fault}
use Rattle.fond_text.specs.declared.place.Place.{Place}
use Rattle.fond_ast.specs.declared.task.LSchema.{LSchema}
use Rattle.fond_ast.specs.declared.task.LiftedTask.{LiftedTask}
use Rattle.fond_ast.specs.Outcomes.{outcomes}
use Rattle.fond_ground.specs.Faults.{HasManyAtoms, HasManyActions, HasManyOutcomes, IsGroundFault, many_atoms, many_actions, many_outcomes, at_domain}
use Rattle.fond_ground.proofs.Zips.{zip-length}
use Rattle.fond_laws.specs.Lifted.{IsSameLifted, IsSameSchema}
use Rattle.fond_laws.proofs.SameLists.{zip-had, zip-somewhere}
use Rattle.fond_laws.proofs.SameGroundAtoms.{same_actions, same_args, same_atoms}
use Rattle.fond_laws.proofs.SameGroundEffects.{IsSameLiteral, same_outcomes}

module _ (task other : LiftedTask) (same : IsSameLifted task other) where
  -- schemas that are alike have as many outcomes
  as_many : (schema twin : LSchema) → IsSameSchema schema twin → (objects : List ℕ) → length (outcomes objects schema.effect) ≡ length (outcomes objects twin.effect)
  as_many schema twin alike objects = zip-length (AllZip IsSameLiteral) (outcomes objects schema.effect) (outcomes objects twin.effect) (same_outcomes schema.effect twin.effect alike.effect objects)

  -- a schema that is alike to one with too many outcomes has too many
  many_there : (schema twin : LSchema) → IsSameSchema schema twin → HasManyOutcomes task schema → HasManyOutcomes other twin
  many_there schema twin alike many =
      (many.0, subst (λ (kept : List (List ℕ)). Contains kept many.0) (same_args task other same schema twin alike) many.1, subst (λ (n : ℕ). MOST_OUTCOMES < n) (as_many schema twin alike many.0) many.2)

  -- a schema has too many outcomes if one that is alike in the other task has
  many_here : (schema twin : LSchema) → IsSameSchema schema twin → HasManyOutcomes other twin → HasManyOutcomes task schema
  many_here schema twin alike many =
      (many.0, subst (λ (kept : List (List ℕ)). Contains kept many.0) (sym (same_args task other same schema twin alike)) many.1, subst (λ (n : ℕ). MOST_OUTCOMES < n) (sym (as_many schema twin alike many.0)) many.2)

  -- a task has too many atoms if the other one has
  atoms_here : HasManyAtoms other → HasManyAtoms task
  atoms_here = subst (λ (atoms : List Atom). MOST_ATOMS < length atoms) (sym (same_atoms task other same))

  -- a task has too many actions if the other one has
  actions_here : HasManyActions other → HasManyActions task
  actions_here = subst (λ (actions : List GroundAction). MOST_ACTIONS < length actions) (sym (same_actions task other same))

  -- a schema has too many outcomes, and no earlier one has; a place is that of its name
  abbrev IsFirstMany : LiftedTask → Place → List LSchema → LSchema → Type 0
  IsFirstMany owner place before schema = ((earlier : LSchema) → Contains before earlier → ¬ HasManyOutcomes owner earlier) × HasManyOutcomes owner schema × (place ≡ schema.place)

  -- no schema has too many outcomes among those that are alike to some that have not
  none_there : (before front : List LSchema) → AllZip IsSameSchema before front → ((earlier : LSchema) → Contains before earlier → ¬ HasManyOutcomes task earlier) → (earlier : LSchema) → Contains front earlier → ¬ HasManyOutcomes other earlier
  none_there before front alike none earlier within many =
      let here = zip-had IsSameSchema before front alike earlier within in
      none here.0 here.1 (many_here here.0 earlier here.2 many)

  -- the first schema with too many outcomes is alike to the first one of the other task
  first_there : (place : Place) (before front : List LSchema) (schema twin : LSchema) → AllZip IsSameSchema before front → IsSameSchema schema twin → IsFirstMany task place before schema → IsFirstMany other place front twin
  first_there place before front schema twin alike also has = (none_there before front alike has.0, many_there schema twin also has.1, has.2 ∙ also.place)

  -- tasks that are the same are refused with the same fault
  from : (fault : Fault) → IsGroundFault task fault → IsGroundFault other fault
  from fault (many_atoms many) =
      subst (λ (place : Place). IsGroundFault other (at_domain place TOO_MANY_ATOMS)) (sym same.place) (many_atoms (subst (λ (atoms : List Atom). MOST_ATOMS < length atoms) (same_atoms task other same) many))
  from fault (many_actions few many) =
      subst (λ (place : Place). IsGroundFault other (at_domain place TOO_MANY_ACTIONS)) (sym same.place)
      (many_actions (λ atoms. few (atoms_here atoms)) (subst (λ (actions : List GroundAction). MOST_ACTIONS < length actions) (same_actions task other same) many))
  from fault (many_outcomes place few fewer some) =
      many_outcomes place (λ atoms. few (atoms_here atoms)) (λ actions. fewer (actions_here actions))
      (zip-somewhere IsSameSchema (IsFirstMany task place) (IsFirstMany other place) (first_there place) task.schemas other.schemas same.schemas some)

-- a fault of a task that is too large is one of each task that is the same up to addresses and capacities
pub same_ground_fault : (task other : LiftedTask) (fault : Fault) → IsSameLifted task other → IsGroundFault task fault → IsGroundFault other fault
same_ground_fault task other fault same = from task other same fault
