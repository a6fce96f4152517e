-- Tasks that are the same up to addresses and capacities have the same ground tasks.
use Rattle.std.proofs.Common.{◌≡◌, ◌⊎◌, ℕ, ◌∙◌, Bool, true, List, [], Option, map, sym, ap, subst}
use Rattle.std.specs.Prelude.{Contains}
use Rattle.std.specs.Bool.{Decides}
use Rattle.std.specs.List.{AllZip}
use Rattle.std.specs.FinSet as set
use Rattle.fond_text.specs.declared.atom.GroundAction.{GroundAction}
use Rattle.fond_ast.specs.declared.form.LCond.{LCond}
use Rattle.fond_ast.specs.declared.form.LTerm.{LTerm}
use Rattle.fond_ast.specs.declared.task.LSchema.{LSchema}
use Rattle.fond_ast.specs.declared.task.LiftedTask.{LiftedTask}
use Rattle.fond_ast.specs.Outcomes.{Literal, outcomes}
use Rattle.fond_ast.specs.Patterns.{Fits, IsUnfairWith}
use Rattle.fond_ast.specs.States.{atoms_of}
use Rattle.fond_task.specs.Values.{least}
use Rattle.fond_task.specs.declared.form.Form.{Form}
use Rattle.fond_task.specs.declared.task.Act.{Act}
use Rattle.fond_task.specs.declared.task.Entry.{Entry}
use Rattle.fond_task.specs.declared.task.Task.{Task}
use Rattle.fond_join.specs.Values.{condition_value}
use Rattle.fond_ground.specs.Atoms.{atom_number}
use Rattle.fond_ground.specs.Grounds.{IsActOf, IsEntryOf, IsGroundOf, kept_actions}
use Rattle.fond_ground.specs.Values.{StandsFor, atom_value}
use Rattle.fond_laws.specs.Lifted.{IsSameCondition, IsSameLifted, IsSameSchema}
use Rattle.fond_laws.proofs.SameLists.{zip-at, zip-both, zip-follows, zip-images}
use Rattle.fond_laws.proofs.SameGroundAtoms.{same_actions, same_atom_value, same_atoms, same_labels, same_number}
use Rattle.fond_laws.proofs.SameGroundConditions.{value_same}
use Rattle.fond_laws.proofs.SameGroundEffects.{IsSameGuard, IsSameLiteral, same_outcomes}

-- schemas of the same fairness and patterns have the same unfair actions
unfair_same : (unfair : Bool) (schema twin : LSchema) (objects : List ℕ) → schema.unfair ≡ twin.unfair → schema.patterns ≡ twin.patterns → Decides unfair (IsUnfairWith schema objects) → Decides unfair (IsUnfairWith twin objects)
unfair_same unfair schema twin objects same alike =
    subst (λ (both : Bool × List (List LTerm)). Decides unfair ((both.0 ≡ true) ⊎ ((pattern : List LTerm) × Contains both.1 pattern × Fits pattern objects))) (λ i. (same i, alike i))

module _ (task other : LiftedTask) (same : IsSameLifted task other) where
  -- conditions that are alike have the same value on a cube
  cube_value : (cube : List (Option Bool)) (condition twin : LCond) → IsSameCondition condition twin → (env : List ℕ) → condition_value (atom_value task cube) env condition ≡ condition_value (atom_value other cube) env twin
  cube_value cube = value_same (atom_value task cube) (atom_value other cube) (same_atom_value task other same cube)

  -- a form that stands for a condition stands for the one that is alike
  stands_same : (env : List ℕ) (condition twin : LCond) (form : Form) → IsSameCondition condition twin → StandsFor task env condition form → StandsFor other env twin form
  stands_same env condition twin form alike stands cube = stands cube ∙ cube_value cube condition twin alike env

  -- an entry of a literal is one of the literal that is alike
  entry_same : (literal twin : Literal) (entry : Entry) → IsSameLiteral literal twin → IsEntryOf task literal entry → IsEntryOf other twin entry
  entry_same literal twin entry alike is = record {
    numbered = sym (same_number task other same twin.atom) ∙ (ap (λ atom. atom_number task atom) (sym alike.atom) ∙ is.numbered);
    signed = is.signed ∙ alike.add;
    valued = λ cube. is.valued cube ∙ ap least (zip-images IsSameGuard (λ guard. condition_value (atom_value task cube) guard.env guard.condition) (λ guard. condition_value (atom_value other cube) guard.env guard.condition)
        (λ guard also h. ap (λ env. condition_value (atom_value task cube) env guard.condition) h.env ∙ cube_value cube guard.condition also.condition h.condition also.env) literal.guards twin.guards alike.guards);
  }

  -- an action of a ground action is one of it in the other task
  act_same : (action : GroundAction) (act : Act) → IsActOf task action act → IsActOf other action act
  act_same action act is =
      let twin = zip-at IsSameSchema task.schemas other.schemas same.schemas action.schema is.schema is.numbered in
      record {
        schema = twin.0;
        numbered = twin.1;
        named = is.named;
        pre = stands_same action.objects is.schema.pre twin.0.pre act.pre twin.2.pre is.pre;
        unfair = unfair_same act.unfair is.schema twin.0 action.objects twin.2.unfair twin.2.patterns is.unfair;
        outcomes = zip-both (AllZip IsSameLiteral) (AllZip (IsEntryOf task)) (AllZip (IsEntryOf other))
            (λ literals others entries. zip-both IsSameLiteral (IsEntryOf task) (IsEntryOf other) entry_same literals others entries)
            (outcomes action.objects is.schema.effect) (outcomes action.objects twin.0.effect) act.outcomes
            (same_outcomes is.schema.effect twin.0.effect twin.2.effect action.objects) is.outcomes;
      }

-- a ground task of a task is one of each task that is the same up to addresses and capacities
pub ground_of_same : (task other : LiftedTask) (game : Task) → IsSameLifted task other → IsGroundOf task game → IsGroundOf other game
ground_of_same task other game same is =
    let atoms = same_atoms task other same in
    record {
      atoms = is.atoms ∙ atoms;
      acts = subst (λ (actions : List GroundAction). AllZip (IsActOf other) actions game.acts) (same_actions task other same)
          (zip-follows (IsActOf task) (IsActOf other) (act_same task other same) (kept_actions task) game.acts is.acts);
      init = is.init ∙ (λ i. map (set.contains (atoms_of (same.init i))) (atoms i));
      goal = stands_same task other same [] task.goal other.goal game.goal same.goal is.goal;
      labels = is.labels ∙ same_labels task other same;
    }
