-- The ground task of a task plays its game.
use Rattle.std.proofs.Common.{◌≡◌, ℕ, List, [], Bool, not, ◌&&◌, ◌||◌, Some, map, length, refl, sym, ap, ◌∙◌, subst}
use Rattle.std.specs.Prelude.{◌↔◌, slice_get, Contains, IsTrue, option_map}
use Rattle.std.proofs.lemmas.Option.{same_Some}
use Rattle.fond_text.specs.declared.atom.GroundAction.{GroundAction}
use Rattle.fond_ast.specs.declared.task.LSchema.{LSchema}
use Rattle.fond_ast.specs.declared.task.LiftedTask.{LiftedTask}
use Rattle.fond_ast.specs.Conditions.{IsTuple, Holds}
use Rattle.fond_ast.specs.Outcomes.{outcomes, state_after}
use Rattle.fond_ast.specs.Solutions as lifted
use Rattle.fond_ast.specs.Patterns.{IsUnfairWith}
use Rattle.fond_ast.specs.States.{State}
use Rattle.fond_ast.proofs.Come.{outcomes-come-next}
use Rattle.fond_ast.proofs.Members.{Member, Member-from_Contains, Contains-from_Member}
use Rattle.fond_ast.proofs.Tested.{truth-is-tested}
use Rattle.fond_task.specs.declared.task.Act.{Act}
use Rattle.fond_task.specs.declared.task.Entry.{Entry}
use Rattle.fond_task.specs.declared.task.Task.{Task}
use Rattle.fond_task.specs.Distinct.{are_distinct_atoms}
use Rattle.fond_task.specs.Steps.{adds, deletes, next_state}
use Rattle.fond_task.specs.Truth.{is_true}
use Rattle.fond_task.proofs.Indices.{length-by_index}
use Rattle.fond_task.specs.Policies as ground
use Rattle.fond_task.proofs.Lists.{Contains-map}
use Rattle.fond_ground.specs.Atoms.{fluent_atoms}
use Rattle.fond_ground.specs.Grounds.{IsActOf, IsGroundOf, kept_actions}
use Rattle.fond_succ.specs.Stands.{stands}
use Rattle.fond_succ.specs.Games.{IsState, PlaysGameOf, action_of}
use Rattle.fond_succ.proofs.Lists.{Contains-from_map, Member-at, at-Member, zip-left, zip-right}
use Rattle.fond_succ.proofs.Kept.{kept_fits, kept_from, mapped}
use Rattle.fond_succ.proofs.Outcomes.{all_lead_alike}
use Rattle.fond_succ.proofs.States.{stands_initial}
use Rattle.fond_succ.proofs.Truths.{form_holds, not_surely_false}

-- an action that has a number: the act of the number stands for it, and its objects lie in the ranges of its schema
pub record IsNamed (task : LiftedTask) (game : Task) (number : ℕ) (action : GroundAction) : Type 0 where
  pub act : Act
  pub numbered : slice_get game.acts number ≡ Some act
  pub is : IsActOf task action act
  pub fits : IsTuple is.schema.ranges action.objects

module _ (task : LiftedTask) (game : Task) (is : IsGroundOf task game) where
  pub distinct : IsTrue (are_distinct_atoms (fluent_atoms task))
  distinct = ap are_distinct_atoms (sym is.atoms) ∙ game.distinct_atoms

  pub long : (values : List Bool) → IsState game values → length values ≡ length (fluent_atoms task)
  long values state = state ∙ ap length is.atoms

  -- the act of a number stands for the action of the number
  pub named : (number : ℕ) (action : GroundAction) → action_of game number ≡ Some action → IsNamed task game number action
  named number action at =
      let act = mapped (λ (act : Act). act.ground) (slice_get game.acts number) action at in
      let from = zip-right (IsActOf task) (kept_actions task) game.acts is.acts number act.0 act.1 in
      let same : from.0 ≡ action = sym from.2.named ∙ act.2 in
      let stands_for : IsActOf task action act.0 = subst (λ one. IsActOf task one act.0) same from.2 in
      let kept = kept_fits task action (subst (Member (kept_actions task)) same (Member-at (kept_actions task) number from.0 from.1)) in
      let schema : kept.0 ≡ stands_for.schema = same_Some _ _ (sym kept.1 ∙ stands_for.numbered) in
      record {
        act = act.0;
        numbered = act.1;
        is = stands_for;
        fits = subst (λ (one : LSchema). IsTuple one.ranges action.objects) schema (Contains-from_Member _ _ kept.2);
      }

  -- each kept action has a number
  pub numbered : (action : GroundAction) → Member (kept_actions task) action → (number : ℕ) × (action_of game number ≡ Some action)
  numbered action m =
      let at = at-Member (kept_actions task) action m in
      let act = zip-left (IsActOf task) (kept_actions task) game.acts is.acts at.0 action at.1 in
      (at.0, ap (option_map (λ (act : Act). act.ground)) act.1 ∙ ap Some act.2.named)

  module _ (values : List Bool) (state : IsState game values) where
    goal_alike : ground.IsGoal game values ↔ lifted.IsGoal task (stands task values)
    goal_alike =
        let same = form_holds task distinct values (long values state) [] task.goal game.goal is.goal in
        let tested = truth-is-tested (stands task values) [] task.goal in
        (λ h. tested.1 (sym same ∙ h), λ h. same ∙ tested.0 h)

    pre_alike : (action : GroundAction) (act : Act) (one : IsActOf task action act) → IsTrue (is_true values act.pre) ↔ Holds (stands task values) action.objects one.schema.pre
    pre_alike action act one =
        let same = form_holds task distinct values (long values state) action.objects one.schema.pre act.pre one.pre in
        let tested = truth-is-tested (stands task values) action.objects one.schema.pre in
        (λ h. tested.1 (sym same ∙ h), λ h. same ∙ tested.0 h)

    applies_down : (number : ℕ) (action : GroundAction) (one : IsNamed task game number action) → ground.IsApplicable game values number → lifted.IsApplicable task (stands task values) action
    applies_down number action one applies =
        let same : applies.act ≡ one.act = same_Some _ _ (sym applies.numbered ∙ one.numbered) in
        let holds_there : IsTrue (is_true values one.act.pre) = subst (λ (act : Act). IsTrue (is_true values act.pre)) same applies.holds in
        record { schema = one.is.schema; numbered = one.is.numbered; fits = one.fits; holds = (pre_alike action one.act one.is).0 holds_there }

    pre_true : (number : ℕ) (action : GroundAction) (one : IsNamed task game number action) → lifted.IsApplicable task (stands task values) action → IsTrue (is_true values one.act.pre)
    pre_true number action one applies =
        let same : applies.schema ≡ one.is.schema = same_Some _ _ (sym applies.numbered ∙ one.is.numbered) in
        (pre_alike action one.act one.is).1 (subst (λ (schema : LSchema). Holds (stands task values) action.objects schema.pre) same applies.holds)

    applies_up : (number : ℕ) (action : GroundAction) (one : IsNamed task game number action) → lifted.IsApplicable task (stands task values) action → ground.IsApplicable game values number
    applies_up number action one applies = record { act = one.act; numbered = one.numbered; holds = pre_true number action one applies }

    kept_alike : (action : GroundAction) → lifted.IsApplicable task (stands task values) action → (number : ℕ) × (action_of game number ≡ Some action)
    kept_alike action applies =
        let holds_there = (truth-is-tested (stands task values) action.objects applies.schema.pre).0 applies.holds in
        numbered action (kept_from task action applies.schema applies.numbered (Member-from_Contains _ _ applies.fits) (not_surely_false task distinct values action.objects applies.schema.pre holds_there))

    module _ (number : ℕ) (action : GroundAction) (one : IsNamed task game number action) where
      abbrev leads_to : List Entry → State
      leads_to outcome = stands task (next_state values outcome)

      alike : map leads_to one.act.outcomes ≡ map (state_after (stands task values)) (outcomes action.objects one.is.schema.effect)
      alike = all_lead_alike task distinct values (long values state) (outcomes action.objects one.is.schema.effect) one.act.outcomes one.is.outcomes

      leads_down : (next : List Bool) → ground.IsNext game values number next → IsState game next × lifted.IsNext task (stands task values) action (stands task next)
      leads_down next leads =
          let same : leads.act ≡ one.act = same_Some _ _ (sym leads.numbered ∙ one.numbered) in
          let applies = applies_down number action one (record { act = leads.act; numbered = leads.numbered; holds = leads.holds }) in
          let has : Contains one.act.outcomes leads.outcome = subst (λ (act : Act). Contains act.outcomes leads.outcome) same leads.one in
          let among = subst (λ states. Contains states (leads_to leads.outcome)) alike (Contains-map leads_to one.act.outcomes leads.outcome has) in
          let comes = (outcomes-come-next task (stands task values) action one.is.schema one.is.numbered applies (leads_to leads.outcome)).1 among in (
            ap length leads.given ∙ length-by_index (λ atom value. adds values leads.outcome atom || (value && not (deletes values leads.outcome atom))) values ∙ state,
            subst (λ after. lifted.IsNext task (stands task values) action (stands task after)) (sym leads.given) comes,
          )

      comes_up : (next : State) → lifted.IsNext task (stands task values) action next → (after : List Bool) × ground.IsNext game values number after × (next ≡ stands task after)
      comes_up next comes =
          let applies : lifted.IsApplicable task (stands task values) action = record { schema = comes.schema; numbered = comes.numbered; fits = comes.fits; holds = comes.holds } in
          let among = (outcomes-come-next task (stands task values) action one.is.schema one.is.numbered applies next).0 comes in
          let from = Contains-from_map leads_to one.act.outcomes next (subst (λ states. Contains states next) (sym alike) among) in (
            next_state values from.0,
            record { act = one.act; numbered = one.numbered; holds = pre_true number action one applies; outcome = from.0; one = from.1; given = refl },
            from.2,
          )

  unfair_alike : (number : ℕ) (action : GroundAction) (one : IsNamed task game number action) → ground.IsUnfair game number ↔ lifted.IsUnfair task action
  unfair_alike number action one = (
    λ unfair.
        let same : unfair.act ≡ one.act = same_Some _ _ (sym unfair.numbered ∙ one.numbered) in
        record { schema = one.is.schema; numbered = one.is.numbered; unfair = one.is.unfair.0 (ap (λ (act : Act). act.unfair) (sym same) ∙ unfair.flagged) },
    λ unfair.
        let same : unfair.schema ≡ one.is.schema = same_Some _ _ (sym unfair.numbered ∙ one.is.numbered) in
        record { act = one.act; numbered = one.numbered; flagged = one.is.unfair.1 (subst (λ (schema : LSchema). IsUnfairWith schema action.objects) same unfair.unfair) },
  )

  -- the ground task plays the game of the task
  pub plays : PlaysGameOf task game
  plays = record {
    first = ap (stands task) is.init ∙ stands_initial task distinct;
    goal = goal_alike;
    applicable = λ values number action state at. (let one = named number action at in (applies_down values state number action one, applies_up values state number action one));
    numbered = λ values number applies. (applies.act.ground, ap (option_map (λ (act : Act). act.ground)) applies.numbered);
    kept = λ values action state applies. kept_alike values state action applies;
    leads = λ values number action next state at leads. leads_down values state number action (named number action at) next leads;
    comes = λ values number action next state at comes. comes_up values state number action (named number action at) next comes;
    unfair = λ number action at. unfair_alike number action (named number action at);
  }
