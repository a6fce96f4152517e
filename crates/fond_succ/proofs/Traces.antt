-- A trace of a ground task is one of its task, with the same lines.
use Rattle.std.proofs.Common.{◌≡◌, ℕ, ◌≤◌, List, ◌∷◌, Bool, not, ◌&&◌, ◌||◌, Some, length, refl, sym, ap, ◌∙◌, subst}
use Rattle.std.specs.Prelude.{slice_get, option_and_then}
use Rattle.std.specs.List.{AllZip}
use Rattle.std.proofs.lemmas.Option.{same_Some}
use Rattle.std.proofs.lemmas.Slice.Zip.{AllZip-long}
use Rattle.fond_text.specs.declared.atom.GroundAction.{GroundAction}
use Rattle.fond_ast.specs.declared.task.LiftedTask.{LiftedTask}
use Rattle.fond_ast.specs.Outcomes.{Literal, outcomes, state_after}
use Rattle.fond_ast.specs.Solutions as lifted
use Rattle.fond_task.specs.declared.task.Act.{Act}
use Rattle.fond_task.specs.declared.task.Entry.{Entry}
use Rattle.fond_task.specs.declared.task.Labels.{Labels}
use Rattle.fond_task.specs.declared.task.Task.{Task}
use Rattle.fond_task.specs.Steps.{adds, deletes, next_state}
use Rattle.fond_task.proofs.Indices.{length-by_index}
use Rattle.fond_task.specs.declared.rule.Rule.{Rule}
use Rattle.fond_task.specs.Policies as ground
use Rattle.fond_task.specs.Policies.{selected}
use Rattle.fond_rules.specs.Select.{selected_rule}
use Rattle.fond_exec.specs.Steps.{IsChosen}
use Rattle.fond_exec.specs.Traces as steps
use Rattle.fond_exec.specs.Traces.{step_line}
use Rattle.fond_state.specs.Traces.{outcome_line, Pick, TraceOf, goal, ended, stuck, bad_outcome, took}
use Rattle.fond_ground.specs.Grounds.{IsActOf, IsEntryOf, IsGroundOf}
use Rattle.fond_ground.specs.Texts.{labels_of}
use Rattle.fond_succ.specs.Stands.{stands}
use Rattle.fond_succ.specs.Games.{IsState, action_of}
use Rattle.fond_succ.specs.Solutions.{rules_policy}
use Rattle.fond_succ.specs.Traces.{Choose, Trace}
use Rattle.fond_succ.proofs.Agrees.{names_action, restricted}
use Rattle.fond_succ.proofs.Lists.{zip-right}
use Rattle.fond_succ.proofs.Maps.{and_then}
use Rattle.fond_succ.proofs.Outcomes.{leads_alike}
use Rattle.fond_succ.proofs.Plays.{distinct, long, named, plays}

module _ (task : LiftedTask) (game : Task) (is : IsGroundOf task game) (rules : List Rule) where
  -- an act stands for the action that it names
  act_is : (number : ℕ) (act : Act) → slice_get game.acts number ≡ Some act → IsActOf task act.ground act
  act_is number act at =
      let one = named task game is number act.ground (names_action task game is number act at) in
      subst (IsActOf task act.ground) (same_Some one.act act (sym one.numbered ∙ at)) one.is

  abbrev choices_of : (number : ℕ) (act : Act) → slice_get game.acts number ≡ Some act → List (List Literal)
  choices_of number act at = outcomes act.ground.objects (act_is number act at).schema.effect

  -- an action has as many choices as its act has outcomes
  choices_long : (number : ℕ) (act : Act) (at : slice_get game.acts number ≡ Some act) → length (choices_of number act at) ≡ length act.outcomes
  choices_long number act at = sym (AllZip-long (AllZip (IsEntryOf task)) (choices_of number act at) act.outcomes (act_is number act at).outcomes)

  module _ (values : List Bool) (state : IsState game values) where
    policy_is : rules_policy task game rules (stands task values) ≡ option_and_then (action_of game) (selected rules values)
    policy_is = ap (λ one. option_and_then (action_of game) (selected rules one)) (restricted task game is values state)

    chooses : (number : ℕ) (act : Act) (chosen : IsChosen game rules values number act) → Choose task game rules (stands task values) act.ground (choices_of number act chosen.numbered)
    chooses number act chosen =
        let name = names_action task game is number act chosen.numbered in
        let one = act_is number act chosen.numbered in
        record {
          chosen = policy_is ∙ ap (option_and_then (action_of game)) chosen.selects ∙ name;
          applicable = ((plays task game is).applicable values number act.ground state name).0 (record { act = act; numbered = chosen.numbered; holds = chosen.holds });
          schema = one.schema;
          numbered = one.numbered;
          choices_are = refl;
        }

    -- where no act is chosen, no action is
    chooses_none : ((choice : ℕ × Act) → ¬ IsChosen game rules values choice.0 choice.1) → (choice : GroundAction × List (List Literal)) → ¬ Choose task game rules (stands task values) choice.0 choice.1
    chooses_none none choice choose =
        let from = and_then (action_of game) (selected rules values) choice.0 (sym policy_is ∙ choose.chosen) in
        let applies = ((plays task game is).applicable values from.0 choice.0 state from.2).1 choose.applicable in
        none (from.0, applies.act) (record { selects = from.1; numbered = applies.numbered; holds = applies.holds })

    open_alike : ¬ ground.IsGoal game values → ¬ lifted.IsGoal task (stands task values)
    open_alike open_ is_goal = open_ (((plays task game is).goal values state).1 is_goal)

    -- each outcome of an act has a choice of the action that leads to the same state
    choice_at : (number : ℕ) (act : Act) (at : slice_get game.acts number ≡ Some act) (outcome : ℕ) (entries : List Entry) → slice_get act.outcomes outcome ≡ Some entries
        → (literals : List Literal) × (slice_get (choices_of number act at) outcome ≡ Some literals) × (stands task (next_state values entries) ≡ state_after (stands task values) literals)
    choice_at number act at outcome entries picked =
        let one = zip-right (AllZip (IsEntryOf task)) (choices_of number act at) act.outcomes (act_is number act at).outcomes outcome entries picked in
        (one.0, one.1, leads_alike task (distinct task game is) values (long task game is values state) one.0 entries one.2)

    next_long : (entries : List Entry) → IsState game (next_state values entries)
    next_long entries = length-by_index (λ atom value. adds values entries atom || (value && not (deletes values entries atom))) values ∙ state

  -- a trace from a state is one from the state for which it stands
  pub trace_alike : (pick : Pick) (values : List Bool) (words lines : List ℕ) (last : List Bool) → IsState game values → steps.Trace pick game rules values words lines last
      → Trace pick task game rules (stands task values) words lines (stands task last)
  trace_alike pick values words lines last state (TraceOf.goal one left is_goal) = goal (stands task one) left (((plays task game is).goal one state).0 is_goal)
  trace_alike pick values words lines last state (TraceOf.ended one open_) = ended (stands task one) (open_alike one state open_)
  trace_alike pick values words lines last state (TraceOf.stuck one word left open_ none) = stuck (stands task one) word left (open_alike one state open_) (chooses_none one state none)
  trace_alike pick values words lines last state (TraceOf.bad_outcome one word left choice open_ chosen beyond) =
      let act = choice.1 in
      let choices = choices_of choice.0 act chosen.numbered in
      let same = choices_long choice.0 act chosen.numbered in
      subst (λ count. Trace pick task game rules (stands task one) (word ∷ left) (outcome_line (pick count word) count) (stands task one)) same
      (bad_outcome (stands task one) word left (act.ground, choices) (open_alike one state open_) (chooses one state choice.0 act chosen) (subst (λ count. count ≤ pick count word) (sym same) beyond))
  trace_alike pick values words lines last state (TraceOf.took one word left choice line next text end open_ chosen leads trace) =
      let act = choice.1 in
      let at = chosen.numbered in
      let rule = leads.0 in
      let outcome = pick (length act.outcomes) word in
      let entries = leads.3.0 in
      let choices = choices_of choice.0 act at in
      let own = choice_at one state choice.0 act at outcome entries leads.3.1 in
      let later : IsState game next = ap length leads.3.2 ∙ next_long one state entries in
      let rest : Trace pick task game rules (stands task next) left text (stands task end) = trace_alike pick next left text end later trace in
      let there : stands task next ≡ state_after (stands task one) own.0 = ap (stands task) leads.3.2 ∙ own.2 in
      let named : outcome ≡ pick (length choices) word = ap (λ count. pick count word) (sym (choices_long choice.0 act at)) in
      took (stands task one) word left (act.ground, choices) line (stands task next) text (stands task end) (open_alike one state open_) (chooses one state choice.0 act chosen)
      (rule, ap (selected_rule rules) (restricted task game is one state) ∙ leads.1, leads.2 ∙ ap (λ (labels : Labels). step_line labels rule act.ground outcome) is.labels ∙ ap (step_line (labels_of task) rule act.ground) named, (own.0, ap (slice_get choices) (sym named) ∙ own.1, there))
      rest
