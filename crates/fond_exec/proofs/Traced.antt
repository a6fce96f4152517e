-- Traces step by step: the lines so far, and the traces that go on from there.
use Rattle.std.proofs.Common.{◌≡◌, ℕ, ◌≤◌, List, [], ◌∷◌, ◌++◌, Bool, true, false, Option, length, refl, sym, ap, ◌∙◌, subst, append_assoc, arith}
use Rattle.std.specs.Prelude.{slice_get, Some, Result, Ok, Err, IfOk, codes, if◌then◌else◌}
use Rattle.std.proofs.lemmas.Option.{same_Some}
use Rattle.fond_text.specs.Text.{Adds}
use Rattle.fond_text.proofs.Adding.{adds_then, adds_same, adds_nothing, whole_is}
use Rattle.fond_task.specs.declared.task.Act.{Act}
use Rattle.fond_task.specs.declared.task.Task.{Task}
use Rattle.fond_task.specs.Texts.{state_text}
use Rattle.fond_task.specs.Truth.{is_true}
use Rattle.fond_task.specs.declared.rule.Rule.{Rule}
use Rattle.fond_task.specs.Policies.{IsGoal}
use Rattle.fond_exec.specs.Choices.{IsChoice}
use Rattle.fond_exec.specs.declared.choice.Choice.{Choice}
use Rattle.fond_exec.specs.declared.trace.Traced.{Traced}
use Rattle.fond_exec.specs.Runs.{Run}
use Rattle.fond_exec.specs.Steps.{IsChosen, IsStuck, IsTaken}
use Rattle.fond_state.specs.Traces.{goal_line, outcome_line, Pick, goal, ended, stuck, bad_outcome, took}
use Rattle.fond_exec.specs.Traces.{step_line, IsTraceText, Trace}
use Rattle.fond_exec.proofs.Chosen.{differs}

pub none_left : (left : List ℕ) → length left ≡ 0 → left ≡ []
none_left [] none = refl
none_left (outcome ∷ left) none = absurd (omega (arith, none))

module _ (pick : Pick) (task : Task) (rules : List Rule) where
  -- a choice by an equal task and equal rules
  pub choice_of : (other : Task) (more : List Rule) (state : List Bool) (choice : Choice) → other ≡ task → more ≡ rules → IsChoice other more state choice → IsChoice task rules state choice
  choice_of other more state choice same same_rules is =
      let P : Task → Type 0 = λ t. IsChoice t more state choice in
      let Q : List Rule → Type 0 = λ r. IsChoice task r state choice in
      subst Q same_rules (subst P same is)

  -- a step that an equal task and equal rules take
  pub taken_of : (other : Task) (more : List Rule) (state : List Bool) (outcome rule number : ℕ) (after : List Bool) → other ≡ task → more ≡ rules → IsTaken other more state outcome rule number after → IsTaken task rules state outcome rule number after
  taken_of other more state outcome rule number after same same_rules is =
      let P : Task → Type 0 = λ t. IsTaken t more state outcome rule number after in
      let Q : List Rule → Type 0 = λ r. IsTaken task r state outcome rule number after in
      subst Q same_rules (subst P same is)

  -- a whole trace, whose lines were added to a text
  abbrev pub IsTraced : List Bool → List ℕ → List Bool → Option (List ℕ) → Option (List ℕ) → Type 0
  IsTraced start outcomes last before now = (lines : List ℕ) × Trace pick task rules start outcomes lines last × Adds before now lines

  -- the lines so far, followed by any trace from the state over the outcomes that are left, are a trace from the start
  pub record Progress (start : List Bool) (outcomes : List ℕ) (state : List Bool) (left : List ℕ) (before now : Option (List ℕ)) : Type 0 where
    pub front : List ℕ
    pub written : Adds before now front
    pub onward : (text : List ℕ) (last : List Bool) → Trace pick task rules state left text last → Trace pick task rules start outcomes (front ++ text) last

  pub begins : (start : List Bool) (outcomes : List ℕ) (before : Option (List ℕ)) → Progress start outcomes start outcomes before before
  begins start outcomes before = record { front = []; written = adds_nothing before; onward = λ text last trace. trace }

  module _ (start : List Bool) (outcomes : List ℕ) (state : List Bool) (left : List ℕ) (before now : Option (List ℕ)) (so_far : Progress start outcomes state left before now) where
    -- the trace ends with these lines
    ends_by : (line : List ℕ) (last : List Bool) (after : Option (List ℕ)) → Trace pick task rules state left line last → Adds now after line → IsTraced start outcomes last before after
    ends_by line last after trace put =
        (so_far.front ++ line, so_far.onward line last trace, adds_then before now after so_far.front line so_far.written put)

    at_goal : (last : List Bool) (after : Option (List ℕ)) → IsGoal task state → last ≡ state → Adds now after (goal_line (length left)) → IsTraced start outcomes last before after
    at_goal last after is same put = ends_by (goal_line (length left)) last after (subst (λ s. Trace pick task rules state left (goal_line (length left)) s) (sym same) (goal state left is)) put

    -- no outcome is left
    ended_by : (is_goal : Bool) (after : Option (List ℕ)) → left ≡ [] → is_goal ≡ is_true state task.goal → Adds now after (if is_goal then goal_line 0 else codes "ended\n") → IsTraced start outcomes state before after
    ended_by true after none is put = at_goal state after (sym is) refl (adds_same now after _ _ (ap (λ (w : List ℕ). goal_line (length w)) (sym none)) put)
    ended_by false after none is put =
        ends_by (codes "ended\n") state after (subst (λ w. Trace pick task rules state w (codes "ended\n") state) (sym none) (ended state (differs _ (sym is)))) put

    pub at_end : (is_goal : Bool) (after : Option (List ℕ)) → left ≡ [] → is_goal ≡ is_true state task.goal → Adds now after (if is_goal then goal_line 0 else codes "ended\n") → IsTraced start outcomes state before after
    at_end is_goal after none is put = ended_by is_goal after none is put

    pub at_done : (last : List Bool) (after : Option (List ℕ)) → IsGoal task state × (last ≡ state) → Adds now after (goal_line (length left)) → IsTraced start outcomes last before after
    at_done last after is put = at_goal last after is.0 is.1 put

    module _ (outcome : ℕ) (more : List ℕ) (next : left ≡ outcome ∷ more) where
      -- a trace of one line
      one_line : (line : List ℕ) (last : List Bool) (after : Option (List ℕ)) → Trace pick task rules state (outcome ∷ more) line state → last ≡ state → Adds now after line → IsTraced start outcomes last before after
      one_line line last after trace same put =
          let P : List Bool → Type 0 = λ s. Trace pick task rules state (outcome ∷ more) line s in
          let Q : List ℕ → Type 0 = λ w. Trace pick task rules state w line last in
          ends_by line last after (subst Q (sym next) (subst P (sym same) trace)) put

      pub at_stuck : (last : List Bool) (after : Option (List ℕ)) → (¬ IsGoal task state) × IsStuck task rules state × (last ≡ state) → Adds now after (codes "stuck\n") → IsTraced start outcomes last before after
      at_stuck last after is put = one_line (codes "stuck\n") last after (stuck state outcome more is.0 (λ choice chosen. is.1 choice.0 chosen.selects (record { act = choice.1; numbered = chosen.numbered; holds = chosen.holds }))) is.2 put

      pub at_bad_outcome : (count number : ℕ) (last : List Bool) (after : Option (List ℕ)) →
          (¬ IsGoal task state) × ((chosen : ℕ) × (act : Act) × IsChosen task rules state chosen act × (count ≡ length act.outcomes)) × (count ≤ number) × (last ≡ state) → number ≡ pick count outcome →
          Adds now after (outcome_line number count) → IsTraced start outcomes last before after
      at_bad_outcome count number last after is picked put =
          let act = is.1.1 in
          let counted : count ≡ length act.outcomes = is.1.3 in
          let named : number ≡ pick (length act.outcomes) outcome = picked ∙ ap (λ n. pick n outcome) counted in
          let beyond : length act.outcomes ≤ pick (length act.outcomes) outcome = subst (λ n. n ≤ pick (length act.outcomes) outcome) counted (subst (λ n. count ≤ n) named is.2) in
          one_line (outcome_line (pick (length act.outcomes) outcome) (length act.outcomes)) last after (bad_outcome state outcome more (is.1.0, act) is.0 is.1.2 beyond) is.3
          (adds_same now after _ _ (λ i. outcome_line (named i) (counted i)) put)

      -- a step that is taken goes on from the next state; its line is that of the action of its number
      pub went_on : (rule number chosen : ℕ) (last : List Bool) (after : Option (List ℕ)) (act : Act) → (taken : IsTaken task rules state chosen rule number last) → chosen ≡ pick (length taken.act.outcomes) outcome →
          slice_get task.acts number ≡ Some act → Adds now after (step_line task.labels rule act.ground chosen) → Progress start outcomes last more before after
      went_on rule number chosen last after act is picked at put_act =
          let same : act ≡ is.act = same_Some act is.act (sym at ∙ is.chosen.numbered) in
          let put : Adds now after (step_line task.labels rule is.act.ground chosen) = adds_same now after _ _ (ap (λ (a : Act). step_line task.labels rule a.ground chosen) same) put_act in
          record {
            front = so_far.front ++ step_line task.labels rule is.act.ground chosen;
            written = adds_then before now after so_far.front _ so_far.written put;
            onward = λ text end trace.
                let P : List ℕ → Type 0 = λ w. Trace pick task rules state w (step_line task.labels rule is.act.ground chosen ++ text) end in
                let Q : List ℕ → Type 0 = λ w. Trace pick task rules start outcomes w end in
                subst Q (sym (append_assoc so_far.front (step_line task.labels rule is.act.ground chosen) text))
                (so_far.onward _ end (subst P (sym next) (took state outcome more (number, is.act) (step_line task.labels rule is.act.ground chosen) last text end is.open_ is.chosen
                (rule, is.selects, ap (step_line task.labels rule is.act.ground) picked, (is.entries, ap (slice_get is.act.outcomes) (sym picked) ∙ is.picked, is.given)) trace)));
          }

-- the trace of a run from the initial state, followed by the text of its last state, if there is one
pub trace_text : {E : Type 0} (pick : Pick) (task : Task) (rules : List Rule) (outcomes : List ℕ) (start end : Run) (empty now : Option (List ℕ)) (r : Result Traced E) → empty ≡ Some [] →
    start ≡ record { task = task; rules = rules; state = task.init } → end.task ≡ start.task → IsTraced pick start.task start.rules start.state outcomes end.state empty now →
    IfOk r (λ traced. Adds now (Some traced.text.items) (state_text task end.state)) → IfOk r (λ traced. traced.is_goal ≡ is_true end.state end.task.goal) →
    IfOk r (λ traced. IsTraceText pick task rules outcomes traced.text.items traced.is_goal)
trace_text pick task rules outcomes start end empty now (Err _) begun starts same steps put is = tt
trace_text pick task rules outcomes start end empty now (Ok traced) begun starts same steps put is =
    let P : Run → Type 0 = λ r. Trace pick r.task r.rules r.state outcomes steps.0 end.state in
    let own : end.task ≡ task = same ∙ ap (λ (r : Run). r.task) starts in
    let put_steps : Adds (Some []) now steps.0 = subst (λ t. Adds t now steps.0) begun steps.2 in (
      steps.0,
      end.state,
      subst P starts steps.1,
      whole_is (Some traced.text.items) (steps.0 ++ state_text task end.state) traced.text.items (adds_then (Some []) now (Some traced.text.items) steps.0 (state_text task end.state) put_steps put) refl,
      is ∙ ap (λ (t : Task). is_true end.state t.goal) own,
    )
