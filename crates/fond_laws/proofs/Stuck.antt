-- No trace of a solution gets stuck, and so none of a correct policy.
use Rattle.std.proofs.Common.{◌≡◌, ℕ, List, Some, length, slice_get, refl, sym, subst}
use Rattle.fond_ast.specs.declared.task.LiftedTask.{LiftedTask}
use Rattle.fond_state.specs.Games.{start, onward}
use Rattle.fond_ast.proofs.Come.{outcomes-come-next}
use Rattle.fond_ast.specs.Outcomes.{Literal, outcomes, state_after}
use Rattle.fond_ast.specs.Solutions.{IsNext, IsSolution, Reach}
use Rattle.fond_ast.specs.States.{State}
use Rattle.fond_text.specs.declared.atom.GroundAction.{GroundAction}
use Rattle.fond_task.specs.declared.task.Task.{Task}
use Rattle.fond_task.proofs.Lists.{Contains-map, Contains_numbered}
use Rattle.fond_task.specs.declared.rule.Rule.{Rule}
use Rattle.fond_succ.specs.Solutions.{rules_policy}
use Rattle.fond_state.specs.Traces.{Pick, TraceOf}
use Rattle.fond_succ.specs.Traces.{Choose, Trace}
use Rattle.fond_commands.specs.Certified.{rules_of}
use Rattle.fond_ground.specs.Grounds.{IsGroundOf}
use Rattle.fond_policy.proofs.Covered.{covers_solve}
use Rattle.fond_policy.specs.Parts.{IsRight}
use Rattle.fond_policy.specs.declared.cert.Cert.{Cert}
use Rattle.fond_policy.specs.declared.cert.Cert.TheVariants.{Policy, Refusal, Covered}
use Rattle.fond_succ.proofs.Between.{ground-tasks-agree}
use Rattle.fond_task.proofs.Ranks.{ranks_exclude}
use Rattle.fond_task.specs.Policies.{selected}
use Rattle.fond_laws.specs.Replies.{CorrectPoliciesNeverStick, IsPolicyCert, SolutionsNeverStick}
use Rattle.fond_laws.specs.Stuck.{EndsStuck}

module _ (task : LiftedTask) (game : Task) (rules : List Rule) (solves : IsSolution task (rules_policy task game rules)) where
  -- an outcome of the chosen action leads to a state that may come next
  comes_next : (state : State) (action : GroundAction) (choices : List (List Literal)) (number : ℕ) (outcome : List Literal) → Choose task game rules state action choices → slice_get choices number ≡ Some outcome
      → IsNext task state action (state_after state outcome)
  comes_next state action choices number outcome choose at =
      let all = outcomes action.objects choose.schema.effect in
      let here : slice_get all number ≡ Some outcome = subst (λ (cs : List (List Literal)). slice_get cs number ≡ Some outcome) choose.choices_are at in
      (outcomes-come-next task state action choose.schema choose.numbered choose.applicable (state_after state outcome)).1
      (Contains-map (state_after state) all outcome (Contains_numbered all number outcome here))

  never : (pick : Pick) (state : State) (words lines : List ℕ) (last : State) → Reach task (rules_policy task game rules) state → (trace : Trace pick task game rules state words lines last) → ¬ EndsStuck trace
  never pick state words lines last reached (TraceOf.goal at left is) stuck = stuck
  never pick state words lines last reached (TraceOf.ended at open_) stuck = stuck
  never pick state words lines last reached (TraceOf.stuck at word left open_ none) stuck =
      let choice = solves.acts at reached open_ in
      let applies = choice.2 in
      let outcomes_are = outcomes choice.0.objects applies.schema.effect in
      none (choice.0, outcomes_are) (record { chosen = choice.1; applicable = applies; schema = applies.schema; numbered = applies.numbered; choices_are = refl })
  never pick state words lines last reached (TraceOf.bad_outcome at word left choice open_ chosen over) stuck = stuck
  never pick state words lines last reached (TraceOf.took at word left choice line next text end open_ choose leads later) stuck =
      let outcome = leads.3.0 in
      let comes : IsNext task at choice.0 next = subst (IsNext task at choice.0) (sym leads.3.2) (comes_next at choice.0 choice.1 (pick (length choice.1) word) outcome choose leads.3.1) in
      never pick next left text end (onward at choice.0 next reached open_ choose.chosen comes) later stuck

pub never_stuck : SolutionsNeverStick
never_stuck pick task game rules words lines last solves trace = never task game rules solves pick _ words lines last start trace

-- the rules of a correct policy are a solution
right_solves : (task : LiftedTask) (game : Task) (read : Cert) → IsGroundOf task game → IsRight game read → IsPolicyCert read → IsSolution task (rules_policy task game (rules_of read))
right_solves task game (Policy layers pairs rules reach) is right policy = ((ground-tasks-agree task game is).solution (selected rules)).0 (ranks_exclude game layers pairs rules reach right)
right_solves task game (Covered layers pairs rules items from) is right policy = ((ground-tasks-agree task game is).solution (selected rules)).0 (covers_solve game layers pairs rules items from right)
right_solves task game (Refusal layers) is right policy = absurd policy

pub correct_never_stuck : CorrectPoliciesNeverStick
correct_never_stuck pick task game read words lines last is right policy trace = never_stuck pick task game (rules_of read) words lines last (right_solves task game read is right policy) trace
