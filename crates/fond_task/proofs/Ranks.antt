-- The rules of a correct policy certificate are a solution.
use Rattle.std.proofs.Common.{◌≡◌, ℕ, zero, suc, ◌<◌, ◌≤◌, List, Bool, true, Option, Some, None, length, get_or, refl, sym, ap, ◌∙◌, subst, arith}
use Rattle.std.specs.Prelude.{slice_get, Contains, IsTrue, find, option_map, IsSome}
use Rattle.std.proofs.lemmas.Bool.{false≢true}
use Rattle.std.proofs.lemmas.Option.{same_Some, slice_get_within, slice_get-get_or}
use Rattle.fond_state.specs.Cubes.{LiesIn, lies_in}
use Rattle.fond_state.proofs.Tested.{lies_in-Decides, LiesIn-through}
use Rattle.fond_task.specs.declared.form.Form.{Form}
use Rattle.fond_task.specs.declared.form.Kleene.{Kleene}
use Rattle.fond_task.specs.declared.form.Kleene.TheVariants.{Yes}
use Rattle.fond_task.specs.declared.task.Act.{Act}
use Rattle.fond_task.specs.declared.task.Task.{Task}
use Rattle.fond_task.specs.Truth.{is_true}
use Rattle.fond_task.specs.Steps.{next_state}
use Rattle.fond_task.specs.Values.{value}
use Rattle.fond_task.specs.Images.{image}
use Rattle.fond_task.proofs.Tells.{Tells, Tells-value}
use Rattle.fond_task.specs.declared.rule.Pair.{Pair}
use Rattle.fond_task.specs.declared.rule.Rule.{Rule}
use Rattle.fond_task.specs.declared.rule.Target.{Target}
use Rattle.fond_task.specs.declared.rule.Target.TheVariants.{Goal, Rule as ToRule}
use Rattle.fond_task.specs.declared.rule.Targets.{Targets}
use Rattle.fond_task.specs.declared.rule.Targets.TheVariants.{One, All}
use Rattle.fond_task.specs.Policies.{IsGoal, Reach, selected}
use Rattle.fond_task.specs.Solutions.{StaysIn, IsTrap, IsSolution}
use Rattle.fond_task.specs.Layers.{CubeView}
use Rattle.fond_task.specs.Rules.{Meets, IsEarlier, AreMet, IsSureRule}
use Rattle.fond_task.specs.Certificates.{IsRightPolicy}
use Rattle.fond_task.proofs.Lists.{Contains_numbered, number_of, same_numbered, found_by, found_at, something}
use Rattle.fond_task.proofs.Reached.{reached_long, next_lies}

pub yes_true : (state : List Bool) (cube : CubeView) (form : Form) → LiesIn state cube → value cube form ≡ Yes → is_true state form ≡ true
yes_true state cube form lies is = let P : Kleene → Type 0 = λ a. Tells a (is_true state form) in subst P is (Tells-value state cube lies form)

module _ (task : Task) (pairs : List Pair) (rules : List Rule) (sure : (number : ℕ) (rule : Rule) → slice_get rules number ≡ Some rule → IsSureRule task pairs rules number rule)
    (trap : List (List Bool)) (is : IsTrap task (selected rules) trap) where
  -- no state of the trap selects a rule below this number
  abbrev NoneBelow : ℕ → Type 0
  NoneBelow n = (state : List Bool) → Contains trap state → (number : ℕ) (rule : Rule) → number < n → slice_get rules number ≡ Some rule → ¬ find (λ rule. lies_in state rule.cond) rules ≡ Some rule

  -- a state of the trap lies in no cube that meets an earlier target
  none_met : (n : ℕ) → NoneBelow n → (number : ℕ) → number ≤ n → (after : List Bool) → Contains trap after → (cube : CubeView) → LiesIn after cube → (target : Target) → IsEarlier number target → ¬ Meets task rules cube target
  none_met n none number small after kept cube lies Goal early met = (is.each after kept).open_ (yes_true after cube task.goal lies met)
  none_met n none number small after kept cube lies (ToRule other) early met =
      let found = found_by (λ rule. lies_in after rule.cond) rules other met.0 met.1 ((lies_in-Decides after met.0.cond).1 (LiesIn-through after cube met.0.cond lies met.2)) in
      let lower : found.number < n = omega (arith, found.early, early) in
      none after kept found.number found.item lower found.numbered found.first

  -- the targets of a rule that a state of the trap selects are not met
  not_met : (n : ℕ) → NoneBelow n → (number : ℕ) → number ≤ n → (state : List Bool) → (stays : StaysIn task (selected rules) trap state) → (cond : CubeView) → LiesIn state cond →
      (act : Act) → slice_get task.acts stays.choice ≡ Some act → IsTrue (is_true state act.pre) → (targets : Targets) → ¬ AreMet task rules number cond act targets
  not_met n none number small state stays cond lies act numbered holds (One outcome target) met =
      let entries = met.2.0 in
      let one : Contains act.outcomes entries = Contains_numbered act.outcomes outcome entries met.2.1 in
      let kept = stays.fair (λ unfair. false≢true (sym met.0 ∙ ap (λ (a : Act). a.unfair) (same_numbered task.acts stays.choice act unfair.act numbered unfair.numbered) ∙ unfair.flagged))
      (next_state state entries) (record { act = act; numbered = numbered; holds = holds; outcome = entries; one = one; given = refl }) in
      let long = reached_long task (selected rules) state stays.reached in
      none_met n none number small (next_state state entries) kept (image cond entries) (next_lies task state cond act stays.choice entries long numbered one lies) target met.1 met.2.2
  not_met n none number small state stays cond lies act numbered holds (All targets) met =
      let kept = stays.unfair (record { act = act; numbered = numbered; flagged = met.0 }) in
      let after = kept.0 in
      let next = kept.1 in
      let same : next.act ≡ act = same_numbered task.acts stays.choice next.act act next.numbered numbered in
      let at = number_of next.act.outcomes next.outcome next.one in
      let has : slice_get act.outcomes at.0 ≡ Some next.outcome = ap (λ (a : Act). slice_get a.outcomes at.0) (sym same) ∙ at.1 in
      let within : at.0 < length act.outcomes = slice_get_within act.outcomes at.0 next.outcome has in
      let target = get_or targets at.0 Goal in
      let each = met.2 at.0 target next.outcome (slice_get-get_or targets at.0 Goal (omega (arith, met.1))) has in
      let long = reached_long task (selected rules) state stays.reached in
      let lies_next = next_lies task state cond act stays.choice next.outcome long numbered (Contains_numbered act.outcomes at.0 next.outcome has) lies in
      let P : List Bool → Type 0 = λ s. LiesIn s (image cond next.outcome) in
      none_met n none number small after kept.2 (image cond next.outcome) (subst P (sym next.given) lies_next) target each.0 each.1

  none_below : (n : ℕ) → NoneBelow n
  none_below zero state kept number rule lower numbered first = absurd (omega (arith, lower))
  none_below (suc n) state kept number rule lower numbered first =
      let stays = is.each state kept in
      let sure_rule = sure number rule numbered in
      let lies = (lies_in-Decides state rule.cond).0 (found_at (λ rule. lies_in state rule.cond) rules rule first).2 in
      let same : rule.act ≡ stays.choice = same_Some rule.act stays.choice (ap (option_map (λ (rule : Rule). rule.act)) (sym first) ∙ stays.chosen) in
      let numbered_act : slice_get task.acts stays.choice ≡ Some sure_rule.act = ap (slice_get task.acts) (sym same) ∙ sure_rule.has_act in
      let small : number ≤ n = omega (arith, lower) in
      not_met n (none_below n) number small state stays rule.cond lies sure_rule.act numbered_act (yes_true state rule.cond sure_rule.act.pre lies sure_rule.applicable) rule.targets sure_rule.met

-- sure rules are a solution if one holds in each reached state that is no goal
pub solution_by : (task : Task) (pairs : List Pair) (rules : List Rule) → ((number : ℕ) (rule : Rule) → slice_get rules number ≡ Some rule → IsSureRule task pairs rules number rule) →
    ((state : List Bool) → Reach task (selected rules) state → ¬ IsGoal task state → IsSome (selected rules state)) → IsSolution task (selected rules)
solution_by task pairs rules sure ruled = record {
  acts = λ state reached open_.
      let found = found_rule state reached open_ in
      let at = found_at (λ rule. lies_in state rule.cond) rules found.0 found.1 in
      let one = sure at.0 found.0 at.1 in
      let lies = (lies_in-Decides state found.0.cond).0 at.2 in (
        found.0.act,
        ap (option_map (λ (rule : Rule). rule.act)) found.1,
        record { act = one.act; numbered = one.has_act; holds = yes_true state found.0.cond one.act.pre lies one.applicable },
      );
  free = λ trap is.
      let stays = is.each is.some.0 is.some.1 in
      let found = found_rule is.some.0 stays.reached stays.open_ in
      let at = found_at (λ rule. lies_in is.some.0 rule.cond) rules found.0 found.1 in
      none_below task pairs rules sure trap is (suc at.0) is.some.0 is.some.1 at.0 found.0 (omega arith) at.1 found.1;
}
  where
    found_rule : (state : List Bool) → Reach task (selected rules) state → ¬ IsGoal task state → (rule : Rule) × (find (λ rule. lies_in state rule.cond) rules ≡ Some rule)
    found_rule state reached open_ = something (find (λ rule. lies_in state rule.cond) rules) (is_some_from (find (λ rule. lies_in state rule.cond) rules) (ruled state reached open_))
      where
        is_some_from : (o : Option Rule) → IsSome (option_map (λ (rule : Rule). rule.act) o) → IsSome o
        is_some_from None has = has
        is_some_from (Some rule) has = refl

-- ranks exclude traps
pub ranks_exclude : (task : Task) (layers : List (List CubeView)) (pairs : List Pair) (rules : List Rule) (reach : ℕ) → IsRightPolicy task layers pairs rules reach → IsSolution task (selected rules)
ranks_exclude task layers pairs rules reach right = solution_by task pairs rules right.rules_sure right.ruled
