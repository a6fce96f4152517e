-- What the selected rule chooses, and whether it may be taken.
use Rattle.std.proofs.Common.{◌≡◌, ℕ, ◌<◌, ◌≤◌, List, Bool, true, false, Option, Some, None, length, slice_get, subst, sym, ap, ◌∙◌, arith}
use Rattle.std.specs.Prelude.{◌&&◌, nat_le, nat_lt, option_map, option_and_then}
use Rattle.std.specs.List.{list_all}
use Rattle.std.proofs.lemmas.Option.{none-some, same_Some, slice_get_within, get_or_from_slice_get}
use Rattle.std.proofs.lemmas.Bool.{and_parts, true≢false}
use Rattle.std.proofs.lemmas.Bool.Decides.{nat_tests}
use Rattle.fond_state.specs.Cubes.{lies_in}
use Rattle.fond_task.specs.declared.task.Act.{Act}
use Rattle.fond_task.specs.declared.task.Task.{Task}
use Rattle.fond_task.proofs.Found.{all_at}
use Rattle.fond_task.specs.Truth.{is_true}
use Rattle.fond_task.specs.Within.{is_act_within, is_entry_within, is_form_within}
use Rattle.fond_task.specs.declared.rule.Rule.{Rule}
use Rattle.fond_task.specs.Policies.{IsApplicable, selected}
use Rattle.fond_rules.specs.Select.{selected_rule}
use Rattle.fond_rules.proofs.First.{found_first}
use Rattle.fond_rules.specs.Belongs.{AreActsThere}

pub differs : (b : Bool) → b ≡ false → ¬ b ≡ true
differs b fails holds = true≢false (sym holds ∙ fails)

-- the action of a rule is there
pub act_there : (task : Task) (rules : List Rule) (i : ℕ) (rule : Rule) → AreActsThere task rules → slice_get rules i ≡ Some rule → rule.act < length task.acts
act_there task rules i rule there is =
    let P : Rule → Type 0 = λ r. r.act < length task.acts in
    subst P (get_or_from_slice_get rules i rule rule is) (there i rule (slice_get_within rules i rule is))

module _ (rules : List Rule) (state : List Bool) where
  abbrev act_at : List Rule → ℕ → Option ℕ
  act_at rules n = option_map (λ rule. rule.act) (slice_get rules n)

  -- the policy chooses the action of the selected rule
  pub chooses : (n : ℕ) (rule : Rule) → selected_rule rules state ≡ Some n → slice_get rules n ≡ Some rule → selected rules state ≡ Some rule.act
  chooses n rule is at =
      sym (ap (option_map (λ rule. rule.act)) (found_first (λ rule. lies_in state rule.cond) rules))
      ∙ ap (λ o. option_map (λ rule. rule.act) (option_and_then (λ number. slice_get rules number) o)) is
      ∙ ap (option_map (λ rule. rule.act)) at

  -- if no rule is selected, the policy chooses no action
  pub none_chosen : (task : Task) → selected_rule rules state ≡ None → (number : ℕ) → selected rules state ≡ Some number → ¬ IsApplicable task state number
  none_chosen task is number chosen applicable =
      let none : selected rules state ≡ None =
      sym (ap (option_map (λ rule. rule.act)) (found_first (λ rule. lies_in state rule.cond) rules))
      ∙ ap (λ o. option_map (λ rule. rule.act) (option_and_then (λ number. slice_get rules number) o)) is in
      none-some number (sym none ∙ chosen)

  -- if the chosen action is not applicable, no other action is chosen
  pub none_applicable : (task : Task) (act : ℕ) (answer : Bool) → selected rules state ≡ Some act →
      ((a : Act) → slice_get task.acts act ≡ Some a → answer ≡ is_true state a.pre) → answer ≡ false →
      (number : ℕ) → selected rules state ≡ Some number → ¬ IsApplicable task state number
  none_applicable task act answer is told fails number chosen applicable =
      let same : number ≡ act = same_Some number act (sym chosen ∙ is) in
      let at : slice_get task.acts act ≡ Some applicable.act = ap (slice_get task.acts) (sym same) ∙ applicable.numbered in
      differs answer fails (told applicable.act at ∙ applicable.holds)

-- an action of a task has some outcomes, and few
pub counted_outcomes : (task : Task) (number : ℕ) (act : Act) → slice_get task.acts number ≡ Some act → (0 < length act.outcomes) × (length act.outcomes ≤ 256)
counted_outcomes task number act at =
    let within = all_at (is_act_within (length task.atoms)) task.acts number act task.acts_within at in
    let both = and_parts (is_form_within (length task.atoms) act.pre && nat_lt 0 (length act.outcomes) && nat_le (length act.outcomes) 256) (list_all (list_all (is_entry_within (length task.atoms))) act.outcomes) within in
    let counts = and_parts (is_form_within (length task.atoms) act.pre && nat_lt 0 (length act.outcomes)) (nat_le (length act.outcomes) 256) both.0 in
    let some : nat_lt 0 (length act.outcomes) ≡ true = (and_parts (is_form_within (length task.atoms) act.pre) (nat_lt 0 (length act.outcomes)) counts.0).1 in
    let few : nat_le (length act.outcomes) 256 ≡ true = counts.1 in
    (grind (arith, nat_tests, some), grind (arith, nat_tests, few))
