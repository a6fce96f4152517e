-- Rules, and the conditions and actions of these.
use Rattle.std.proofs.Common.{◌≡◌, ℕ, zero, suc, ◌<◌, List, [], ◌∷◌, Some, None, length, get_or, refl, sym, ap, ◌∙◌, subst}
use Rattle.std.specs.Prelude.{Option, slice_get, option_map}
use Rattle.std.proofs.lemmas.Option.{none-some, same_Some, slice_get_within, slice_get-get_or, get_or_from_slice_get}
use Rattle.fond_task.specs.declared.task.Task.{Task}
use Rattle.fond_task.specs.declared.rule.Rule.{Rule}
use Rattle.fond_rules.specs.Belongs.{BelongTo}
use Rattle.fond_policy.specs.Items.{First, first_of, firsts_of, AreFirstsOver, Belong}

-- the rule of a condition
pub rule_of : (rules : List Rule) (number : ℕ) (first : First) → slice_get (firsts_of rules) number ≡ Some first → (rule : Rule) × (slice_get rules number ≡ Some rule) × (first_of rule ≡ first)
rule_of [] number first is = absurd (none-some first is)
rule_of (rule ∷ rules) zero first is = (rule, refl, same_Some (first_of rule) first is)
rule_of (rule ∷ rules) (suc number) first is = rule_of rules number first is

-- the condition of a rule
pub first_at : (rules : List Rule) (number : ℕ) (rule : Rule) → slice_get rules number ≡ Some rule → slice_get (firsts_of rules) number ≡ Some (first_of rule)
first_at [] number rule is = absurd (none-some rule is)
first_at (one ∷ rules) zero rule is = ap (λ r. Some (first_of r)) (same_Some one rule is)
first_at (one ∷ rules) (suc number) rule is = first_at rules number rule is

-- the conditions of rules are over as many atoms as those of the list
pub over_at : (rules : List Rule) (number : ℕ) (rule : Rule) (atoms : ℕ) → AreFirstsOver atoms (firsts_of rules) → slice_get rules number ≡ Some rule → length rule.cond ≡ atoms
over_at rules number rule atoms over is = over number (first_of rule) (first_at rules number rule is)

-- the condition of an action that was found
pub of_act : (firsts : List First) (rule act : ℕ) → Some act ≡ option_map (λ (f : First). f.act) (slice_get firsts rule) → (first : First) × (slice_get firsts rule ≡ Some first) × (first.act ≡ act)
of_act firsts rule act is = go (slice_get firsts rule) refl is
  where
    go : (o : Option First) → slice_get firsts rule ≡ o → Some act ≡ option_map (λ (f : First). f.act) o → (first : First) × (slice_get firsts rule ≡ Some first) × (first.act ≡ act)
    go None at same = absurd (none-some act (sym same))
    go (Some first) at same = (first, at, sym (same_Some act first.act same))

-- rules belong to a task if and only if their conditions and actions do
pub firsts_belong : (task : Task) (rules : List Rule) → BelongTo task rules → Belong task (firsts_of rules)
firsts_belong task rules belong number first is =
    let rule = rule_of rules number first is in
    let within = slice_get_within rules number rule.0 rule.1 in
    let own : get_or rules number rule.0 ≡ rule.0 = get_or_from_slice_get rules number rule.0 rule.0 rule.1 in
    let over : length rule.0.cond ≡ length task.atoms = ap (λ (r : Rule). length r.cond) (sym own) ∙ belong.over number rule.0 within in
    let small : rule.0.act < length task.acts = subst (λ (r : Rule). r.act < length task.acts) own (belong.there number rule.0 within) in
    subst (λ (f : First). (length f.cond ≡ length task.atoms) × (f.act < length task.acts)) rule.2 (over, small)

pub rules_belong : (task : Task) (rules : List Rule) → Belong task (firsts_of rules) → BelongTo task rules
rules_belong task rules belong = record {
  over = λ number d small. let rule = get_or rules number d in (belong number (first_of rule) (first_at rules number rule (slice_get-get_or rules number d small))).0;
  there = λ number d small. let rule = get_or rules number d in (belong number (first_of rule) (first_at rules number rule (slice_get-get_or rules number d small))).1;
}
