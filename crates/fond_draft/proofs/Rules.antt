-- The rule that is selected in a state holds in it, and where none is selected, none holds.
use Rattle.std.proofs.Common.{◌≡◌, ℕ, ◌<◌, List, [], ◌∷◌, ◌++◌, Bool, true, false, Option, Some, None, length, cond, slice_get, refl, sym, ap, ◌∙◌, arith}
use Rattle.std.specs.Prelude.{find, nat_lt, option_and_then}
use Rattle.std.specs.List.{position_or_len}
use Rattle.std.specs.Option.{is_some}
use Rattle.std.proofs.lemmas.Bool.{false≢true}
use Rattle.std.proofs.lemmas.Bool.Decides.{nat_tests}
use Rattle.std.proofs.lemmas.Option.{none-some, same_Some}
use Rattle.fond_task.proofs.Lists.{found_at, found_by}
use Rattle.fond_task.specs.declared.rule.Rule.{Rule}
use Rattle.fond_rules.proofs.First.{found_first}
use Rattle.fond_rules.specs.Select.{selected_rule}
use Rattle.fond_state.proofs.Tested.{lies_in-Decides}
use Rattle.fond_state.specs.Cubes.{LiesIn, lies_in}
use Rattle.fond_draft.specs.Targets.{HasRule, HoldsIn}
use Rattle.fond_draft.proofs.Lists.{element_at, push_keeps, push_last}

module _ (rules : List Rule) (state : List Bool) where
  abbrev test : Rule → Bool
  test rule = lies_in state rule.cond

  number_within : (n : ℕ) → selected_rule rules state ≡ Some n → n < length rules
  number_within n is = by (nat_lt (position_or_len test rules) (length rules)) refl is
    where
      by : (b : Bool) → nat_lt (position_or_len test rules) (length rules) ≡ b → cond b (Some (position_or_len test rules)) None ≡ Some n → n < length rules
      by true small same = let at = same_Some (position_or_len test rules) n same in grind (arith, nat_tests, small, at)
      by false small same = absurd (none-some n same)

  -- the rule that is selected holds
  pub selected_holds : (n : ℕ) → selected_rule rules state ≡ Some n → HoldsIn rules n state
  selected_holds n is =
      let one = element_at rules n (number_within n is) in
      let first : find test rules ≡ Some one.0 = sym (found_first test rules) ∙ ap (option_and_then (λ number. slice_get rules number)) is ∙ one.1 in
      record { rule = one.0; numbered = one.1; lies = (lies_in-Decides state one.0.cond).0 (found_at test rules one.0 first).2 }

  -- if none is selected, none holds
  pub selected_none : selected_rule rules state ≡ None → ¬ HasRule rules state
  selected_none is has =
      let holds = has.1 in
      let found = found_by test rules has.0 holds.rule holds.numbered ((lies_in-Decides state holds.rule.cond).1 holds.lies) in
      none-some found.item (ap (option_and_then (λ number. slice_get rules number)) (sym is) ∙ found_first test rules ∙ found.first)

  -- where one is selected, one holds
  pub has_selected : is_some (selected_rule rules state) ≡ true → HasRule rules state
  has_selected is = by (selected_rule rules state) refl is
    where
      by : (o : Option ℕ) → selected_rule rules state ≡ o → is_some o ≡ true → HasRule rules state
      by None same never = absurd (false≢true never)
      by (Some n) same some = (n, selected_holds n same)

  -- where one holds, one is selected
  pub selects : HasRule rules state → is_some (selected_rule rules state) ≡ true
  selects has = by (selected_rule rules state) refl
    where
      by : (o : Option ℕ) → selected_rule rules state ≡ o → is_some o ≡ true
      by None same = absurd (selected_none same has)
      by (Some n) same = refl

-- where a rule held, it holds beside further rules
pub holds_more : (rules more : List Rule) (state : List Bool) → HasRule rules state → HasRule (rules ++ more) state
holds_more rules more state has = (has.0, record { rule = has.1.rule; numbered = push_keeps rules more has.0 has.1.rule has.1.numbered; lies = has.1.lies })

-- a rule that is added holds where its condition does
pub holds_last : (rules : List Rule) (rule : Rule) (state : List Bool) → LiesIn state rule.cond → HasRule (rules ++ rule ∷ []) state
holds_last rules rule state lies = (length rules, record { rule = rule; numbered = push_last rules rule; lies = lies })
