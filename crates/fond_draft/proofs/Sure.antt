-- Rules over whole states are sure, and lean rules stay lean beside more rules.
use Rattle.std.proofs.Common.{◌≡◌, ℕ, zero, suc, ◌<◌, ◌≤◌, List, [], ◌∷◌, ◌++◌, Bool, true, Some, length, take, slice_get, refl, sym, ap, ◌∙◌, subst, ⊎_elim, arith}
use Rattle.std.specs.Prelude.{if◌then◌else◌, ◌&&◌, nat_le, nat_lt}
use Rattle.std.specs.List.{list_all}
use Rattle.std.proofs.lemmas.Bool.{and_parts}
use Rattle.std.proofs.lemmas.Bool.Decides.{nat_tests}
use Rattle.std.proofs.lemmas.List.Elements.{All-nil}
use Rattle.std.proofs.lemmas.Option.{get_or_from_slice_get, none-some, slice_get_within}
use Rattle.fond_state.specs.Cubes.{full_cube, without_literal}
use Rattle.fond_task.proofs.Exact.{exact-value, exact-image}
use Rattle.fond_task.proofs.Found.{all_at}
use Rattle.fond_task.specs.Images.{image}
use Rattle.fond_task.specs.Steps.{next_state}
use Rattle.fond_task.specs.Truth.{is_true}
use Rattle.fond_task.specs.Values.{value}
use Rattle.fond_task.specs.Within.{is_act_within, is_entry_within, is_form_within}
use Rattle.fond_task.specs.declared.form.Form.{Form}
use Rattle.fond_task.specs.declared.form.Kleene.TheVariants.{No, Yes}
use Rattle.fond_task.specs.declared.task.Act.{Act}
use Rattle.fond_task.specs.declared.task.Entry.{Entry}
use Rattle.fond_task.specs.declared.task.Task.{Task}
use Rattle.fond_task.proofs.Reached.{length-next_state}
use Rattle.fond_task.specs.Layers.{CubeView}
use Rattle.fond_task.specs.Rules.{AreMet, IsEarlier, IsLeanRule, IsSureRule, Meets}
use Rattle.fond_task.specs.declared.rule.Pair.{Pair}
use Rattle.fond_task.specs.declared.rule.Rule.{Rule}
use Rattle.fond_task.specs.declared.rule.Target.{Target}
use Rattle.fond_task.specs.declared.rule.Target.TheVariants.{Goal, Rule as ToRule}
use Rattle.fond_task.specs.declared.rule.Targets.{Targets}
use Rattle.fond_task.specs.declared.rule.Targets.TheVariants.{One, All}
use Rattle.fond_rules.proofs.Earlier.{sure_all, sure_front}
use Rattle.fond_rules.specs.Belongs.{BelongTo}
use Rattle.fond_rules.specs.Targets.{AllContradict}
use Rattle.fond_explicit.specs.Answers.{ChoiceView}
use Rattle.fond_draft.specs.Drafts.{AreLeanRules}
use Rattle.fond_draft.specs.Plans.{IsReady}
use Rattle.fond_draft.specs.Targets.{AreTargets, LeadsOn}
use Rattle.fond_draft.proofs.Full.{full_lies}
use Rattle.fond_draft.proofs.Lists.{all_numbered, push_cases}

-- a form that is true in a state is Yes on its full cube
full_yes : (state : List Bool) (form : Form) → is_form_within (length state) form ≡ true → is_true state form ≡ true → value (full_cube state) form ≡ Yes
full_yes state form within holds = exact-value state form within ∙ ap (λ b. if b then Yes else No) holds

-- the precondition and the outcomes of an action are over the atoms of its task
pub act_within : (task : Task) (number : ℕ) (act : Act) → slice_get task.acts number ≡ Some act
    → (is_form_within (length task.atoms) act.pre ≡ true) × (list_all (list_all (is_entry_within (length task.atoms))) act.outcomes ≡ true)
act_within task number act at =
    let within : is_act_within (length task.atoms) act ≡ true = all_at (is_act_within (length task.atoms)) task.acts number act task.acts_within at in
    let both = and_parts (is_form_within (length task.atoms) act.pre && nat_lt 0 (length act.outcomes) && nat_le (length act.outcomes) 256) (list_all (list_all (is_entry_within (length task.atoms))) act.outcomes) within in
    let front = and_parts (is_form_within (length task.atoms) act.pre && nat_lt 0 (length act.outcomes)) (nat_le (length act.outcomes) 256) both.0 in
    ((and_parts (is_form_within (length task.atoms) act.pre) (nat_lt 0 (length act.outcomes)) front.0).0, both.1)

-- an action has an outcome
pub has_outcome : (task : Task) (number : ℕ) (act : Act) → slice_get task.acts number ≡ Some act → 0 < length act.outcomes
has_outcome task number act at =
    let within : is_act_within (length task.atoms) act ≡ true = all_at (is_act_within (length task.atoms)) task.acts number act task.acts_within at in
    let both = and_parts (is_form_within (length task.atoms) act.pre && nat_lt 0 (length act.outcomes) && nat_le (length act.outcomes) 256) (list_all (list_all (is_entry_within (length task.atoms))) act.outcomes) within in
    let front = and_parts (is_form_within (length task.atoms) act.pre && nat_lt 0 (length act.outcomes)) (nat_le (length act.outcomes) 256) both.0 in
    let some : nat_lt 0 (length act.outcomes) ≡ true = (and_parts (is_form_within (length task.atoms) act.pre) (nat_lt 0 (length act.outcomes)) front.0).1 in
    grind (arith, nat_tests, some)

-- the image of the full cube of a state is that of the next one
pub full_image : (task : Task) (number : ℕ) (act : Act) (state : List Bool) (at : ℕ) (entries : List Entry) → slice_get task.acts number ≡ Some act → length state ≡ length task.atoms
    → slice_get act.outcomes at ≡ Some entries → image (full_cube state) entries ≡ full_cube (next_state state entries)
full_image task number act state at entries numbered long is =
    let within : list_all (is_entry_within (length task.atoms)) entries ≡ true = all_at (list_all (is_entry_within (length task.atoms))) act.outcomes at entries (act_within task number act numbered).1 is in
    exact-image state entries (ap (λ n. list_all (is_entry_within n) entries) long ∙ within)

-- the condition of a rule that belongs to a task is over its atoms
pub over_at : (task : Task) (rules : List Rule) → BelongTo task rules → (number : ℕ) (rule : Rule) → slice_get rules number ≡ Some rule → length rule.cond ≡ length task.atoms
over_at task rules belong number rule at =
    let P : Rule → Type 0 = λ r. length r.cond ≡ length task.atoms in
    subst P (get_or_from_slice_get rules number rule rule at) (belong.over number rule (slice_get_within rules number rule at))

-- the first elements of a list are those of a longer one
take_front : {X : Type 0} (xs more : List X) (number : ℕ) → number ≤ length xs → take number (xs ++ more) ≡ take number xs
take_front xs more zero small = refl
take_front [] more (suc number) small = absurd (omega (arith, small))
take_front (x ∷ xs) more (suc number) small = ap (λ zs. x ∷ zs) (take_front xs more number (omega (arith, small)))

module _ (task : Task) (pairs : List Pair) (rules more : List Rule) (number : ℕ) (small : number ≤ length rules) where
  front_is : take number (rules ++ more) ≡ take number rules
  front_is = take_front rules more number small

  sure_more : (rule : Rule) → IsSureRule task pairs rules number rule → IsSureRule task pairs (rules ++ more) number rule
  sure_more rule sure = sure_all task pairs (rules ++ more) number rule (subst (λ (front : List Rule). IsSureRule task pairs front number rule) (sym front_is) (sure_front task pairs rules number rule sure))

  sure_fewer : (rule : Rule) → IsSureRule task pairs (rules ++ more) number rule → IsSureRule task pairs rules number rule
  sure_fewer rule sure = sure_all task pairs rules number rule (subst (λ (front : List Rule). IsSureRule task pairs front number rule) front_is (sure_front task pairs (rules ++ more) number rule sure))

  -- a lean rule is lean beside further rules
  pub lean_more : (rule : Rule) → IsLeanRule task pairs rules number rule → IsLeanRule task pairs (rules ++ more) number rule
  lean_more rule lean = record {
    sure = sure_more rule lean.sure;
    needs = λ atom sign is less. lean.needs atom sign is (sure_fewer (record rule { cond = without_literal rule.cond atom }) less);
  }

-- lean rules are lean after a further rule is added that is lean after them
pub lean_pushed : (task : Task) (pairs : List Pair) (rules : List Rule) (rule : Rule) → AreLeanRules task pairs rules → length rule.cond ≡ length task.atoms → IsLeanRule task pairs rules (length rules) rule → AreLeanRules task pairs (rules ++ rule ∷ [])
lean_pushed task pairs rules rule are over lean = record {
  belong = record {
    over = all_numbered (λ (r : Rule). length r.cond ≡ length task.atoms) (rules ++ rule ∷ []) (λ number other at. ⊎_elim
        (λ was. slice_over number other was)
        (λ last. subst (λ (r : Rule). length r.cond ≡ length task.atoms) last.1 over)
        (push_cases rules rule number other at));
    there = all_numbered (λ (r : Rule). r.act < length task.acts) (rules ++ rule ∷ []) (λ number other at. there_by (each number other at));
  };
  lean = each;
}
  where
    slice_over : (number : ℕ) (other : Rule) → slice_get rules number ≡ Some other → length other.cond ≡ length task.atoms
    slice_over number other at = over_at task rules are.belong number other at

    each : (number : ℕ) (other : Rule) → slice_get (rules ++ rule ∷ []) number ≡ Some other → IsLeanRule task pairs (rules ++ rule ∷ []) number other
    each number other at = ⊎_elim
        (λ was. let within = slice_get_within rules number other was in lean_more task pairs rules (rule ∷ []) number (omega (arith, within)) other (are.lean number other was))
        (λ last. subst (λ (n : ℕ). IsLeanRule task pairs (rules ++ rule ∷ []) n other) (sym last.0)
        (subst (λ (r : Rule). IsLeanRule task pairs (rules ++ rule ∷ []) (length rules) r) last.1 (lean_more task pairs rules (rule ∷ []) (length rules) (omega arith) rule lean)))
        (push_cases rules rule number other at)

    there_by : {number : ℕ} {other : Rule} → IsLeanRule task pairs (rules ++ rule ∷ []) number other → other.act < length task.acts
    there_by {number} {other} its = slice_get_within task.acts other.act its.sure.act its.sure.has_act

module _ (task : Task) (pairs : List Pair) (rules : List Rule) (belong : BelongTo task rules) where
  -- the full cube of a state meets a target that leads on from it, which is earlier than a further rule
  meets_on : (state : List Bool) (target : Target) → length state ≡ length task.atoms → LeadsOn task rules state target → IsEarlier (length rules) target × Meets task rules (full_cube state) target
  meets_on state Goal long is = (tt, full_yes state task.goal (ap (λ n. is_form_within n task.goal) long ∙ task.goal_within) is)
  meets_on state (ToRule number) long holds = (
    slice_get_within rules number holds.rule holds.numbered,
    (holds.rule, holds.numbered, full_lies state holds.rule.cond (over_at task rules belong number holds.rule holds.numbered ∙ sym long) holds.lies),
  )

  module _ (choice : ChoiceView) (ready : IsReady task rules choice) where
    next_long : (entries : List Entry) → length (next_state choice.state entries) ≡ length task.atoms
    next_long entries = length-next_state choice.state entries ∙ ready.long

    met_by : (targets : Targets) → AreTargets task rules choice.state ready.applicable.act targets → AreMet task rules (length rules) (full_cube choice.state) ready.applicable.act targets
    met_by (One outcome target) are =
        let entries = are.1.0 in
        let led = meets_on (next_state choice.state entries) target (next_long entries) are.1.2 in
        let image_is = full_image task choice.act ready.applicable.act choice.state outcome entries ready.applicable.numbered ready.long are.1.1 in
        (are.0, led.0, (entries, are.1.1, subst (λ (c : CubeView). Meets task rules c target) (sym image_is) led.1))
    met_by (All targets) are = (
      are.0,
      are.1,
      λ at target entries is also.
          let led = meets_on (next_state choice.state entries) target (next_long entries) (are.2 at target entries is also) in
          let image_is = full_image task choice.act ready.applicable.act choice.state at entries ready.applicable.numbered ready.long also in
          (led.0, subst (λ (c : CubeView). Meets task rules c target) (sym image_is) led.1),
    )

    -- the rule of a choice that is ready, over its whole state, is sure after the rules
    pub sure_full : (targets : Targets) → AllContradict pairs choice.act (full_cube choice.state) → ((act : Act) → slice_get task.acts choice.act ≡ Some act → AreTargets task rules choice.state act targets)
        → IsSureRule task pairs rules (length rules) (record { cond = full_cube choice.state; act = choice.act; targets = targets })
    sure_full targets unbarred targeted = record {
      act = ready.applicable.act;
      has_act = ready.applicable.numbered;
      applicable = full_yes choice.state ready.applicable.act.pre (ap (λ n. is_form_within n ready.applicable.act.pre) ready.long ∙ (act_within task choice.act ready.applicable.act ready.applicable.numbered).0) ready.applicable.holds;
      barred = unbarred;
      met = met_by targets (targeted ready.applicable.act ready.applicable.numbered);
    }

-- no rules are lean rules
pub lean_none : (task : Task) (pairs : List Pair) → AreLeanRules task pairs []
lean_none task pairs = record {
  belong = record { over = All-nil (λ (rule : Rule). length rule.cond ≡ length task.atoms); there = All-nil (λ (rule : Rule). rule.act < length task.acts) };
  lean = λ number rule at. absurd (none-some rule at);
}
