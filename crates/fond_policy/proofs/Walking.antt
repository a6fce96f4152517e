-- The walk through the states that a policy reaches.
use Rattle.std.proofs.Common.{inl, inr, ◌≡◌, ℕ, ◌+◌, ◌<◌, ◌≤◌, List, ◌∷◌, [], ◌++◌, Bool, true, false, Option, Some, None, length, get_or, slice_get, refl, sym, ap, ◌∙◌, subst, ⊎_elim, arith}
use Rattle.std.specs.Prelude.{◌⊎◌, ◌&&◌, nat_le, nat_lt, find, option_map, option_and_then, Contains, IsSome, IfSome, MatchOption}
use Rattle.std.specs.List.{list_all}
use Rattle.std.specs.Option.{is_some}
use Rattle.std.proofs.lemmas.Bool.Decides.{nat_tests}
use Rattle.std.proofs.lemmas.Bool.{and_parts, cases_lt, true≢false}
use Rattle.std.proofs.lemmas.List.{append_assoc, append-nil, get_or_append_left, length-append}
use Rattle.std.proofs.lemmas.List.Elements.{Contains-append_left, Contains-append_cases}
use Rattle.std.proofs.lemmas.Option.{slice_get-get_or, slice_get_within, get_or_from_slice_get, same_Some}
use Rattle.fond_task.specs.declared.task.Task.{Task}
use Rattle.fond_task.specs.declared.rule.Rule.{Rule}
use Rattle.fond_task.specs.Policies.{Reach, selected, start, onward}
use Rattle.fond_task.proofs.Lists.{Contains_numbered, Contains-cases, Contains-here, found_at, number_of}
use Rattle.fond_task.specs.Rules.{IsSureRule}
use Rattle.fond_task.specs.declared.rule.Pair.{Pair}
use Rattle.fond_rules.proofs.First.{found_first}
use Rattle.fond_rules.specs.Belongs.{AreActsThere}
use Rattle.fond_rules.specs.Select.{selected_rule}
use Rattle.fond_state.proofs.Tested.{lies_in-Decides}
use Rattle.fond_state.specs.Cubes.{lies_in}
use Rattle.fond_store.specs.Stores.{Adds}
use Rattle.fond_task.proofs.Found.{all_at}
use Rattle.fond_task.proofs.Tells.{Tells, Tells-value}
use Rattle.fond_task.specs.Truth.{is_true}
use Rattle.fond_task.specs.Values.{value}
use Rattle.fond_task.specs.Within.{is_act_within, is_entry_within, is_form_within}
use Rattle.fond_task.specs.declared.form.Kleene.{Kleene}
use Rattle.fond_task.specs.declared.form.Kleene.TheVariants.{Yes}
use Rattle.fond_task.specs.declared.task.Act.{Act}
use Rattle.fond_policy.specs.Counts.{IsUnruled}
use Rattle.fond_policy.specs.Walks.{Grows, IsClosed, IsRuled, Expands, IsWalk, IsUnruledAmong, IsUnruledOne, IsNumbered, first_unruled}

abbrev States : Type 0
States = List (List Bool)

-- no state is added
pub grows_none : (Is : List Bool → Type 0) (states : States) → Grows Is states states
grows_none Is states = ([], sym (append-nil states), λ state has. absurd (slice_get_nothing state has))
  where
    slice_get_nothing : (state : List Bool) → Contains [] state → ⊥
    slice_get_nothing state has = omega (arith, has.1)

-- states grow twice
pub grows_twice : (Is : List Bool → Type 0) (one two three : States) → Grows Is one two → Grows Is two three → Grows Is one three
grows_twice Is one two three first second = (
  first.0 ++ second.0,
  second.1 ∙ ap (λ zs. zs ++ second.0) first.1 ∙ append_assoc one first.0 second.0,
  λ state has. ⊎_elim (λ left. first.2 state left) (λ right. second.2 state right) (Contains-append_cases first.0 second.0 state has),
)

-- of states that are added something weaker holds
pub grows_weaker : (Is Also : List Bool → Type 0) (one two : States) → ((state : List Bool) → Is state → Also state) → Grows Is one two → Grows Also one two
grows_weaker Is Also one two weaker grown = (grown.0, grown.1, λ state has. weaker state (grown.2 state has))

-- states that were there are there
pub grown_has : (Is : List Bool → Type 0) (old new : States) → Grows Is old new → (state : List Bool) → Contains old state → Contains new state
grown_has Is old new grown state has = subst (λ (s : States). Contains s state) (sym grown.1) (Contains-append_left old grown.0 state has)

-- a state that is there was there or was added
pub grown_cases : (Is : List Bool → Type 0) (old new : States) → Grows Is old new → (state : List Bool) → Contains new state → Contains old state ⊎ Is state
grown_cases Is old new grown state has = ⊎_elim
    (λ was. inl was)
    (λ added. inr (grown.2 state added))
    (Contains-append_cases old grown.0 state (subst (λ (s : States). Contains s state) grown.1 has))

-- states that were there have their numbers
pub grown_at : (Is : List Bool → Type 0) (old new : States) → Grows Is old new → (number : ℕ) (state : List Bool) → number < length old → slice_get new number ≡ Some state → slice_get old number ≡ Some state
grown_at Is old new grown number state small at =
    slice_get-get_or old number state small
    ∙ ap (λ s. Some s) (sym (get_or_append_left old grown.0 state number small) ∙ ap (λ (s : States). get_or s number state) (sym grown.1) ∙ get_or_from_slice_get new number state state at)

pub grown_keeps : (Is : List Bool → Type 0) (old new : States) → Grows Is old new → (number : ℕ) (state : List Bool) → slice_get old number ≡ Some state → slice_get new number ≡ Some state
grown_keeps Is old new grown number state at =
    let small : number < length old = slice_get_within old number state at in
    let kept : get_or new number state ≡ state = ap (λ (s : States). get_or s number state) grown.1 ∙ get_or_append_left old grown.0 state number small ∙ get_or_from_slice_get old number state state at in
    let lengths : length new ≡ length old + length grown.0 = ap length grown.1 ∙ length-append old grown.0 in
    slice_get-get_or new number state (omega (arith, small, lengths)) ∙ ap (λ s. Some s) kept

-- a state that is found is there
pub found_there : (states : States) (state : List Bool) (found : Option ℕ) → MatchOption found (¬ Contains states state) (λ n. slice_get states n ≡ Some state) → is_some found ≡ true → Contains states state
found_there states state None is some = absurd (true≢false (sym some))
found_there states state (Some number) is some = Contains_numbered states number state is

module _ (P : List Bool → Type 0) (old new : States) (state copy : List Bool) (number : ℕ) (same : copy ≡ state) (adds : Adds old copy number new) where
  -- a state that is added is there
  pub added_has : Contains new state
  added_has = subst (λ (s : List Bool). Contains new s) same (Contains_numbered new number copy adds.numbered)

  -- states grow by one that is added
  pub added_grows : P state → Grows P old new
  added_grows holds = by adds.kept_or_last
    where
      by : (Contains old copy × (new ≡ old)) ⊎ ((¬ Contains old copy) × (number ≡ length old) × (new ≡ old ++ copy ∷ [])) → Grows P old new
      by (inl kept) = subst (Grows P old) (sym kept.1) (grows_none P old)
      by (inr last) = (
        copy ∷ [],
        last.2,
        λ s has. ⊎_elim
            (λ (here : copy ≡ s). subst P (sym same ∙ here) holds)
            (λ rest. absurd (omega (arith, rest.1)))
            (Contains-cases s copy [] has),
      )

module _ (task : Task) (rules : List Rule) where
  -- a walk that has done one state more
  pub walk_more : (old new : States) (done : ℕ) (state : List Bool) (ruled : Bool) → slice_get old done ≡ Some state → Expands task rules state old new ruled → IsWalk task rules old done → IsWalk task rules new (done + 1)
  walk_more old new done state ruled at visited walk = record {
    first = grown_has _ old new visited.grows task.init walk.first;
    reached = λ after has. ⊎_elim
        (λ was. walk.reached after was)
        (λ added. onward state added.1.0 after (walk.reached state (Contains_numbered old done state at)) added.0 added.1.1 added.1.2)
        (grown_cases _ old new visited.grows after has);
    closed = λ number one small is. ⊎_elim
        (λ lt.
        let was : slice_get old number ≡ Some one = grown_at _ old new visited.grows number one (omega (arith, lt, slice_get_within old done state at)) is in
        λ open_ act after chosen next. grown_has _ old new visited.grows after (walk.closed number one lt was open_ act after chosen next))
        (λ ge.
        let same : number ≡ done = omega (arith, small, ge) in
        let one_is : state ≡ one = same_Some state one (sym (grown_keeps _ old new visited.grows done state at) ∙ ap (slice_get new) (sym same) ∙ is) in
        subst (λ (s : List Bool). IsClosed task rules new s) one_is visited.closed)
        (cases_lt number done);
  }

  -- a walk that has done all states has each reached one
  pub walk_all : (states : States) (done : ℕ) → length states ≤ done → IsWalk task rules states done → (state : List Bool) → Reach task (selected rules) state → Contains states state
  walk_all states done end walk state start = walk.first
  walk_all states done end walk state (onward before act after reached open_ chosen next) =
      let at = number_of states before (walk_all states done end walk before reached) in
      let within : at.0 < length states = slice_get_within states at.0 before at.1 in
      walk.closed at.0 before (omega (arith, within, end)) at.1 open_ act after chosen next

  -- one state more was tried
  pub open_more : (old new : States) (done : ℕ) (state : List Bool) (ruled : Bool) (found : Option ℕ) → slice_get old done ≡ Some state → Expands task rules state old new ruled → IsWalk task rules old done
      → IsUnruledAmong task rules old done found → IsUnruledAmong task rules new (done + 1) (first_unruled ruled done found)
  open_more old new done state true None at visited walk among = λ number one small is. ⊎_elim
      (λ lt. among number one lt (grown_at _ old new visited.grows number one (omega (arith, lt, slice_get_within old done state at)) is))
      (λ ge.
      let same : number ≡ done = omega (arith, small, ge) in
      let one_is : state ≡ one = same_Some state one (sym (grown_keeps _ old new visited.grows done state at) ∙ ap (slice_get new) (sym same) ∙ is) in
      subst (λ (s : List Bool). IsRuled task rules s) one_is visited.answer)
      (cases_lt number done)
  open_more old new done state false None at visited walk among =
      (state, grown_keeps _ old new visited.grows done state at, record { reached = walk.reached state (Contains_numbered old done state at); open_ = visited.answer.0; none = visited.answer.1 })
  open_more old new done state true (Some found) at visited walk among = (among.0, grown_keeps _ old new visited.grows found among.0 among.1, among.2)
  open_more old new done state false (Some found) at visited walk among = (among.0, grown_keeps _ old new visited.grows found among.0 among.1, among.2)

  -- a number that is found is that of a state
  pub open_below : (states : States) (done : ℕ) (found : Option ℕ) → IsUnruledAmong task rules states done found → IfSome found (λ n. n < length states)
  open_below states done None among = tt
  open_below states done (Some number) among = slice_get_within states number among.0 among.1

  -- the state of the number is open; without a number, each reached state is ruled
  pub open_one : (states : States) (done : ℕ) (found : Option ℕ) (copy : Option (List Bool)) → length states ≤ done → IsWalk task rules states done → IsUnruledAmong task rules states done found → IsNumbered states found copy → IsUnruledOne task rules copy
  open_one states done None copy end walk among is = subst (IsUnruledOne task rules) (sym is) (λ state reached.
      let at = number_of states state (walk_all states done end walk state reached) in
      let within : at.0 < length states = slice_get_within states at.0 state at.1 in
      among at.0 state (omega (arith, within, end)) at.1)
  open_one states done (Some number) copy end walk among is =
      subst (IsUnruledOne task rules) (sym is.1) (subst (λ (s : List Bool). IsUnruled task rules s) (same_Some among.0 is.0 (sym among.1 ∙ is.2)) among.2)

  -- the walk that has only begun
  pub walk_begun : (states : States) → states ≡ task.init ∷ [] → IsWalk task rules states 0
  walk_begun states is = record {
    first = subst (λ (s : States). Contains s task.init) (sym is) (Contains-here task.init []);
    reached = λ state has. ⊎_elim
        (λ same. subst (λ (s : List Bool). Reach task (selected rules) s) same start)
        (λ later. absurd (omega (arith, later.1)))
        (Contains-cases state task.init [] (subst (λ (s : States). Contains s state) is has));
    closed = λ number state small. absurd (omega (arith, small));
  }

-- the first state that is added
pub added_first : (state : List Bool) (number : ℕ) (new : States) → Adds [] state number new → new ≡ state ∷ []
added_first state number new adds = by adds.kept_or_last
  where
    by : (Contains [] state × (new ≡ [])) ⊎ ((¬ Contains [] state) × (number ≡ 0) × (new ≡ [] ++ state ∷ [])) → new ≡ state ∷ []
    by (inl kept) = absurd (omega (arith, kept.0.1))
    by (inr last) = last.2

-- the states after the first was added
pub begun_states : (init : List Bool) (old : States) (state : List Bool) (number : ℕ) (new : States) → old ≡ [] → state ≡ init → Adds old state number new → new ≡ init ∷ []
begun_states init old state number new none same adds =
    added_first init number new (subst (λ (s : List Bool). Adds [] s number new) same (subst (λ (ss : States). Adds ss state number new) none adds))

-- an action of a task has few outcomes
pub few_outcomes : (task : Task) (number : ℕ) (act : Act) → slice_get task.acts number ≡ Some act → length act.outcomes ≤ 256
few_outcomes task number act at =
    let within = all_at (is_act_within (length task.atoms)) task.acts number act task.acts_within at in
    let both = and_parts (is_form_within (length task.atoms) act.pre && nat_lt 0 (length act.outcomes) && nat_le (length act.outcomes) 256) (list_all (list_all (is_entry_within (length task.atoms))) act.outcomes) within in
    let few : nat_le (length act.outcomes) 256 ≡ true = (and_parts (is_form_within (length task.atoms) act.pre && nat_lt 0 (length act.outcomes)) (nat_le (length act.outcomes) 256) both.0).1 in
    grind (arith, nat_tests, few)

-- a test that fails does not pass
pub not_goal : (b : Bool) → b ≡ false → ¬ b ≡ true
not_goal b fails holds = true≢false (sym holds ∙ fails)

-- the action of a rule is there
pub act_there : (task : Task) (rules : List Rule) (i : ℕ) (rule : Rule) → AreActsThere task rules → slice_get rules i ≡ Some rule → rule.act < length task.acts
act_there task rules i rule there is =
    let P : Rule → Type 0 = λ r. r.act < length task.acts in
    subst P (get_or_from_slice_get rules i rule rule is) (there i rule (slice_get_within rules i rule is))

module _ (rules : List Rule) (state : List Bool) where
  -- the policy chooses the action of the selected rule
  pub chosen_some : (n : ℕ) (rule : Rule) → selected_rule rules state ≡ Some n → slice_get rules n ≡ Some rule → selected rules state ≡ Some rule.act
  chosen_some n rule is at =
      sym (ap (option_map (λ rule. rule.act)) (found_first (λ rule. lies_in state rule.cond) rules))
      ∙ ap (λ o. option_map (λ rule. rule.act) (option_and_then (λ number. slice_get rules number) o)) is
      ∙ ap (option_map (λ rule. rule.act)) at

  -- if no rule is selected, the policy chooses no action
  pub chosen_none : selected_rule rules state ≡ None → selected rules state ≡ None
  chosen_none is =
      sym (ap (option_map (λ rule. rule.act)) (found_first (λ rule. lies_in state rule.cond) rules))
      ∙ ap (λ o. option_map (λ rule. rule.act) (option_and_then (λ number. slice_get rules number) o)) is

-- the action of a sure rule that is selected is applicable
pub applies : (task : Task) (pairs : List Pair) (rules : List Rule) (state : List Bool) (n : ℕ) (rule : Rule) → selected_rule rules state ≡ Some n → slice_get rules n ≡ Some rule → IsSureRule task pairs rules n rule
    → (act : Act) → slice_get task.acts rule.act ≡ Some act → is_true state act.pre ≡ true
applies task pairs rules state n rule is at sure act numbered =
    let first : find (λ rule. lies_in state rule.cond) rules ≡ Some rule = sym (found_first (λ rule. lies_in state rule.cond) rules) ∙ ap (option_and_then (λ number. slice_get rules number)) is ∙ at in
    let found = found_at (λ rule. lies_in state rule.cond) rules rule first in
    let lies = (lies_in-Decides state rule.cond).0 found.2 in
    let same : sure.act ≡ act = same_Some sure.act act (sym sure.has_act ∙ numbered) in
    let yes : value rule.cond act.pre ≡ Yes = ap (λ (a : Act). value rule.cond a.pre) (sym same) ∙ sure.applicable in
    let P : Kleene → Type 0 = λ a. Tells a (is_true state act.pre) in
    subst P yes (Tells-value state rule.cond lies act.pre)

-- an option that is something has something
pub some_is : {X : Type 0} {o : Option X} (x : X) → o ≡ Some x → IsSome o
some_is x is = subst IsSome (sym is) refl
