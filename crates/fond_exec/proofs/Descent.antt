-- Lucky steps by sure rules lead to earlier and earlier rules, and so to a goal.
use Rattle.std.proofs.Common.{◌≡◌, inl, inr, ℕ, zero, suc, ◌<◌, ◌≤◌, List, [], ◌∷◌, Bool, true, Option, Some, None, length, get_or, refl, sym, ap, ◌∙◌, subst, arith}
use Rattle.std.specs.Prelude.{◌⊎◌, slice_get, position, option_and_then}
use Rattle.std.proofs.lemmas.Bool.{cases_lt, false≢true}
use Rattle.std.proofs.lemmas.List.Quantifiers.{position-Some}
use Rattle.std.proofs.lemmas.Option.{none-some, same_Some, slice_get_within, get_or_from_slice_get, slice_get-get_or}
use Rattle.fond_state.specs.Cubes.{LiesIn, lies_in}
use Rattle.fond_state.proofs.Tested.{lies_in-Decides, LiesIn-through}
use Rattle.fond_task.specs.declared.task.Act.{Act}
use Rattle.fond_task.specs.declared.task.Entry.{Entry}
use Rattle.fond_task.specs.declared.task.Task.{Task}
use Rattle.fond_task.specs.Images.{image}
use Rattle.fond_task.specs.Steps.{next_state}
use Rattle.fond_task.specs.declared.rule.Pair.{Pair}
use Rattle.fond_task.specs.declared.rule.Rule.{Rule}
use Rattle.fond_task.specs.declared.rule.Target.{Target}
use Rattle.fond_task.specs.declared.rule.Target.TheVariants.{Goal, Rule as ToRule}
use Rattle.fond_task.specs.declared.rule.Targets.{Targets}
use Rattle.fond_task.specs.declared.rule.Targets.TheVariants.{One, All}
use Rattle.fond_task.specs.Layers.{CubeView}
use Rattle.fond_task.specs.Policies.{IsGoal}
use Rattle.fond_task.specs.Rules.{AreMet, IsEarlier, Meets}
use Rattle.fond_task.proofs.Lists.{Contains_numbered, found_by, same_numbered}
use Rattle.fond_task.proofs.Ranks.{yes_true}
use Rattle.fond_task.proofs.Reached.{length-next_state, next_lies}
use Rattle.fond_rules.specs.Select.{selected_rule}
use Rattle.fond_rules.proofs.First.{found_first}
use Rattle.fond_exec.specs.Lucky.{AreSure, BeginsLucky, IsLucky, LuckyStepsDescend, LuckyStepsEnd}
use Rattle.fond_exec.specs.Steps.{IsTaken}
use Rattle.fond_state.specs.Traces.{Pick, TraceOf}
use Rattle.fond_exec.specs.Traces.{Trace}
use Rattle.fond_exec.proofs.Chosen.{chooses}

module _ {X : Type 0} (test : X → Bool) (xs : List X) (k : ℕ) (x : X) (at : slice_get xs k ≡ Some x) (passes : test x ≡ true) where
  -- if an element passes, the first one that passes has no larger number
  first_by : (o : Option ℕ) → position test xs ≡ o → (n : ℕ) × (position test xs ≡ Some n) × (n ≤ k)
  first_by None none =
      let found = found_by test xs k x at passes in
      absurd (none-some found.item (ap (option_and_then (λ number. slice_get xs number)) (sym none) ∙ found_first test xs ∙ found.first))
  first_by (Some n) is = (n, is, small (cases_lt k n))
    where
      small : (k < n) ⊎ (n ≤ k) → n ≤ k
      small (inr le) = le
      small (inl lt) = absurd (false≢true (sym ((position-Some test xs n x is).2 k lt) ∙ ap test (get_or_from_slice_get xs k x x at) ∙ passes))

  first_no_later : (n : ℕ) × (position test xs ≡ Some n) × (n ≤ k)
  first_no_later = first_by (position test xs) refl

-- a goal, or a state in which a rule before this one is the first that holds
abbrev IsNearer : Task → List Rule → ℕ → List Bool → Type 0
IsNearer task rules number after = IsGoal task after ⊎ ((earlier : ℕ) × (selected_rule rules after ≡ Some earlier) × (earlier < number))

module _ (task : Task) (rules : List Rule) where
  -- a state in a cube that meets an earlier target is nearer
  nearer_by : (number : ℕ) (after : List Bool) (cube : CubeView) → LiesIn after cube → (target : Target) → IsEarlier number target → Meets task rules cube target → IsNearer task rules number after
  nearer_by number after cube lies Goal early met = inl (yes_true after cube task.goal lies met)
  nearer_by number after cube lies (ToRule other) early met =
      let first = first_no_later (λ rule. lies_in after rule.cond) rules other met.0 met.1 ((lies_in-Decides after met.0.cond).1 (LiesIn-through after cube met.0.cond lies met.2)) in
      inr (first.0, first.1, omega (arith, first.2, early))

  -- the targets of a rule that names this outcome, or whose action is unfair, are met nearer
  nearer_at : (rule : ℕ) (state : List Bool) (cond : CubeView) (act : Act) (number outcome : ℕ) (entries : List Entry) → length state ≡ length task.atoms → slice_get task.acts number ≡ Some act → slice_get act.outcomes outcome ≡ Some entries
      → LiesIn state cond → (targets : Targets) → AreMet task rules rule cond act targets → (act.unfair ≡ true) ⊎ ((target : Target) × (targets ≡ One outcome target)) → IsNearer task rules rule (next_state state entries)
  nearer_at rule state cond act number outcome entries long numbered picked lies (One named target) met (inl unfair) = absurd (false≢true (sym met.0 ∙ unfair))
  nearer_at rule state cond act number outcome entries long numbered picked lies (One named target) met (inr names) =
      let same : named ≡ outcome = One-outcome names.1 in
      let all_entries : met.2.0 ≡ entries = same_Some met.2.0 entries (sym met.2.1 ∙ ap (slice_get act.outcomes) same ∙ picked) in
      let P : List Entry → Type 0 = λ e. Meets task rules (image cond e) target in
      nearer_by rule (next_state state entries) (image cond entries) (next_lies task state cond act number entries long numbered (Contains_numbered act.outcomes outcome entries picked) lies) target met.1 (subst P all_entries met.2.2)
    where
      outcome_of : Targets → ℕ
      outcome_of (One n t) = n
      outcome_of (All ts) = 0

      One-outcome : {t : Target} → One named target ≡ One outcome t → named ≡ outcome
      One-outcome same = ap outcome_of same
  nearer_at rule state cond act number outcome entries long numbered picked lies (All targets) met lucky =
      let within = slice_get_within act.outcomes outcome entries picked in
      let target = get_or targets outcome Goal in
      let each = met.2 outcome target entries (slice_get-get_or targets outcome Goal (omega (arith, met.1, within))) picked in
      nearer_by rule (next_state state entries) (image cond entries) (next_lies task state cond act number entries long numbered (Contains_numbered act.outcomes outcome entries picked) lies) target each.0 each.1

  -- the rule that is the first to hold in a state
  pub rule_at : (state : List Bool) (number : ℕ) → selected_rule rules state ≡ Some number → (rule : Rule) × (slice_get rules number ≡ Some rule) × LiesIn state rule.cond
  rule_at state number selects = go rules refl
    where
      go : (rs : List Rule) → rs ≡ rules → (rule : Rule) × (slice_get rules number ≡ Some rule) × LiesIn state rule.cond
      go [] none = absurd (none-some number (ap (λ rs. selected_rule rs state) none ∙ selects))
      go (r ∷ rs) same =
          let first = position-Some (λ rule. lies_in state rule.cond) rules number r selects in
          (get_or rules number r, slice_get-get_or rules number r first.0, (lies_in-Decides state (get_or rules number r).cond).0 first.1)

module _ (task : Task) (pairs : List Pair) (rules : List Rule) (sure : AreSure task pairs rules) where
  -- the policy chooses the action of the rule that is the first to hold
  pub act_of : (state : List Bool) (rule number outcome : ℕ) (after : List Bool) (taken : IsTaken task rules state outcome rule number after) (one : Rule) → slice_get rules rule ≡ Some one → one.act ≡ number
  act_of state rule number outcome after taken one at = same_Some one.act number (sym (chooses rules state rule one taken.selects at) ∙ taken.chosen.selects)

  -- a lucky step leads nearer
  pub descends : (state : List Bool) (outcome rule number : ℕ) (after : List Bool) → length state ≡ length task.atoms → IsTaken task rules state outcome rule number after → IsLucky task rules rule number outcome → IsNearer task rules rule after
  descends state outcome rule number after long taken lucky =
      let one = rule_at task rules state rule taken.selects in
      let is_sure = sure rule one.0 one.1 in
      let acts : one.0.act ≡ number = act_of state rule number outcome after taken one.0 one.1 in
      let same : is_sure.act ≡ taken.act = same_numbered task.acts number is_sure.act taken.act (ap (slice_get task.acts) (sym acts) ∙ is_sure.has_act) taken.chosen.numbered in
      let P : Act → Type 0 = λ a. AreMet task rules rule one.0.cond a one.0.targets in
      let Q : List Bool → Type 0 = IsNearer task rules rule in
      subst Q (sym taken.given)
      (nearer_at task rules rule state one.0.cond taken.act number outcome taken.entries long taken.chosen.numbered taken.picked one.2 one.0.targets (subst P same is_sure.met) (by_luck lucky one.0 one.1))
    where
      by_luck : IsLucky task rules rule number outcome → (one : Rule) → slice_get rules rule ≡ Some one → (taken.act.unfair ≡ true) ⊎ ((target : Target) × (one.targets ≡ One outcome target))
      by_luck (inl unfair) one at = inl (ap (λ (a : Act). a.unfair) (same_numbered task.acts number taken.act unfair.act taken.chosen.numbered unfair.numbered) ∙ unfair.flagged)
      by_luck (inr names) one at = inr (names.target, ap (λ (r : Rule). r.targets) (same_numbered rules rule one names.rule at names.numbered) ∙ names.named)

  -- lucky steps from a state in which a rule is the first to hold are at most one more than the rules before it, and if there are
  -- so many, and at least one, the trace ends at a goal
  abbrev AreFew : ℕ → List Bool → ℕ → Type 0
  AreFew bound last count = (count ≤ bound) × (0 < count → bound ≤ count → IsGoal task last)

  -- a trace that begins at a goal ends there, and takes no step
  stays : (pick : Pick) (state : List Bool) (words lines : List ℕ) (last : List Bool) → IsGoal task state → (trace : Trace pick task rules state words lines last) → (count : ℕ) → BeginsLucky pick task rules state words lines last count trace → (count ≡ 0) × IsGoal task last
  stays pick state words lines last is (TraceOf.goal one left is_too) zero lucky = (refl, is)
  stays pick state words lines last is (TraceOf.goal one left is_too) (suc count) lucky = absurd lucky
  stays pick state words lines last is (TraceOf.ended one open_) count lucky = absurd (open_ is)
  stays pick state words lines last is (TraceOf.stuck one word left open_ none) count lucky = absurd (open_ is)
  stays pick state words lines last is (TraceOf.bad_outcome one word left choice open_ chosen beyond) count lucky = absurd (open_ is)
  stays pick state words lines last is (TraceOf.took one word left choice line next text end open_ chosen leads later) count lucky = absurd (open_ is)

  -- one more lucky step than those that come after it
  one_more : (bound rule : ℕ) (last next : List Bool) (count : ℕ) → rule < bound → (IsGoal task next → (count ≡ 0) × IsGoal task last) →
      ((earlier : ℕ) × (selected_rule rules next ≡ Some earlier) × (earlier < rule) → AreFew rule last count) → IsNearer task rules rule next → AreFew bound last (suc count)
  one_more bound rule last next count here ended more (inl is) = let end_is = ended is in (omega (arith, end_is.0, here), λ some all. end_is.1)
  one_more bound rule last next count here ended more (inr earlier) =
      let rest = more earlier in
      (omega (arith, rest.0, here), λ some all. rest.1 (omega (arith, all, here, earlier.2)) (omega (arith, all, here)))

  few : (pick : Pick) (bound : ℕ) (state : List Bool) (words lines : List ℕ) (last : List Bool) → length state ≡ length task.atoms → ((rule : ℕ) → selected_rule rules state ≡ Some rule → rule < bound)
      → (trace : Trace pick task rules state words lines last) → (count : ℕ) → BeginsLucky pick task rules state words lines last count trace → AreFew bound last count
  few pick bound state words lines last long below trace zero lucky = (omega arith, λ some. absurd (omega (arith, some)))
  few pick bound state words lines last long below (TraceOf.goal one left is) (suc count) lucky = absurd lucky
  few pick bound state words lines last long below (TraceOf.ended one open_) (suc count) lucky = absurd lucky
  few pick bound state words lines last long below (TraceOf.stuck one word left open_ none) (suc count) lucky = absurd lucky
  few pick bound state words lines last long below (TraceOf.bad_outcome one word left choice open_ chosen beyond) (suc count) lucky = absurd lucky
  few pick bound state words lines last long below (TraceOf.took one word left choice line next text end open_ chosen leads later) (suc count) lucky =
      let rule = leads.0 in
      let entries = leads.3.0 in
      let outcome = pick (length choice.1.outcomes) word in
      let taken : IsTaken task rules one outcome rule choice.0 next = record { open_ = open_; selects = leads.1; act = choice.1; chosen = chosen; entries = entries; picked = leads.3.1; given = leads.3.2 } in
      let here : rule < bound = below rule leads.1 in
      let long_after : length next ≡ length task.atoms = ap length leads.3.2 ∙ length-next_state one entries ∙ long in
      one_more bound rule last next count here (λ is. stays pick next left text last is later count lucky.1)
      (λ earlier. few pick rule next left text last long_after (λ other selects. subst (λ n. n < rule) (same_Some earlier.0 other (sym earlier.1 ∙ selects)) earlier.2) later count lucky.1)
      (descends one outcome rule choice.0 next long taken lucky.0)

pub lucky_descend : LuckyStepsDescend
lucky_descend task pairs rules state outcome rule number after long sure taken lucky = descends task pairs rules sure state outcome rule number after long taken lucky

pub lucky_end : LuckyStepsEnd
lucky_end pick task pairs rules state words lines last long sure trace count lucky =
    few task pairs rules sure pick (length rules) state words lines last long (λ rule selects. slice_get_within rules rule (rule_at task rules state rule selects).0 (rule_at task rules state rule selects).1) trace count lucky
