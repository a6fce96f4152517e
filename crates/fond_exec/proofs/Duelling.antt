-- The picks of an opponent along a run, and where a run over them ends.
use Rattle.std.proofs.Common.{inl, inr, ◌≡◌, ℕ, ◌<◌, ◌≤◌, List, [], ◌∷◌, ◌++◌, Bool, false, Some, length, refl, sym, ap, ◌∙◌, subst, ⊎_elim, append_assoc, append-nil, arith}
use Rattle.std.specs.Prelude.{◌⊎◌, All, nat_lt, slice_get, if◌then◌else◌}
use Rattle.std.proofs.lemmas.Bool.{cases_lt, false≢true}
use Rattle.std.proofs.lemmas.Bool.Decides.{nat_tests}
use Rattle.std.proofs.lemmas.List.Elements.{All-cons, All-nil}
use Rattle.std.proofs.lemmas.Option.{none-some, same_Some, slice_get_within}
use Rattle.fond_state.specs.Traces.{TraceOf, as_recorded}
use Rattle.fond_task.specs.declared.task.Act.{Act}
use Rattle.fond_task.specs.declared.task.Task.{Task}
use Rattle.fond_task.specs.declared.rule.Pair.{Pair}
use Rattle.fond_task.specs.declared.rule.Rule.{Rule}
use Rattle.fond_task.specs.declared.rule.Targets.{Targets}
use Rattle.fond_task.specs.declared.rule.Targets.TheVariants.{One, All as Each}
use Rattle.fond_task.specs.Policies.{IsGoal, IsNext, Reach, selected, start, onward}
use Rattle.fond_task.specs.Rules.{AreMet}
use Rattle.fond_task.specs.Solutions.{IsSolution}
use Rattle.fond_task.specs.Steps.{next_state}
use Rattle.fond_task.proofs.Lists.{Contains_numbered, same_numbered}
use Rattle.fond_exec.specs.Duels.{ArePicks, DuelsEnd, IsPick, ended, named_pick, over, picked}
use Rattle.fond_exec.specs.Lucky.{AreSure, BeginsLucky, IsLucky, Names}
use Rattle.fond_exec.specs.Picked.{IsWord}
use Rattle.fond_exec.specs.Steps.{IsChosen, IsStuck, IsTaken}
use Rattle.fond_exec.specs.Traces.{Trace}
use Rattle.fond_exec.proofs.Descent.{act_of, lucky_end}

module _ (task : Task) (rules : List Rule) where
  -- no step is taken from a goal or a stuck state
  no_step : (state : List Bool) (outcome rule number : ℕ) (after : List Bool) → IsGoal task state ⊎ IsStuck task rules state → ¬ IsTaken task rules state outcome rule number after
  no_step state outcome rule number after (inl goal) taken = taken.open_ goal
  no_step state outcome rule number after (inr stuck) taken = stuck number taken.chosen.selects (record { act = taken.act; numbered = taken.chosen.numbered; holds = taken.chosen.holds })

  -- the picks from a goal or a stuck state are 0
  all_zero : (state : List Bool) (words : List ℕ) → IsGoal task state ⊎ IsStuck task rules state → ArePicks task rules state words → All (λ word. word ≡ 0) words
  all_zero state words is (ended one) = All-nil (λ word. word ≡ 0)
  all_zero state words is (over one more end zeros) = zeros
  all_zero state words is (picked one rule number outcome after more taken pick later) = absurd (no_step one outcome rule number after is taken)

  -- a word and the picks from the state after it
  word_on : (state : List Bool) (word : ℕ) (after : List Bool) (words : List ℕ) → IsWord task rules state word after → ArePicks task rules after words → ArePicks task rules state (word ∷ words)
  word_on state word after words (inl end) later =
      let here : ArePicks task rules state words = subst (λ (s : List Bool). ArePicks task rules s words) end.2 later in
      over state (word ∷ words) end.0 (All-cons (λ w. w ≡ 0) word words end.1 (all_zero state words end.0 here))
  word_on state word after words (inr step) later = picked state step.0 step.1 word after words step.2 step.3 later

  -- words, followed by any picks from a state, are picks from a start
  pub record ArePicked (begin : List Bool) (words : List ℕ) (state : List Bool) : Type 0 where
    pub onward : (more : List ℕ) → ArePicks task rules state more → ArePicks task rules begin (words ++ more)

  pub picked_none : (begin : List Bool) (words : List ℕ) (state : List Bool) → words ≡ [] → state ≡ begin → ArePicked begin words state
  picked_none begin words state none same = record {
    onward = λ more picks. subst (λ (ws : List ℕ). ArePicks task rules begin (ws ++ more)) (sym none) (subst (λ (s : List Bool). ArePicks task rules s more) same picks);
  }

  pub picked_more : (begin : List Bool) (words next : List ℕ) (state : List Bool) (word : ℕ) (after : List Bool) → next ≡ words ++ word ∷ [] → IsWord task rules state word after → ArePicked begin words state → ArePicked begin next after
  picked_more begin words next state word after made is so_far = record {
    onward = λ more picks.
        subst (λ (ws : List ℕ). ArePicks task rules begin ws) (sym (ap (λ (ws : List ℕ). ws ++ more) made ∙ append_assoc words (word ∷ []) more))
        (so_far.onward (word ∷ more) (word_on state word after more is picks));
  }

  pub picked_all : (begin : List Bool) (words : List ℕ) (state : List Bool) → ArePicked begin words state → ArePicks task rules begin words
  picked_all begin words state so_far = subst (λ (ws : List ℕ). ArePicks task rules begin ws) (append-nil words) (so_far.onward [] (ended state))

or_both : {A B C : Type 0} → B → A ⊎ C → A ⊎ (B × C)
or_both b (inl a) = inl a
or_both b (inr c) = inr (b, c)

-- the pick by a name that is below the count
named_below : (outcome count : ℕ) → outcome < count → (if nat_lt outcome count then outcome else 0) ≡ outcome
named_below outcome count lt = grind (arith, nat_tests)

-- of some outcomes, the one that targets name is one
named_if : (outcome count : ℕ) → 0 < count → (if nat_lt outcome count then outcome else 0) < count
named_if outcome count some = grind (arith, nat_tests)

pub named_within : (targets : Targets) (count : ℕ) → 0 < count → named_pick targets count < count
named_within (One outcome target) count some = named_if outcome count some
named_within (Each targets) count some = some

-- the outcome that the targets of a fair action name
fair_named : (task : Task) (rules : List Rule) (number : ℕ) (rule : Rule) (act : Act) → act.unfair ≡ false → AreMet task rules number rule.cond act rule.targets → (outcome : ℕ) → outcome ≡ named_pick rule.targets (length act.outcomes)
    → slice_get rules number ≡ Some rule → Names rules number outcome
fair_named task rules number rule act fair met outcome is at = by rule.targets refl met is
  where
    by : (targets : Targets) → rule.targets ≡ targets → AreMet task rules number rule.cond act targets → outcome ≡ named_pick targets (length act.outcomes) → Names rules number outcome
    by (One named target) own one named_is =
        let within = slice_get_within act.outcomes named one.2.0 one.2.1 in
        let same : outcome ≡ named = named_is ∙ named_below named (length act.outcomes) within in
        record { rule = rule; numbered = at; target = target; named = own ∙ ap (λ n. One n target) (sym same) }
    by (Each targets) own each named_is = absurd (false≢true (sym fair ∙ each.0))

module _ (task : Task) (pairs : List Pair) (rules : List Rule) (sure : AreSure task pairs rules) (solution : IsSolution task (selected rules)) where
  -- the step by a pick is lucky
  lucky_pick : (state : List Bool) (outcome rule number : ℕ) (after : List Bool) (taken : IsTaken task rules state outcome rule number after) → IsPick task rules state rule taken.act outcome → IsLucky task rules rule number outcome
  lucky_pick state outcome rule number after taken (inl unfair) = inl (record { act = taken.act; numbered = taken.chosen.numbered; flagged = unfair.0 })
  lucky_pick state outcome rule number after taken (inr fair) =
      let one = fair.1.0 in
      let is_sure = sure rule one fair.1.1 in
      let acts : one.act ≡ number = act_of task pairs rules sure state rule number outcome after taken one fair.1.1 in
      let same : is_sure.act ≡ taken.act = same_numbered task.acts number is_sure.act taken.act (ap (slice_get task.acts) (sym acts) ∙ is_sure.has_act) taken.chosen.numbered in
      let P : Act → Type 0 = λ a. AreMet task rules rule one.cond a one.targets in
      inr (fair_named task rules rule one taken.act fair.0 (subst P same is_sure.met) outcome fair.1.2 fair.1.1)

  abbrev Lucky : (state : List Bool) (words lines : List ℕ) (last : List Bool) → Trace as_recorded task rules state words lines last → Type 0
  Lucky state words lines last trace = IsGoal task last ⊎ BeginsLucky as_recorded task rules state words lines last (length words) trace

  -- a state that is reached and no goal is not stuck
  not_stuck : (state : List Bool) → Reach task (selected rules) state → ¬ IsGoal task state → ¬ (IsGoal task state ⊎ IsStuck task rules state)
  not_stuck state reached open_ (inl goal) = open_ goal
  not_stuck state reached open_ (inr stuck) = let acts = solution.acts state reached open_ in stuck acts.0 acts.1 acts.2

  -- a word of the picks from a reached state that is no goal is the pick of its action
  record IsPicked (state : List Bool) (word : ℕ) (words : List ℕ) : Type 0 where
    rule : ℕ
    number : ℕ
    after : List Bool
    taken : IsTaken task rules state word rule number after
    pick : IsPick task rules state rule taken.act word
    later : ArePicks task rules after words

  pick_first : (state : List Bool) (word : ℕ) (words : List ℕ) → Reach task (selected rules) state → ¬ IsGoal task state → ArePicks task rules state (word ∷ words) → IsPicked state word words
  pick_first state word words reached open_ (over one more end zeros) = absurd (not_stuck one reached open_ end)
  pick_first state word words reached open_ (picked one rule number outcome after more taken pick later) = record { rule = rule; number = number; after = after; taken = taken; pick = pick; later = later }

  -- the action of a pick is the one that is chosen
  same_act : (state : List Bool) (word : ℕ) (words : List ℕ) (here : IsPicked state word words) (number : ℕ) (act : Act) → IsChosen task rules state number act → (here.number ≡ number) × (here.taken.act ≡ act)
  same_act state word words here number act chosen =
      let same : here.number ≡ number = same_Some here.number number (sym here.taken.chosen.selects ∙ chosen.selects) in
      (same, same_numbered task.acts number here.taken.act act (ap (slice_get task.acts) (sym same) ∙ here.taken.chosen.numbered) chosen.numbered)

  -- a trace over the picks from a reached state ends at a goal, or each of its steps is lucky
  all_lucky : (state : List Bool) (words lines : List ℕ) (last : List Bool) → Reach task (selected rules) state → ArePicks task rules state words → (trace : Trace as_recorded task rules state words lines last) → Lucky state words lines last trace
  all_lucky state words lines last reached picks (TraceOf.goal one left is) = inl is
  all_lucky state words lines last reached picks (TraceOf.ended one open_) = inr tt
  all_lucky state words lines last reached picks (TraceOf.stuck one word left open_ none) =
      let acts = solution.acts one reached open_ in
      absurd (none (acts.0, acts.2.act) (record { selects = acts.1; numbered = acts.2.numbered; holds = acts.2.holds }))
  all_lucky state words lines last reached picks (TraceOf.bad_outcome one word left choice open_ chosen beyond) =
      let here = pick_first one word left reached open_ picks in
      let same = same_act one word left here choice.0 choice.1 chosen in
      let within = slice_get_within here.taken.act.outcomes word here.taken.entries here.taken.picked in
      let counted : length here.taken.act.outcomes ≡ length choice.1.outcomes = ap (λ (a : Act). length a.outcomes) same.1 in
      absurd (omega (arith, within, counted, beyond))
  all_lucky state words lines last reached picks (TraceOf.took one word left choice line next text end open_ chosen leads later) =
      let here = pick_first one word left reached open_ picks in
      let same = same_act one word left here choice.0 choice.1 chosen in
      let entries = leads.3.0 in
      let same_rule : here.rule ≡ leads.0 = same_Some here.rule leads.0 (sym here.taken.selects ∙ leads.1) in
      let same_entries : here.taken.entries ≡ entries = same_Some here.taken.entries entries (sym here.taken.picked ∙ ap (λ (a : Act). slice_get a.outcomes word) same.1 ∙ leads.3.1) in
      let same_next : here.after ≡ next = here.taken.given ∙ ap (next_state one) same_entries ∙ sym leads.3.2 in
      let is_next : IsNext task one choice.0 next =
      record { act = choice.1; numbered = chosen.numbered; holds = chosen.holds; outcome = entries; one = Contains_numbered choice.1.outcomes word entries leads.3.1; given = leads.3.2 } in
      let luck : IsLucky task rules here.rule here.number word = lucky_pick one word here.rule here.number here.after here.taken here.pick in
      let luck_here : IsLucky task rules leads.0 choice.0 word =
      subst (λ n. IsLucky task rules leads.0 n word) same.0 (subst (λ n. IsLucky task rules n here.number word) same_rule luck) in
      or_both luck_here
      (all_lucky next left text end (onward one choice.0 next reached open_ chosen.selects is_next) (subst (λ (s : List Bool). ArePicks task rules s left) same_next here.later) later)

  -- if there are no rules, the initial state is a goal
  no_rules : (state : List Bool) → Reach task (selected rules) state → length rules ≡ 0 → ¬ ¬ IsGoal task state
  no_rules state reached none open_ = let acts = solution.acts state reached open_ in by rules none acts.1
    where
      by : (rs : List Rule) → length rs ≡ 0 → {act : ℕ} → ¬ selected rs state ≡ Some act
      by [] is {act} chosen = none-some act chosen
      by (r ∷ rs) is {act} chosen = absurd (omega (arith, is))

  -- a trace over no words from a state ends there
  ends_here : (state : List Bool) (words lines : List ℕ) (last : List Bool) → length words ≡ 0 → ¬ ¬ IsGoal task state → Trace as_recorded task rules state words lines last → IsGoal task last
  ends_here state words lines last none is (TraceOf.goal one left goal) = goal
  ends_here state words lines last none is (TraceOf.ended one open_) = absurd (is open_)
  ends_here state words lines last none is (TraceOf.stuck one word left open_ stuck) = absurd (is open_)
  ends_here state words lines last none is (TraceOf.bad_outcome one word left choice open_ chosen beyond) = absurd (is open_)
  ends_here state words lines last none is (TraceOf.took one word left choice line next text end open_ chosen leads later) = absurd (is open_)

  duel_ends : (words lines : List ℕ) (last : List Bool) → ArePicks task rules task.init words → length rules ≤ length words → Trace as_recorded task rules task.init words lines last → IsGoal task last
  duel_ends words lines last picks enough trace = ⊎_elim
      (λ is. is)
      (λ lucky.
      let ends = lucky_end as_recorded task pairs rules task.init words lines last task.init_long sure trace (length words) lucky in
      ⊎_elim
      (λ some. ends.1 some enough)
      (λ (none : length words ≤ 0).
      let no_words : length words ≡ 0 = omega (arith, none) in
      let no_rule : length rules ≡ 0 = omega (arith, none, enough) in
      ends_here task.init words lines last no_words (no_rules task.init start no_rule) trace)
      (cases_lt 0 (length words)))
      (all_lucky task.init words lines last start picks trace)

pub duels_end : DuelsEnd
duels_end task pairs rules words lines last sure solution picks enough trace = duel_ends task pairs rules sure solution words lines last picks enough trace
