-- More states are found, and what was known of the others stays.
use Rattle.std.proofs.Common.{◌≡◌, ℕ, zero, suc, ◌<◌, ◌≤◌, ◌+◌, List, [], ◌∷◌, ◌++◌, Bool, true, false, Option, Some, None, length, refl, sym, ap, ◌∙◌, subst, ⊎_elim, inl, inr, arith, append_assoc, append-nil}
use Rattle.std.specs.Option.{is_some}
use Rattle.std.specs.Prelude.{◌⊎◌, slice_get, Contains, MatchOption, reverse}
use Rattle.std.proofs.lemmas.Bool.{cases_lt, false≢true}
use Rattle.std.proofs.lemmas.List.{length-append, reverse-append}
use Rattle.std.proofs.lemmas.List.Elements.{Contains-append_left}
use Rattle.std.proofs.lemmas.Option.{none-some, same_Some, slice_get_within}
use Rattle.fond_state.specs.Games.{start, onward}
use Rattle.fond_text.specs.Lists.{AreDistinct}
use Rattle.fond_store.specs.Stores.{Adds}
use Rattle.fond_task.specs.declared.task.Act.{Act}
use Rattle.fond_task.specs.declared.task.Task.{Task}
use Rattle.fond_task.specs.Steps.{next_state}
use Rattle.fond_task.specs.declared.rule.Pair.{Pair}
use Rattle.fond_task.specs.Layers.{CubeView}
use Rattle.fond_task.specs.Policies.{IsNext}
use Rattle.fond_task.proofs.Lists.{Contains_numbered, number_of}
use Rattle.fond_task.proofs.Reached.{length-next_state}
use Rattle.fond_explicit.specs.Answers.{IsReachable, IsPast}
use Rattle.fond_explicit.proofs.Grown.{front_stays, front_was}
use Rattle.fond_task.specs.declared.plan_step.PlanStep.{PlanStep}
use Rattle.fond_weak.specs.Trees.{LeadsTo, IsLinked, IsTree, IsMore, IsTried, IsOpened, AreOpened}
use Rattle.fond_weak.specs.Weak.{MayTake, IsWeakPlan}
use Rattle.fond_weak.specs.declared.tree.Link.{Link}

-- an item of a list with one more is an earlier one or the last
pushed : {X : Type 0} (xs : List X) (x : X) (i : ℕ) (y : X) → slice_get (xs ++ x ∷ []) i ≡ Some y → (slice_get xs i ≡ Some y) ⊎ ((i ≡ length xs) × (x ≡ y))
pushed [] x zero y is = inr (refl, same_Some x y is)
pushed [] x (suc i) y is = absurd (none-some y is)
pushed (z ∷ xs) x zero y is = inl is
pushed (z ∷ xs) x (suc i) y is = ⊎_elim (λ early. inl early) (λ late. inr (ap suc late.0, late.1)) (pushed xs x i y is)

-- whether a state is found already

pub found_has : (states : List (List Bool)) (state : List Bool) (number : Option ℕ) → MatchOption number (¬ Contains states state) (λ n. slice_get states n ≡ Some state) → is_some number ≡ true → Contains states state
found_has states state None told some = absurd (false≢true some)
found_has states state (Some number) told some = Contains_numbered states number state told

pub found_none : (states : List (List Bool)) (state : List Bool) (number : Option ℕ) → MatchOption number (¬ Contains states state) (λ n. slice_get states n ≡ Some state) → is_some number ≡ false → ¬ Contains states state
found_none states state None told none = told
found_none states state (Some number) told none = absurd (false≢true (sym none))

pub added : (old : List (List Bool)) (state : List Bool) (number : ℕ) (new : List (List Bool)) → Adds old state number new → ¬ Contains old state → new ≡ old ++ state ∷ []
added old state number new adds fresh = ⊎_elim (λ kept. absurd (fresh kept.0)) (λ last. last.2) adds.kept_or_last

-- more states

pub more_none : (states : List (List Bool)) → IsMore states states
more_none states = ([], sym (append-nil states))

pub more_then : (old between new : List (List Bool)) → IsMore old between → IsMore between new → IsMore old new
more_then old between new one two = (one.0 ++ two.0, two.1 ∙ ap (λ xs. xs ++ two.0) one.1 ∙ append_assoc old one.0 two.0)

pub more_stays : (old new : List (List Bool)) → IsMore old new → (number : ℕ) (state : List Bool) → slice_get old number ≡ Some state → slice_get new number ≡ Some state
more_stays old new more number state is = ap (λ xs. slice_get xs number) more.1 ∙ front_stays old more.0 number state is

more_was : (old new : List (List Bool)) → IsMore old new → (number : ℕ) (state : List Bool) → number < length old → slice_get new number ≡ Some state → slice_get old number ≡ Some state
more_was old new more number state small is = front_was old more.0 number state small (ap (λ xs. slice_get xs number) (sym more.1) ∙ is)

pub more_has : (old new : List (List Bool)) → IsMore old new → (state : List Bool) → Contains old state → Contains new state
more_has old new more state has = subst (λ xs. Contains xs state) (sym more.1) (Contains-append_left old more.0 state has)

pub more_long : (old new : List (List Bool)) → IsMore old new → length old ≤ length new
more_long old new more = omega (arith, ap length more.1, length-append old more.0)

-- opened states stay opened

pub tried_more : (layers : List (List CubeView)) (pairs : List Pair) (old new : List (List Bool)) → IsMore old new → (state : List Bool) (number : ℕ) (act : Act) → IsTried layers pairs old state number act → IsTried layers pairs new state number act
tried_more layers pairs old new more state number act tried = ⊎_elim
    (λ barred. inl barred)
    (λ rest. ⊎_elim (λ loses. inr (inl loses)) (λ stays. inr (inr (λ entries one. more_has old new more (next_state state entries) (stays entries one)))) rest)
    tried

pub opened_more : (task : Task) (layers : List (List CubeView)) (pairs : List Pair) (old new : List (List Bool)) → IsMore old new → (state : List Bool) → IsOpened task layers pairs old state → IsOpened task layers pairs new state
opened_more task layers pairs old new more state opened = record {
  open_ = opened.open_;
  tried = λ number act at holds. tried_more layers pairs old new more state number act (opened.tried number act at holds);
}

-- one more state is opened
pub opened_next : (task : Task) (layers : List (List CubeView)) (pairs : List Pair) (old new : List (List Bool)) (count : ℕ) → IsMore old new → count < length old → AreOpened task layers pairs old count →
    ((state : List Bool) → slice_get old count ≡ Some state → IsOpened task layers pairs new state) → AreOpened task layers pairs new (count + 1)
opened_next task layers pairs old new count more there opened here number state small at =
    let was : slice_get old number ≡ Some state = more_was old new more number state (omega (arith, small, there)) at in
    ⊎_elim
    (λ (early : number < count). opened_more task layers pairs old new more state (opened number state early was))
    (λ (late : number ≡ count). here state (ap (slice_get old) (sym late) ∙ was))
    (before_or_last number count small)
  where
    before_or_last : (number count : ℕ) → number < count + 1 → (number < count) ⊎ (number ≡ count)
    before_or_last number count small = ⊎_elim (λ lt. inl lt) (λ ge. inr (omega (arith, small, ge))) (cases_lt number count)

-- a link still leads to its state among more states
link_more : (task : Task) (pairs : List Pair) (from : List Bool) (states : List (List Bool)) (next : List Bool) (number : ℕ) (state : List Bool) (link : Option Link) →
    IsLinked task pairs from states number state link → IsLinked task pairs from (states ++ next ∷ []) number state link
link_more task pairs from states next number state None found = found
link_more task pairs from states next number state (Some link) found =
    record { earlier = found.earlier; before = found.before; has_before = front_stays states (next ∷ []) link.from found.before found.has_before; open_ = found.open_; taken = found.taken }

module _ (task : Task) (pairs : List Pair) (from : List Bool) (states : List (List Bool)) (links : List (Option Link)) (tree : IsTree task pairs from states links) where
  module _ (link : Link) (next : List Bool) (leads : LeadsTo task pairs states (length states) link next) where
    goes : IsNext task leads.before link.step.act next
    goes = record {
      act = leads.taken.act;
      numbered = leads.taken.has_act;
      holds = leads.taken.applicable;
      outcome = leads.taken.entries;
      one = Contains_numbered leads.taken.act.outcomes link.step.outcome leads.taken.entries leads.taken.has_outcome;
      given = leads.taken.led;
    }

    next_reachable : IsReachable task from next
    next_reachable = onward leads.before link.step.act next (tree.reachable link.from leads.before leads.has_before) leads.open_ tt goes

    next_long : length next ≡ length task.atoms
    next_long = ap length leads.taken.led ∙ length-next_state leads.before leads.taken.entries ∙ tree.long link.from leads.before leads.has_before

    -- one more state is found
    pub tree_more : IsTree task pairs from (states ++ next ∷ []) (links ++ Some link ∷ [])
    tree_more = record {
      first = front_stays states (next ∷ []) 0 from tree.first;
      counted = omega (arith, tree.counted, length-append states (next ∷ []), length-append links (Some link ∷ []));
      long = λ number state is. ⊎_elim
          (λ early. tree.long number state early)
          (λ late. ap length (sym late.1) ∙ next_long)
          (pushed states next number state is);
      reachable = λ number state is. ⊎_elim
          (λ early. tree.reachable number state early)
          (λ late. subst (IsReachable task from) late.1 next_reachable)
          (pushed states next number state is);
      linked = λ number state by is at. by_link number state by (pushed states next number state is) (pushed links (Some link) number by at);
    }
      where
        by_link : (number : ℕ) (state : List Bool) (by : Option Link) → (slice_get states number ≡ Some state) ⊎ ((number ≡ length states) × (next ≡ state)) → (slice_get links number ≡ Some by) ⊎ ((number ≡ length links) × (Some link ≡ by)) →
            IsLinked task pairs from (states ++ next ∷ []) number state by
        by_link number state by is at = ⊎_elim
            (λ early. ⊎_elim
            (λ before. link_more task pairs from states next number state by (tree.linked number state by early before))
            (λ (late : (number ≡ length links) × (Some link ≡ by)). absurd (omega (arith, late.0, tree.counted, slice_get_within states number state early)))
            at)
            (λ last. ⊎_elim
            (λ before. absurd (omega (arith, last.0, tree.counted, slice_get_within links number by before)))
            (λ late. by_last number state by last late)
            at)
            is
          where
            by_last : (number : ℕ) (state : List Bool) (by : Option Link) → (number ≡ length states) × (next ≡ state) → (number ≡ length links) × (Some link ≡ by) → IsLinked task pairs from (states ++ next ∷ []) number state by
            by_last number state by last late =
                let P : Option Link → Type 0 = λ b. IsLinked task pairs from (states ++ next ∷ []) number state b in
                let Q : List Bool → Type 0 = λ s. LeadsTo task pairs (states ++ next ∷ []) number link s in
                let R : ℕ → Type 0 = λ n. LeadsTo task pairs (states ++ next ∷ []) n link next in
                let now = link_more task pairs from states next (length states) next (Some link) leads in
                subst P late.1 (subst Q last.1 (subst R (sym last.0) now))

  -- if more states are found than a limit, more are reachable
  pub tree_past : AreDistinct states → (limit : ℕ) → limit < length states → IsPast task from limit
  tree_past once limit past = record {
    states = states;
    once = once;
    reached = λ state has. let at = number_of states state has in tree.reachable at.0 state at.1;
    longer = past;
  }

  -- a plan from a state is one from the state from which a link leads to it
  pub plan_back : (number : ℕ) (state : List Bool) (link : Link) → slice_get states number ≡ Some state → slice_get links number ≡ Some (Some link) → (steps : List PlanStep) → IsWeakPlan task pairs state (reverse steps) →
      (before : List Bool) → slice_get states link.from ≡ Some before → IsWeakPlan task pairs before (reverse (steps ++ link.step ∷ []))
  plan_back number state link at has steps plan before at_before =
      let leads : LeadsTo task pairs states number link state = tree.linked number state (Some link) at has in
      let same : leads.before ≡ before = same_Some leads.before before (sym leads.has_before ∙ at_before) in
      let P : List PlanStep → Type 0 = λ ss. IsWeakPlan task pairs before ss in
      let Q : List Bool → Type 0 = λ s. MayTake task pairs s link.step state in
      subst P (sym (reverse-append steps (link.step ∷ []))) (state, subst Q same leads.taken, plan)

  -- a plan from the state that was found without a link is one from the first
  pub plan_first : (number : ℕ) (state : List Bool) → slice_get states number ≡ Some state → slice_get links number ≡ Some None → (steps : List PlanStep) → IsWeakPlan task pairs state steps → IsWeakPlan task pairs from steps
  plan_first number state at has steps plan = let P : List Bool → Type 0 = λ s. IsWeakPlan task pairs s steps in subst P (tree.linked number state None at has) plan

-- the state with which a search begins is found
pub tree_first : (task : Task) (pairs : List Pair) (from : List Bool) → length from ≡ length task.atoms → IsTree task pairs from (from ∷ []) (None ∷ [])
tree_first task pairs from long = record {
  first = refl;
  counted = refl;
  long = λ number state is. ap length (sym (only number state is)) ∙ long;
  reachable = λ number state is. subst (IsReachable task from) (only number state is) start;
  linked = λ number state by is at. by_none number state by is at;
}
  where
    only : (number : ℕ) (state : List Bool) → slice_get (from ∷ []) number ≡ Some state → from ≡ state
    only zero state is = same_Some from state is
    only (suc number) state is = absurd (none-some state is)

    by_none : (number : ℕ) (state : List Bool) (by : Option Link) → slice_get (from ∷ []) number ≡ Some state → slice_get (None ∷ []) number ≡ Some by → IsLinked task pairs from (from ∷ []) number state by
    by_none zero state by is at = subst (λ (b : Option Link). IsLinked task pairs from (from ∷ []) 0 state b) (same_Some None by at) (sym (same_Some from state is))
    by_none (suc number) state by is at = absurd (none-some state is)
