-- Two games, if each state of the one stands for a state of the other and both have the same moves: walks, solutions and the
-- numbers of reached states agree.
use Rattle.std.proofs.Common.{◌≡◌, ℕ, List, Bool, Option, Some, map, sym, ap, ◌∙◌, subst}
use Rattle.std.specs.Prelude.{◌↔◌, Contains, IsTrue, ⊤, ◌<◌}
use Rattle.std.proofs.lemmas.List.{length-map}
use Rattle.std.proofs.lemmas.Option.{same_Some}
use Rattle.fond_text.specs.Lists.{AreDistinct}
use Rattle.fond_state.specs.Games.{Game, Policy, Walked, start, onward, Reach, StaysIn, IsSolution, ReachesCount, More}
use Rattle.fond_task.proofs.Lists.{Contains-map}
use Rattle.fond_succ.proofs.Lists.{Contains-from_map, AreDistinct-map}

-- how the states V and the numbers N of one game name the states S and the actions A of another: the state for which a
-- state stands, and the way back; whether a state stands for one; the action of a number, and the number of an action
pub record Naming (S A V N : Type 0) : Type 0 where
  pub stands : V → S
  pub back : S → V
  pub fits : V → Bool
  pub action_of : N → Option A
  pub number_of : A → Option N

-- two games have the same moves, by the names of their states and actions
pub record IsBridge {S A V N : Type 0} (names : Naming S A V N) (lifted : Game S A) (ground : Game V N) : Type 0 where
  pub back_is : (v : V) → IsTrue (names.fits v) → names.back (names.stands v) ≡ v
  pub numbered : (n : N) (a : A) → names.action_of n ≡ Some a ↔ names.number_of a ≡ Some n
  pub first_fits : IsTrue (names.fits ground.first)
  pub first : names.stands ground.first ≡ lifted.first
  pub goal : (v : V) → IsTrue (names.fits v) → ground.IsGoal v ↔ lifted.IsGoal (names.stands v)
  pub has_action : (v : V) (n : N) → ground.IsApplicable v n → (a : A) × (names.action_of n ≡ Some a)
  pub next_applies : (v : V) (n : N) (w : V) → ground.IsNext v n w → ground.IsApplicable v n
  pub comes_applies : (s : S) (a : A) (t : S) → lifted.IsNext s a t → lifted.IsApplicable s a
  pub kept : (v : V) (a : A) → IsTrue (names.fits v) → lifted.IsApplicable (names.stands v) a → (n : N) × (names.action_of n ≡ Some a)
  pub applicable : (v : V) (n : N) (a : A) → IsTrue (names.fits v) → names.action_of n ≡ Some a → ground.IsApplicable v n ↔ lifted.IsApplicable (names.stands v) a
  pub leads : (v : V) (n : N) (a : A) (w : V) → IsTrue (names.fits v) → names.action_of n ≡ Some a → ground.IsNext v n w → IsTrue (names.fits w) × lifted.IsNext (names.stands v) a (names.stands w)
  pub comes : (v : V) (n : N) (a : A) (t : S) → IsTrue (names.fits v) → names.action_of n ≡ Some a → lifted.IsNext (names.stands v) a t → (w : V) × ground.IsNext v n w × (t ≡ names.stands w)
  pub unfair : (n : N) (a : A) → names.action_of n ≡ Some a → ground.IsUnfair n ↔ lifted.IsUnfair a

-- in each state that stands for one, a number may be taken if and only if its action may be taken in the other game
abbrev pub Agrees : {S A V N : Type 0} → Naming S A V N → (V → N → Type 0) → (S → A → Type 0) → Type 0
Agrees {S} {A} {V} {N} names May Can = (v : V) (n : N) (a : A) → IsTrue (names.fits v) → names.action_of n ≡ Some a → May v n ↔ Can (names.stands v) a

-- two policies choose the same action in each state that stands for one
abbrev pub Correspond : {S A V N : Type 0} → Naming S A V N → Policy V N → Policy S A → Type 0
Correspond names choices policy = Agrees names (λ v n. choices v ≡ Some n) (λ s a. policy s ≡ Some a)

module _ {S A V N : Type 0} (names : Naming S A V N) (lifted : Game S A) (ground : Game V N) (bridge : IsBridge names lifted ground) where
  module _ (May : V → N → Type 0) (Can : S → A → Type 0) (agrees : Agrees names May Can) where
    -- if a walk ends in a state, some walk of the other game ends in the one for which it stands
    pub walked_down : (v : V) → Walked ground May v → IsTrue (names.fits v) × Walked lifted Can (names.stands v)
    walked_down v start = (bridge.first_fits, subst (Walked lifted Can) (sym bridge.first) start)
    walked_down v (onward before number after walked open_ may next) =
        let here = walked_down before walked in
        let action = bridge.has_action before number (bridge.next_applies before number after next) in
        let led = bridge.leads before number action.0 after here.0 action.1 next in
        (led.0, onward (names.stands before) action.0 (names.stands after) here.1 (λ goal. open_ ((bridge.goal before here.0).1 goal)) ((agrees before number action.0 here.0 action.1).0 may) led.1)

    -- a state at the end of a walk that stands for this one
    pub record Stander (s : S) : Type 0 where
      pub state : V
      pub fits : IsTrue (names.fits state)
      pub walked : Walked ground May state
      pub stands : s ≡ names.stands state

    -- for each state at the end of a walk, some state at the end of a walk stands
    pub walked_up : (s : S) → Walked lifted Can s → Stander s
    walked_up s start = record { state = ground.first; fits = bridge.first_fits; walked = start; stands = sym bridge.first }
    walked_up s (onward before action after walked open_ can next) =
        let here = walked_up before walked in
        let v = here.state in
        let coming : lifted.IsNext (names.stands v) action after = subst (λ state. lifted.IsNext state action after) here.stands next in
        let number = bridge.kept v action here.fits (bridge.comes_applies (names.stands v) action after coming) in
        let come = bridge.comes v number.0 action after here.fits number.1 coming in
        let led = bridge.leads v number.0 action come.0 here.fits number.1 come.1 in
        let still : ¬ ground.IsGoal v = λ goal. open_ (subst lifted.IsGoal (sym here.stands) ((bridge.goal v here.fits).0 goal)) in
        let may : May v number.0 = (agrees v number.0 action here.fits number.1).1 (subst (λ state. Can state action) here.stands can) in
        record { state = come.0; fits = led.0; walked = onward v number.0 come.0 here.walked still may come.1; stands = come.2 }

    -- the way back from the end of a walk is the end of a walk, and stands for it
    back_walked : (s : S) → Walked lifted Can s → Walked ground May (names.back s) × (names.stands (names.back s) ≡ s)
    back_walked s walked =
        let here = walked_up s walked in
        let same : names.back s ≡ here.state = ap names.back here.stands ∙ bridge.back_is here.state here.fits in
        (subst (Walked ground May) (sym same) here.walked, ap names.stands same ∙ sym here.stands)

    -- distinct states at the ends of walks stand for distinct ones, and the ways back from distinct ones are distinct
    pub distinct_down : (states : List V) → ((v : V) → Contains states v → Walked ground May v) → AreDistinct states → AreDistinct (map names.stands states)
    distinct_down states reached once = AreDistinct-map names.stands states
        (λ v w has also same. sym (bridge.back_is v (walked_down v (reached v has)).0) ∙ ap names.back same ∙ bridge.back_is w (walked_down w (reached w also)).0)
        once

    pub distinct_up : (states : List S) → ((s : S) → Contains states s → Walked lifted Can s) → AreDistinct states → AreDistinct (map names.back states)
    distinct_up states reached once = AreDistinct-map names.back states
        (λ s t has also same. sym (back_walked s (reached s has)).1 ∙ ap names.stands same ∙ (back_walked t (reached t also)).1)
        once

    pub each_down : (states : List V) → ((v : V) → Contains states v → Walked ground May v) → (s : S) → Contains (map names.stands states) s → Walked lifted Can s
    each_down states reached s has =
        let from = Contains-from_map names.stands states s has in
        subst (Walked lifted Can) (sym from.2) (walked_down from.0 (reached from.0 from.1)).1

    pub each_up : (states : List S) → ((s : S) → Contains states s → Walked lifted Can s) → (v : V) → Contains (map names.back states) v → Walked ground May v
    each_up states reached v has =
        let from = Contains-from_map names.back states v has in
        subst (Walked ground May) (sym from.2) (back_walked from.0 (reached from.0 from.1)).0

  -- if a list has the state for which a state stands, the list of the ways back has the state
  pub back_has : (states : List S) (v : V) → IsTrue (names.fits v) → Contains states (names.stands v) → Contains (map names.back states) v
  back_has states v fits has = subst (Contains (map names.back states)) (bridge.back_is v fits) (Contains-map names.back states (names.stands v) has)

  -- more than a number of states can be reached in both games or in none
  pub more_down : (bound : ℕ) → More ground bound → More lifted bound
  more_down bound more =
      let agrees : Agrees names (λ v n. ⊤) (λ s a. ⊤) = λ v n a fits named. (λ one. one, λ one. one) in
      record {
        states = map names.stands more.states;
        once = distinct_down (λ v n. ⊤) (λ s a. ⊤) agrees more.states more.reached more.once;
        reached = each_down (λ v n. ⊤) (λ s a. ⊤) agrees more.states more.reached;
        longer = subst (λ count. bound < count) (sym (length-map more.states names.stands)) more.longer;
      }

  pub more_up : (bound : ℕ) → More lifted bound → More ground bound
  more_up bound more =
      let agrees : Agrees names (λ v n. ⊤) (λ s a. ⊤) = λ v n a fits named. (λ one. one, λ one. one) in
      record {
        states = map names.back more.states;
        once = distinct_up (λ v n. ⊤) (λ s a. ⊤) agrees more.states more.reached more.once;
        reached = each_up (λ v n. ⊤) (λ s a. ⊤) agrees more.states more.reached;
        longer = subst (λ count. bound < count) (sym (length-map more.states names.back)) more.longer;
      }

  module _ (choices : Policy V N) (policy : Policy S A) (agrees : Correspond names choices policy) where
    abbrev Chosen : V → N → Type 0
    Chosen v n = choices v ≡ Some n

    abbrev Taken : S → A → Type 0
    Taken s a = policy s ≡ Some a

    pub reach_down : (v : V) → Reach ground choices v → IsTrue (names.fits v) × Reach lifted policy (names.stands v)
    reach_down = walked_down Chosen Taken agrees

    pub reach_up : (s : S) → Reach lifted policy s → Stander Chosen Taken agrees s
    reach_up = walked_up Chosen Taken agrees

    -- corresponding policies reach as many states
    pub count_down : (count : ℕ) → ReachesCount ground choices count → ReachesCount lifted policy count
    count_down count counts = record {
      states = map names.stands counts.states;
      once = distinct_down Chosen Taken agrees counts.states counts.reached counts.once;
      reached = each_down Chosen Taken agrees counts.states counts.reached;
      all = λ s reached.
          let here = reach_up s reached in
          subst (Contains (map names.stands counts.states)) (sym here.stands) (Contains-map names.stands counts.states here.state (counts.all here.state here.walked));
      counted = length-map counts.states names.stands ∙ counts.counted;
    }

    pub count_up : (count : ℕ) → ReachesCount lifted policy count → ReachesCount ground choices count
    count_up count counts = record {
      states = map names.back counts.states;
      once = distinct_up Chosen Taken agrees counts.states counts.reached counts.once;
      reached = each_up Chosen Taken agrees counts.states counts.reached;
      all = λ v reached.
          let here = reach_down v reached in
          back_has counts.states v here.0 (counts.all (names.stands v) here.1);
      counted = length-map counts.states names.back ∙ counts.counted;
    }

    -- a choice that is applicable in a state, and the same choice in the one for which the state stands
    record Act (v : V) : Type 0 where
      number : N
      action : A
      named : names.action_of number ≡ Some action
      chosen : choices v ≡ Some number
      taken : policy (names.stands v) ≡ Some action
      applies : ground.IsApplicable v number
      applicable : lifted.IsApplicable (names.stands v) action

    act_down : IsSolution ground choices → (v : V) → Reach ground choices v → ¬ ground.IsGoal v → Act v
    act_down solution v reached open_ =
        let fits = (reach_down v reached).0 in
        let acts = solution.acts v reached open_ in
        let named = bridge.has_action v acts.0 acts.2 in
        record {
          number = acts.0;
          action = named.0;
          named = named.1;
          chosen = acts.1;
          taken = (agrees v acts.0 named.0 fits named.1).0 acts.1;
          applies = acts.2;
          applicable = (bridge.applicable v acts.0 named.0 fits named.1).0 acts.2;
        }

    act_up : IsSolution lifted policy → (v : V) → Reach ground choices v → ¬ ground.IsGoal v → Act v
    act_up solution v reached open_ =
        let here = reach_down v reached in
        let acts = solution.acts (names.stands v) here.1 (λ goal. open_ ((bridge.goal v here.0).1 goal)) in
        let named = bridge.kept v acts.0 here.0 acts.2 in
        record {
          number = named.0;
          action = acts.0;
          named = named.1;
          chosen = (agrees v named.0 acts.0 here.0 named.1).1 acts.1;
          taken = acts.1;
          applies = (bridge.applicable v named.0 acts.0 here.0 named.1).1 acts.2;
          applicable = acts.2;
        }

    -- if a state stays in a trap, the one for which it stands stays in the list of those for which the trap's states stand
    stays_down : (trap : List V) (v : V) → StaysIn ground choices trap v → Act v → StaysIn lifted policy (map names.stands trap) (names.stands v)
    stays_down trap v stays act =
        let here = reach_down v stays.reached in
        let same : stays.choice ≡ act.number = same_Some stays.choice act.number (sym stays.chosen ∙ act.chosen) in
        record {
          reached = here.1;
          open_ = λ goal. stays.open_ ((bridge.goal v here.0).1 goal);
          choice = act.action;
          chosen = act.taken;
          fair = λ fair after next.
              let come = bridge.comes v act.number act.action after here.0 act.named next in
              let unfair : ¬ ground.IsUnfair stays.choice = λ unfair. fair ((bridge.unfair act.number act.action act.named).0 (subst ground.IsUnfair same unfair)) in
              let has = stays.fair unfair come.0 (subst (λ number. ground.IsNext v number come.0) (sym same) come.1) in
              subst (Contains (map names.stands trap)) (sym come.2) (Contains-map names.stands trap come.0 has);
          unfair = λ unfair.
              let some = stays.unfair (subst ground.IsUnfair (sym same) ((bridge.unfair act.number act.action act.named).1 unfair)) in
              let led = bridge.leads v act.number act.action some.0 here.0 act.named (subst (λ number. ground.IsNext v number some.0) same some.1) in
              (names.stands some.0, led.1, Contains-map names.stands trap some.0 some.2);
        }

    stays_up : (trap : List S) (v : V) → IsTrue (names.fits v) → Reach ground choices v → StaysIn lifted policy trap (names.stands v) → Act v → StaysIn ground choices (map names.back trap) v
    stays_up trap v fits reached stays act =
        let same : stays.choice ≡ act.action = same_Some stays.choice act.action (sym stays.chosen ∙ act.taken) in
        record {
          reached = reached;
          open_ = λ goal. stays.open_ ((bridge.goal v fits).0 goal);
          choice = act.number;
          chosen = act.chosen;
          fair = λ fair after next.
              let led = bridge.leads v act.number act.action after fits act.named next in
              let unfair : ¬ lifted.IsUnfair stays.choice = λ unfair. fair ((bridge.unfair act.number act.action act.named).1 (subst lifted.IsUnfair same unfair)) in
              let has = stays.fair unfair (names.stands after) (subst (λ action. lifted.IsNext (names.stands v) action (names.stands after)) (sym same) led.1) in
              back_has trap after led.0 has;
          unfair = λ unfair.
              let some = stays.unfair (subst lifted.IsUnfair (sym same) ((bridge.unfair act.number act.action act.named).0 unfair)) in
              let come = bridge.comes v act.number act.action some.0 fits act.named (subst (λ action. lifted.IsNext (names.stands v) action some.0) same some.1) in
              let led = bridge.leads v act.number act.action come.0 fits act.named come.1 in
              (come.0, come.1, back_has trap come.0 led.0 (subst (Contains trap) {y = names.stands come.0} come.2 some.2));
        }

    -- corresponding policies are solutions of both games or of none
    pub solution_down : IsSolution ground choices → IsSolution lifted policy
    solution_down solution = record {
      acts = λ s reached open_.
          let here = reach_up s reached in
          let act = act_down solution here.state here.walked (λ goal. open_ (subst lifted.IsGoal (sym here.stands) ((bridge.goal here.state here.fits).0 goal))) in
          (act.action, subst (λ state. policy state ≡ Some act.action) (sym here.stands) act.taken, subst (λ state. lifted.IsApplicable state act.action) (sym here.stands) act.applicable);
      free = λ trap is_trap. solution.free (map names.back trap) (record {
        some = (names.back is_trap.some.0, Contains-map names.back trap is_trap.some.0 is_trap.some.1);
        each = λ v has.
            let from = Contains-from_map names.back trap v has in
            let stays = is_trap.each from.0 from.1 in
            let here = reach_up from.0 stays.reached in
            let same : v ≡ here.state = from.2 ∙ ap names.back here.stands ∙ bridge.back_is here.state here.fits in
            let there : StaysIn lifted policy trap (names.stands here.state) = subst (StaysIn lifted policy trap) here.stands stays in
            let act = act_down solution here.state here.walked (λ goal. there.open_ ((bridge.goal here.state here.fits).0 goal)) in
            subst (StaysIn ground choices (map names.back trap)) (sym same) (stays_up trap here.state here.fits here.walked there act);
      });
    }

    pub solution_up : IsSolution lifted policy → IsSolution ground choices
    solution_up solution = record {
      acts = λ v reached open_. (let act = act_up solution v reached open_ in (act.number, act.chosen, act.applies));
      free = λ trap is_trap. solution.free (map names.stands trap) (record {
        some = (names.stands is_trap.some.0, Contains-map names.stands trap is_trap.some.0 is_trap.some.1);
        each = λ s has.
            let from = Contains-from_map names.stands trap s has in
            let stays = is_trap.each from.0 from.1 in
            subst (StaysIn lifted policy (map names.stands trap)) (sym from.2) (stays_down trap from.0 stays (act_up solution from.0 stays.reached stays.open_));
      });
    }
