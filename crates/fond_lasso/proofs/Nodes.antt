-- The graph that a policy reaches is a flat game that tells of it.
use Rattle.std.proofs.Common.{inl, inr, ⊎_elim, ◌≡◌, ℕ, zero, suc, ◌<◌, ◌≤◌, List, [], ◌∷◌, Bool, true, false, Option, Some, None, length, map, get_or, slice_get, refl, sym, ap, ◌∙◌, subst, arith}
use Rattle.std.specs.Prelude.{◌⊎◌, ◌&&◌, nat_le, nat_lt, All, Contains}
use Rattle.std.specs.List.{AllZip, list_all}
use Rattle.std.proofs.lemmas.Bool.{and_parts, cases_Bool, false≢true}
use Rattle.std.proofs.lemmas.Bool.Decides.{nat_tests}
use Rattle.std.proofs.lemmas.List.{length-map}
use Rattle.std.proofs.lemmas.Option.{none-some, same_Some, slice_get_within, slice_get-get_or}
use Rattle.fond_task.specs.declared.task.Act.{Act}
use Rattle.fond_task.specs.declared.task.Task.{Task}
use Rattle.fond_task.specs.Policies.{IsApplicable, IsGoal, IsNext, IsUnfair, Policy, Reach, game}
use Rattle.fond_task.specs.Solutions.{IsSolution}
use Rattle.fond_task.specs.Steps.{next_state}
use Rattle.fond_task.specs.Truth.{is_true}
use Rattle.fond_task.specs.Within.{is_act_within, is_entry_within, is_form_within}
use Rattle.fond_task.proofs.Lists.{Contains_numbered, number_of}
use Rattle.fond_task.proofs.Found.{all_at}
use Rattle.fond_reach.specs.declared.node.Node.{Node}
use Rattle.fond_reach.specs.declared.node.Node.TheVariants.{Goal, Stuck, Acts}
use Rattle.fond_reach.specs.Graphs.{IsGraph, IsNode, Leads}
use Rattle.fond_reach.proofs.Pairs.{zip_at}
use Rattle.fond_games.specs.declared.kind.Kind as kinds
use Rattle.fond_games.specs.declared.kind.Kind.{Kind}
use Rattle.fond_games.specs.declared.kind.Kind.TheVariants.{Fair, Unfair}
use Rattle.fond_games.specs.Findings.{AreReached, ShowsStuck, ShowsLasso, TellsRank}
use Rattle.fond_games.specs.Graphs.{successors_of}
use Rattle.fond_games.specs.Keeping.{MovesOn}
use Rattle.fond_games.specs.Lassos.{ActsEverywhere, Step}
use Rattle.fond_games.specs.Levels.{AreLevels, kind_at}
use Rattle.fond_games.specs.Rankings.{IsLeastRanking}
use Rattle.fond_games.proofs.Lists.{Contains-none}
use Rattle.fond_games.proofs.Walking.{step_of}
use Rattle.fond_lasso.specs.Flat.{HasAct, edges_of, kind_of, picker, picker_of}
use Rattle.fond_lasso.specs.Judged.{AreAllLevelled, IsHeld, IsStem}
use Rattle.fond_lasso.proofs.Numbers.{number_in, numbered, same_state}
use Rattle.fond_lasso.proofs.Drawn.{AreEdges, AreKinds, AreStates, held, moves_on, solved, stuck}

map_at : {A B : Type 0} (f : A → B) (xs : List A) (i : ℕ) (x : A) (d : B) → slice_get xs i ≡ Some x → get_or (map f xs) i d ≡ f x
map_at f [] i x d is = absurd (none-some x is)
map_at f (y ∷ ys) zero x d is = ap f (same_Some y x is)
map_at f (y ∷ ys) (suc i) x d is = map_at f ys i x d is

-- at a place of the second list, the first one has an element that is related
zip_back : {A B : Type 0} (R : A → B → Type 0) (xs : List A) (ys : List B) → AllZip R xs ys → (i : ℕ) (y : B) → slice_get ys i ≡ Some y → (x : A) × (slice_get xs i ≡ Some x) × R x y
zip_back R xs [] h i y is = absurd (none-some y is)
zip_back R [] (b ∷ ys) h i y is = absurd h
zip_back R (a ∷ xs) (b ∷ ys) h zero y is = (a, refl, subst (λ z. R a z) (same_Some b y is) h.0)
zip_back R (a ∷ xs) (b ∷ ys) h (suc i) y is = zip_back R xs ys h.1 i y is

zip_long : {A B : Type 0} (R : A → B → Type 0) (xs : List A) (ys : List B) → AllZip R xs ys → length xs ≡ length ys
zip_long R [] [] h = refl
zip_long R [] (b ∷ ys) h = absurd h
zip_long R (a ∷ xs) [] h = absurd h
zip_long R (a ∷ xs) (b ∷ ys) h = ap suc (zip_long R xs ys h.1)

-- an action of a task has an outcome
some_outcome : (task : Task) (number : ℕ) (act : Act) → slice_get task.acts number ≡ Some act → 0 < length act.outcomes
some_outcome task number act at =
    let within = all_at (is_act_within (length task.atoms)) task.acts number act task.acts_within at in
    let both = and_parts (is_form_within (length task.atoms) act.pre && nat_lt 0 (length act.outcomes) && nat_le (length act.outcomes) 256) (list_all (list_all (is_entry_within (length task.atoms))) act.outcomes) within in
    let some : nat_lt 0 (length act.outcomes) ≡ true = (and_parts (is_form_within (length task.atoms) act.pre) (nat_lt 0 (length act.outcomes)) (and_parts (is_form_within (length task.atoms) act.pre && nat_lt 0 (length act.outcomes)) (nat_le (length act.outcomes) 256) both.0).0).1 in
    grind (arith, nat_tests, some)

-- whether an opponent picks the outcome of an action
is_picked : (task : Task) (action : ℕ) → IsUnfair task action ⊎ (¬ IsUnfair task action)
is_picked task action = go (slice_get task.acts action) refl
  where
    flagged : (act : Act) → slice_get task.acts action ≡ Some act → (act.unfair ≡ true) ⊎ (act.unfair ≡ false) → IsUnfair task action ⊎ (¬ IsUnfair task action)
    flagged act is (inl yes_is) = inl (record { act = act; numbered = is; flagged = yes_is })
    flagged act is (inr no_is) = inr (λ unfair.
        let same : act ≡ unfair.act = same_Some act unfair.act (sym is ∙ unfair.numbered) in
        false≢true (sym no_is ∙ ap (λ (a : Act). a.unfair) same ∙ unfair.flagged))

    go : (o : Option Act) → slice_get task.acts action ≡ o → IsUnfair task action ⊎ (¬ IsUnfair task action)
    go None is = inr (λ unfair. none-some unfair.act (sym is ∙ unfair.numbered))
    go (Some act) is = flagged act is (cases_Bool act.unfair)

is_goal_or_not : (task : Task) (state : List Bool) → IsGoal task state ⊎ (¬ IsGoal task state)
is_goal_or_not task state = ⊎_elim (λ is. inl is) (λ fails. inr (λ is. false≢true (sym fails ∙ is))) (cases_Bool (is_true state task.goal))

picker_no_goal : (b : Bool) → ¬ (picker b ≡ kinds.TheVariants.Goal)
picker_no_goal true is = cc
picker_no_goal false is = cc

no_goal_picks : (o : Option Act) → ¬ (picker_of o ≡ kinds.TheVariants.Goal)
no_goal_picks None is = cc
no_goal_picks (Some act) is = picker_no_goal act.unfair is

module _ (task : Task) (policy : Policy) (states : List (List Bool)) (nodes : List Node) (is : IsGraph task policy states nodes) where
  told_at : (node : ℕ) (state : List Bool) → slice_get states node ≡ Some state → (n : Node) × (slice_get nodes node ≡ Some n) × IsNode task policy states state n
  told_at node state at = zip_at (IsNode task policy states) states nodes is.told node state at

  pub listed : AreStates (game task) policy states
  listed = record { first = is.first; once = is.once; reached = is.reached; all = is.all }

  pub are_reached : (limit : ℕ) → length states ≤ limit → AreReached (game task) policy limit states
  are_reached limit few = record { once = is.once; reached = is.reached; all = is.all; few = few }

  pub long : length nodes ≡ length states
  long = sym (zip_long (IsNode task policy states) states nodes is.told)

  -- the task has the action of each node
  pub have_acts : All (HasAct task) nodes
  have_acts node other within =
      let there = slice_get-get_or nodes node other within in
      let found = zip_back (IsNode task policy states) states nodes is.told node (get_or nodes node other) there in
      go (get_or nodes node other) found.0 found.2
    where
      go : (n : Node) (state : List Bool) → IsNode task policy states state n → HasAct task n
      go Goal state told = tt
      go Stuck state told = tt
      go (Acts number nexts) state told = slice_get_within task.acts number told.2.act told.2.numbered

  -- the edges out of a node are the steps from its state
  step_by : (n : Node) (state : List Bool) → IsNode task policy states state n → (after : ℕ) → Contains (edges_of n) after → (other : List Bool) × (slice_get states after ≡ Some other) × Step (game task) policy state other
  step_by Goal state told after has = absurd (Contains-none after has)
  step_by Stuck state told after has = absurd (Contains-none after has)
  step_by (Acts number nexts) state told after has =
      let at = number_of nexts after has in
      let found = zip_back (Leads states state) told.2.act.outcomes nexts told.2.each at.0 after at.1 in
      let next : IsNext task state number (next_state state found.0) =
      record { act = told.2.act; numbered = told.2.numbered; holds = told.2.holds; outcome = found.0; one = Contains_numbered told.2.act.outcomes at.0 found.0 found.1; given = refl } in
      (next_state state found.0, found.2, step_of (game task) policy state number (next_state state found.0) told.0 told.1 next)

  edge_by : (n : Node) (state : List Bool) → IsNode task policy states state n → (other : List Bool) → Step (game task) policy state other → (after : ℕ) × Contains (edges_of n) after × (slice_get states after ≡ Some other)
  edge_by Goal state told other step = absurd (step.open_ told)
  edge_by Stuck state told other step = absurd (told.1 step.choice step.chosen (record { act = step.next.act; numbered = step.next.numbered; holds = step.next.holds }))
  edge_by (Acts number nexts) state told other step =
      let next = step.next in
      let same : number ≡ step.choice = same_Some number step.choice (sym told.1 ∙ step.chosen) in
      let own : told.2.act ≡ next.act = same_Some told.2.act next.act (sym told.2.numbered ∙ ap (slice_get task.acts) same ∙ next.numbered) in
      let at = number_of next.act.outcomes next.outcome next.one in
      let found = zip_at (Leads states state) told.2.act.outcomes nexts told.2.each at.0 next.outcome (ap (λ (a : Act). slice_get a.outcomes at.0) own ∙ at.1) in
      (found.0, Contains_numbered nexts at.0 found.0 found.1, found.2 ∙ ap (λ s. Some s) (sym next.given))

  pub drawn : (graph : List (List ℕ)) → graph ≡ map edges_of nodes → AreEdges (game task) policy states graph
  drawn graph made = record {
    long = ap length made ∙ length-map nodes edges_of ∙ long;
    steps = λ node after state edge at.
        let n = told_at node state at in
        step_by n.0 state n.2 after (subst (λ (xs : List ℕ). Contains xs after) (out node n.0 n.1) edge);
    edges = λ node state other at step.
        let n = told_at node state at in
        let found = edge_by n.0 state n.2 other step in
        (found.0, subst (λ (xs : List ℕ). Contains xs found.0) (sym (out node n.0 n.1)) found.1, found.2);
  }
    where
      out : (node : ℕ) (n : Node) → slice_get nodes node ≡ Some n → successors_of graph node ≡ edges_of n
      out node n at = ap (λ (g : List (List ℕ)). successors_of g node) made ∙ map_at edges_of nodes node n [] at

  -- a dead end is a state in which the policy is stuck
  pub stuck_finding : (graph : List (List ℕ)) → graph ≡ map edges_of nodes → (node : ℕ) (stem : List ℕ) → slice_get nodes node ≡ Some Stuck → IsStem graph node stem → (¬ IsSolution task policy) × ShowsStuck (game task) policy states stem
  stuck_finding graph made node stem at stemmed =
      let found = zip_back (IsNode task policy states) states nodes is.told node Stuck at in
      stuck (game task) policy states listed graph (drawn graph made) node found.0 stem found.1 found.2.0 (λ acting. found.2.1 acting.0 acting.1 acting.2) stemmed

  module _ (none : (n : ℕ) → ¬ (slice_get nodes n ≡ Some Stuck)) where
    acts_at : (node : ℕ) (state : List Bool) → slice_get states node ≡ Some state → ¬ IsGoal task state → (number : ℕ) × (policy state ≡ Some number) × IsApplicable task state number
    acts_at node state at open_ = let n = told_at node state at in go n.0 n.1 n.2
      where
        go : (n : Node) → slice_get nodes node ≡ Some n → IsNode task policy states state n → (number : ℕ) × (policy state ≡ Some number) × IsApplicable task state number
        go Goal there told = absurd (open_ told)
        go Stuck there told = absurd (none node there)
        go (Acts number nexts) there told = (number, told.1, record { act = told.2.act; numbered = told.2.numbered; holds = told.2.holds })

    pub acts : ActsEverywhere (game task) policy
    acts state reached open_ = let node = number_of states state (is.all state reached) in acts_at node.0 state node.1 open_

    -- a choice may lead somewhere in each reached state that is no goal
    onwards : (state : List Bool) → Reach task policy state → ¬ IsGoal task state → (other : List Bool) × Step (game task) policy state other
    onwards state reached open_ =
        let acting = acts state reached open_ in
        let own = acting.2.act in
        let outcome = get_or own.outcomes 0 [] in
        let there = slice_get-get_or own.outcomes 0 [] (some_outcome task acting.0 own acting.2.numbered) in
        let next : IsNext task state acting.0 (next_state state outcome) = record { act = own; numbered = acting.2.numbered; holds = acting.2.holds; outcome = outcome; one = Contains_numbered own.outcomes 0 outcome there; given = refl } in
        (next_state state outcome, step_of (game task) policy state acting.0 (next_state state outcome) open_ acting.1 next)

    pub known : (ks : List Kind) → ks ≡ map (kind_of task) nodes → AreKinds (game task) policy states ks
    known ks made = record {
      long = ap length made ∙ length-map nodes (kind_of task) ∙ long;
      goal = λ node state at kind. let n = told_at node state at in goal_by n.0 state n.2 (sym (own node n.0 n.1) ∙ kind);
      goals = λ node state at goal. let n = told_at node state at in own node n.0 n.1 ∙ goals_by n.0 state n.2 goal;
      fair = λ node state choice at open_ chosen fair. let n = told_at node state at in own node n.0 n.1 ∙ fair_by n.0 node state n.1 n.2 open_ choice chosen fair;
      unfair = λ node state choice at open_ chosen unfair. let n = told_at node state at in own node n.0 n.1 ∙ unfair_by n.0 node state n.1 n.2 open_ choice chosen unfair;
    }
      where
        own : (node : ℕ) (n : Node) → slice_get nodes node ≡ Some n → kind_at ks node ≡ kind_of task n
        own node n at = ap (λ (k : List Kind). kind_at k node) made ∙ map_at (kind_of task) nodes node n kinds.TheVariants.Goal at

        goal_by : (n : Node) (state : List Bool) → IsNode task policy states state n → kind_of task n ≡ kinds.TheVariants.Goal → IsGoal task state
        goal_by Goal state told kind = told
        goal_by Stuck state told kind = absurd (picker_no_goal false kind)
        goal_by (Acts number nexts) state told kind = absurd (no_goal_picks (slice_get task.acts number) kind)

        goals_by : (n : Node) (state : List Bool) → IsNode task policy states state n → IsGoal task state → kind_of task n ≡ kinds.TheVariants.Goal
        goals_by Goal state told goal = refl
        goals_by Stuck state told goal = absurd (told.0 goal)
        goals_by (Acts number nexts) state told goal = absurd (told.0 goal)

        fair_by : (n : Node) (node : ℕ) (state : List Bool) → slice_get nodes node ≡ Some n → IsNode task policy states state n → ¬ IsGoal task state → (choice : ℕ) → policy state ≡ Some choice → ¬ IsUnfair task choice → kind_of task n ≡ Fair
        fair_by Goal node state at told open_ choice chosen fair = absurd (open_ told)
        fair_by Stuck node state at told open_ choice chosen fair = refl
        fair_by (Acts number nexts) node state at told open_ choice chosen fair =
            let same : number ≡ choice = same_Some number choice (sym told.1 ∙ chosen) in
            ap picker_of told.2.numbered
            ∙ ap picker (⊎_elim (λ yes_is. absurd (fair (record { act = told.2.act; numbered = sym (ap (slice_get task.acts) same) ∙ told.2.numbered; flagged = yes_is }))) (λ no_is. no_is) (cases_Bool told.2.act.unfair))

        unfair_by : (n : Node) (node : ℕ) (state : List Bool) → slice_get nodes node ≡ Some n → IsNode task policy states state n → ¬ IsGoal task state → (choice : ℕ) → policy state ≡ Some choice → IsUnfair task choice → kind_of task n ≡ Unfair
        unfair_by Goal node state at told open_ choice chosen unfair = absurd (open_ told)
        unfair_by Stuck node state at told open_ choice chosen unfair = absurd (none node at)
        unfair_by (Acts number nexts) node state at told open_ choice chosen unfair =
            let same : choice ≡ number = same_Some choice number (sym chosen ∙ told.1) in
            ap picker_of (ap (slice_get task.acts) (sym same) ∙ unfair.numbered) ∙ ap picker unfair.flagged

    module _ (ks : List Kind) (named : ks ≡ map (kind_of task) nodes) (graph : List (List ℕ)) (made : graph ≡ map edges_of nodes) where
      pub moving : MovesOn ks graph
      moving = moves_on (game task) policy states listed graph (drawn graph made) ks (known ks named) onwards

      pub ranked_finding : (table : List ℕ) → AreLevels ks graph table → AreAllLevelled table → IsSolution task policy × ((rank : List Bool → ℕ) × IsLeastRanking (game task) policy rank × AllZip (TellsRank (game task) rank) states table)
      ranked_finding table levels levelled =
          solved (game task) policy states listed graph (drawn graph made) ks (known ks named) table levels acts (is_picked task) (is_goal_or_not task) moving levelled (number_in same_state states) (λ node state at. numbered same_state states is.once node state at)

      pub held_finding : (stem cycle : List ℕ) → IsHeld ks graph stem cycle → (¬ IsSolution task policy) × ActsEverywhere (game task) policy × ShowsLasso (game task) policy states stem cycle
      held_finding stem cycle cycled = let found = held (game task) policy states listed graph (drawn graph made) ks (known ks named) stem cycle cycled in (found.0, acts, found.1)
