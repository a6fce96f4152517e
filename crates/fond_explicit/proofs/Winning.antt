-- The nodes with ranks are choices that win.
use Rattle.std.proofs.Common.{◌≡◌, ℕ, ◌<◌, List, Bool, true, false, Some, length, slice_get, refl, sym, ap, ◌∙◌, subst, ⊎_elim, inl, inr, arith}
use Rattle.std.specs.Prelude.{◌&&◌, Contains, if◌then◌else◌}
use Rattle.std.specs.List.{list_all, list_any}
use Rattle.std.proofs.lemmas.Bool.{and_parts, false≢true, true≢false, ltb-true}
use Rattle.std.proofs.lemmas.Option.{same_Some, slice_get_within}
use Rattle.fond_task.specs.declared.task.Act.{Act}
use Rattle.fond_task.specs.declared.task.Entry.{Entry}
use Rattle.fond_task.specs.declared.task.Task.{Task}
use Rattle.fond_task.specs.Truth.{is_true}
use Rattle.fond_task.specs.Steps.{next_state}
use Rattle.fond_task.specs.Policies.{IsGoal, IsNext}
use Rattle.fond_task.proofs.Lists.{same_numbered}
use Rattle.fond_fixpoint.specs.declared.fate.Fate.{Fate}
use Rattle.fond_fixpoint.specs.declared.fate.Fate.TheVariants.{Open, Goal, Ranked, Fallen}
use Rattle.fond_fixpoint.specs.Moves.{Move, move_at}
use Rattle.fond_fixpoint.specs.Fates.{fate_of, is_open, is_marked, is_kept, is_below, AreSettled}
use Rattle.fond_explicit.specs.Answers.{ChoiceView, IsHeld, IsNearer, IsReachable, IsWinning, AreWinning}
use Rattle.fond_explicit.specs.Spaces.{AreNexts, IsSpace, AreRanks, AreSound}
use Rattle.fond_explicit.proofs.Nexts.{some_next, each_next}

is_held : (task : Task) (choices : List ChoiceView) (rank : ℕ) (state : List Bool) → IsNearer task choices rank state → IsHeld task choices state
is_held task choices rank state nearer = ⊎_elim (λ goal. inl goal) (λ small. inr (record { choice = small.choice; one = small.one; here = small.here })) nearer

module _ (task : Task) (from : List Bool) (states : List (List Bool)) (moves : List Move) (opened : ℕ) (space : IsSpace task from states moves opened)
    (goals : List Bool) (sound : AreSound task states goals) (whole : length goals ≡ length states) (fates : List Fate) (settled : AreSettled goals moves fates)
    (choices : List ChoiceView) (ranks : AreRanks states moves fates (length states) choices) where
  module _ (node : ℕ) (state : List Bool) (has_state : slice_get states node ≡ Some state) where
    is_goal : fate_of fates node ≡ Goal → IsGoal task state
    is_goal is = sound node state has_state (sym (settled.goals_hold node) ∙ ap is_marked is)

    never_open : ¬ fate_of fates node ≡ Open
    never_open is =
        let inside = slice_get_within states node state has_state in
        false≢true (sym (settled.settled node (omega (arith, whole, inside))) ∙ ap is_open is)

    -- the state of a node that has not fallen is a goal or has a choice
    pub held : is_kept (fate_of fates node) ≡ true → IsHeld task choices state
    held keeps = by (fate_of fates node) refl keeps
      where
        by : (fate : Fate) → fate_of fates node ≡ fate → is_kept fate ≡ true → IsHeld task choices state
        by Open is keeps = absurd (never_open is)
        by Goal is keeps = inl (is_goal is)
        by (Ranked rank move) is keeps = let found = ranks.whole node rank move state (slice_get_within states node state has_state) has_state is in inr (record { choice = found.0; one = found.1; here = found.2 })
        by (Fallen round) is keeps = absurd (false≢true keeps)

    -- the state of a node below a rank is a goal or has a choice of a smaller rank
    nearer : (rank : ℕ) → is_below rank (fate_of fates node) ≡ true → IsNearer task choices rank state
    nearer bound below = by (fate_of fates node) refl below
      where
        by : (fate : Fate) → fate_of fates node ≡ fate → is_below bound fate ≡ true → IsNearer task choices bound state
        by Open is below = absurd (false≢true below)
        by Goal is below = inl (is_goal is)
        by (Ranked rank move) is below =
            let found = ranks.whole node rank move state (slice_get_within states node state has_state) has_state is in
            let small : rank < bound = ltb-true rank bound below in
            inr (record { choice = found.0; one = found.1; here = found.2; smaller = omega (arith, found.3) })
        by (Fallen round) is below = absurd (false≢true below)

  module _ (choice : ChoiceView) (act : Act) (number : ℕ) (has_act : slice_get task.acts choice.act ≡ Some act) (holds : is_true choice.state act.pre ≡ true)
      (leads : AreNexts states choice.state (move_at moves number).targets act.outcomes) where
    abbrev targets : List ℕ
    targets = (move_at moves number).targets

    next_by : (outcome : List Entry) → Contains act.outcomes outcome → IsNext task choice.state choice.act (next_state choice.state outcome)
    next_by outcome one = record { act = act; numbered = has_act; holds = holds; outcome = outcome; one = one; given = refl }

    -- what holds of the state of each node to which an outcome leads holds of each next state
    each_after : (P : List Bool → Type 0) (test : ℕ → Bool) → ((node : ℕ) (after : List Bool) → slice_get states node ≡ Some after → test node ≡ true → P after) → list_all test targets ≡ true →
        (after : List Bool) → IsNext task choice.state choice.act after → P after
    each_after P test holds_of all after next =
        let same : next.act ≡ act = same_numbered task.acts choice.act next.act act next.numbered has_act in
        let one : Contains act.outcomes next.outcome = subst (λ (a : Act). Contains a.outcomes next.outcome) same next.one in
        let to = each_next states choice.state test targets act.outcomes leads all next.outcome one in
        subst P (sym next.given) (holds_of to.node (next_state choice.state next.outcome) to.has_state to.passes)

    some_after : (P : List Bool → Type 0) (test : ℕ → Bool) → ((node : ℕ) (after : List Bool) → slice_get states node ≡ Some after → test node ≡ true → P after) → list_any test targets ≡ true →
        (after : List Bool) × IsNext task choice.state choice.act after × P after
    some_after P test holds_of some =
        let to = some_next states choice.state test targets act.outcomes leads some in
        (next_state choice.state to.0, next_by to.0 to.1, holds_of to.2.node (next_state choice.state to.0) to.2.has_state to.2.passes)

    abbrev Held : List Bool → Type 0
    Held = IsHeld task choices

    abbrev Nearer : List Bool → Type 0
    Nearer = IsNearer task choices choice.rank

    wins_by : IsReachable task from choice.state → (unfair : Bool) → act.unfair ≡ unfair →
        (if unfair then list_all (λ node. is_below choice.rank (fate_of fates node)) targets else (list_all (λ node. is_kept (fate_of fates node)) targets && list_any (λ node. is_below choice.rank (fate_of fates node)) targets)) ≡ true →
        IsWinning task from choices choice
    wins_by reachable true flag earned =
        let near : (after : List Bool) → IsNext task choice.state choice.act after → Nearer after
        = each_after Nearer (λ node. is_below choice.rank (fate_of fates node)) (λ node after has below. nearer node after has choice.rank below) earned in
        record {
          reachable = reachable;
          applicable = record { act = act; numbered = has_act; holds = holds };
          closed = λ after next. is_held task choices choice.rank after (near after next);
          fair = λ is_fair. absurd (is_fair (record { act = act; numbered = has_act; flagged = flag }));
          unfair = λ is_unfair after next. near after next;
        }
    wins_by reachable false flag earned =
        let both = and_parts _ _ earned in
        record {
          reachable = reachable;
          applicable = record { act = act; numbered = has_act; holds = holds };
          closed = each_after Held (λ node. is_kept (fate_of fates node)) (λ node after has keeps. held node after has keeps) both.0;
          fair = λ is_fair. some_after Nearer (λ node. is_below choice.rank (fate_of fates node)) (λ node after has below. nearer node after has choice.rank below) both.1;
          unfair = λ is_unfair after next. absurd (true≢false (sym is_unfair.flagged ∙ ap (λ (a : Act). a.unfair) (same_numbered task.acts choice.act is_unfair.act act is_unfair.numbered has_act) ∙ flag));
        }

  -- each choice wins
  pub wins : (choice : ChoiceView) → Contains choices choice → IsWinning task from choices choice
  wins choice has =
      let ranked = ranks.sound choice has in
      let earned = settled.ranks_hold ranked.node choice.rank ranked.by ranked.ranked in
      let played = space.played ranked.by earned.there in
      let same : played.state ≡ choice.state = same_Some played.state choice.state (sym played.has_state ∙ ap (slice_get states) earned.source ∙ ranked.has_state) in
      let has_act : slice_get task.acts choice.act ≡ Some played.act = ap (slice_get task.acts) ranked.takes ∙ played.has_act in
      let holds : is_true choice.state played.act.pre ≡ true = ap (λ s. is_true s played.act.pre) (sym same) ∙ played.holds in
      let leads : AreNexts states choice.state (move_at moves ranked.by).targets played.act.outcomes = subst (λ s. AreNexts states s (move_at moves ranked.by).targets played.act.outcomes) same played.leads in
      let earns_by : Bool → Type 0 = λ unfair. (if unfair then list_all (λ node. is_below choice.rank (fate_of fates node)) (move_at moves ranked.by).targets
      else (list_all (λ node. is_kept (fate_of fates node)) (move_at moves ranked.by).targets && list_any (λ node. is_below choice.rank (fate_of fates node)) (move_at moves ranked.by).targets)) ≡ true in
      wins_by choice played.act ranked.by has_act holds leads (space.reachable ranked.node choice.state ranked.has_state) played.act.unfair refl (subst earns_by played.flagged earned.earned)

  -- the ranks win from the first state if its node has not fallen
  pub are_winning : is_kept (fate_of fates 0) ≡ true → AreWinning task from choices
  are_winning keeps = record { start = held 0 from space.first keeps; once = ranks.once; each = wins }
