-- Spaces with more states and moves.
use Rattle.std.proofs.Common.{◌≡◌, ℕ, ◌+◌, ◌<◌, List, [], ◌∷◌, ◌++◌, Bool, true, Some, length, slice_get, refl, sym, ap, ◌∙◌, subst, ⊎_elim, arith}
use Rattle.std.proofs.lemmas.Bool.{cases_lt}
use Rattle.std.proofs.lemmas.List.{length-append}
use Rattle.std.proofs.lemmas.List.Elements.{Contains-append_cases, Contains-push_cases}
use Rattle.std.proofs.lemmas.Option.{same_Some, slice_get_within}
use Rattle.std.proofs.Math.ListN.{get_or-append}
use Rattle.std.proofs.Math.Seq.{get_or-append_seam}
use Rattle.fond_state.specs.Games.{onward}
use Rattle.fond_task.specs.declared.task.Act.{Act}
use Rattle.fond_task.specs.declared.task.Task.{Task}
use Rattle.fond_task.specs.Truth.{is_true}
use Rattle.fond_task.specs.Policies.{IsGoal, IsNext}
use Rattle.fond_task.proofs.Lists.{Contains_numbered, number_of}
use Rattle.fond_task.proofs.Reached.{length-next_state}
use Rattle.fond_explicit.specs.declared.space.Space.{Space}
use Rattle.fond_fixpoint.specs.Moves.{Move, IsLike, move_at, no_move}
use Rattle.fond_explicit.specs.Answers.{IsReachable, IsPast}
use Rattle.fond_explicit.specs.Spaces.{AreNexts, IsMoveOf, HasMove, IsOpened, IsSpace}
use Rattle.fond_explicit.specs.Openings.{IsSpaceFrom, IsGrown, IsFull, IsMoveKept, IsOpening}
use Rattle.fond_explicit.proofs.Distinct.{distinct-push}
use Rattle.fond_explicit.proofs.Grown.{Stay, front_was, grown_stay, nexts_stay}

move_stays : (task : Task) (old new : List (List Bool)) (move : Move) → Stay old new → IsMoveOf task old move → IsMoveOf task new move
move_stays task old new move stay one = record {
  state = one.state;
  has_state = stay move.source one.state one.has_state;
  act = one.act;
  has_act = one.has_act;
  holds = one.holds;
  flagged = one.flagged;
  leads = nexts_stay old new stay one.state move.targets one.act.outcomes one.leads;
}

moves_more : (states : List (List Bool)) (moves : List Move) (move : Move) (node : ℕ) (state : List Bool) (act : Act) → HasMove states moves node state act → HasMove states (moves ++ move ∷ []) node state act
moves_more states moves move node state act one =
    let same : move_at (moves ++ move ∷ []) one.number ≡ move_at moves one.number = get_or-append moves (move ∷ []) no_move one.number one.there in
    record {
      number = one.number;
      there = omega (arith, one.there, length-append moves (move ∷ []));
      source = ap (λ (m : Move). m.source) same ∙ one.source;
      flagged = ap (λ (m : Move). m.unfair) same ∙ one.flagged;
      leads = subst (λ targets. AreNexts states state targets act.outcomes) (sym (ap (λ (m : Move). m.targets) same)) one.leads;
    }

has_stays : (old new : List (List Bool)) → Stay old new → (moves : List Move) (node : ℕ) (state : List Bool) (act : Act) → HasMove old moves node state act → HasMove new moves node state act
has_stays old new stay moves node state act one = record {
  number = one.number;
  there = one.there;
  source = one.source;
  flagged = one.flagged;
  leads = nexts_stay old new stay state (move_at moves one.number).targets act.outcomes one.leads;
}

module _ (task : Task) (from : List Bool) (states : List (List Bool)) (moves : List Move) (opened : ℕ) (space : IsSpace task from states moves opened) where
  module _ (state : List Bool) (long : length state ≡ length task.atoms) (no_goal : ¬ IsGoal task state) (reachable : IsReachable task from state) where
    next_reachable : (number : ℕ) (next : List Bool) → IsNext task state number next → IsReachable task from next
    next_reachable number next leads = onward state number next reachable no_goal tt leads

    next_long : (number : ℕ) (next : List Bool) → IsNext task state number next → length next ≡ length task.atoms
    next_long number next leads = ap length leads.given ∙ length-next_state state leads.outcome ∙ long

    -- more states to which actions may lead from a reachable state
    pub space_grown : (new : List (List Bool)) → IsGrown task state states new → IsSpace task from new moves opened
    space_grown new grown = record {
      first = grown_stay task state states new grown 0 from space.first;
      long = λ node other is. by_case (λ s. length s ≡ length task.atoms) (λ node s at. space.long node s at) (λ number s leads. next_long number s leads) node other is;
      reachable = λ node other is. by_case (IsReachable task from) (λ node s at. space.reachable node s at) (λ number s leads. next_reachable number s leads) node other is;
      played = λ number there. move_stays task states new (move_at moves number) (grown_stay task state states new grown) (space.played number there);
      within = omega (arith, space.within, ap length grown.added, length-append states grown.more);
      opened_first = λ node small other is open_ number act has holds. has_stays states new (grown_stay task state states new grown) moves node other act
          (space.opened_first node small other (front_was states grown.more node other (omega (arith, space.within)) (ap (λ xs. slice_get xs node) (sym grown.added) ∙ is)) open_ number act has holds);
    }
      where
        by_case : (P : List Bool → Type 0) → ((node : ℕ) (s : List Bool) → slice_get states node ≡ Some s → P s) → ((number : ℕ) (s : List Bool) → IsNext task state number s → P s) →
            (node : ℕ) (s : List Bool) → slice_get new node ≡ Some s → P s
        by_case P old next node s is = ⊎_elim
            (λ early. let at = number_of states s early in old at.0 s at.1)
            (λ late. let leads = grown.each s late in next leads.0 s leads.1)
            (Contains-append_cases states grown.more s (Contains_numbered (states ++ grown.more) node s (ap (λ xs. slice_get xs node) (sym grown.added) ∙ is)))

    -- if there is no room for a next state, more states are reachable
    pub is_past : (budget : ℕ) → IsFull task state budget states → IsPast task from budget
    is_past budget full = record {
      states = states ++ full.next ∷ [];
      once = distinct-push states full.next full.lacks.once full.lacks.missing;
      reached = λ other has. ⊎_elim
          (λ early. let at = number_of states other early in space.reachable at.0 other at.1)
          (λ same. subst (IsReachable task from) same (next_reachable full.number full.next full.leads))
          (Contains-push_cases states full.next other has);
      longer = omega (arith, full.lacks.full, length-append states (full.next ∷ []));
    }

  -- one more move
  pub space_moved : (move : Move) → IsMoveOf task states move → IsSpace task from states (moves ++ move ∷ []) opened
  space_moved move one = record {
    first = space.first;
    long = space.long;
    reachable = space.reachable;
    played = λ number there. ⊎_elim
        (λ early. subst (IsMoveOf task states) (sym (get_or-append moves (move ∷ []) no_move number early)) (space.played number early))
        (λ late.
        let last : length moves ≡ number = omega (arith, length-append moves (move ∷ [])) in
        subst (λ n. IsMoveOf task states (move_at (moves ++ move ∷ []) n)) last (subst (IsMoveOf task states) (sym (get_or-append_seam moves move [] no_move)) one))
        (cases_lt number (length moves));
    within = space.within;
    opened_first = λ node small state is open_ number act has holds. moves_more states moves move node state act (space.opened_first node small state is open_ number act has holds);
  }

-- a move that is kept leads where an action leads, if its targets are the nodes of the next states
module _ (states : List (List Bool)) (state : List Bool) (act : Act) (old new : List Move) (move : Move) (flagged : move.unfair ≡ act.unfair) (leads : AreNexts states state move.targets act.outcomes) where
  last_has : new ≡ old ++ move ∷ [] → HasMove states new move.source state act
  last_has more =
      let last : move_at new (length old) ≡ move = ap (λ ms. move_at ms (length old)) more ∙ get_or-append_seam old move [] no_move in
      record {
        number = length old;
        there = omega (arith, ap length more, length-append old (move ∷ []));
        source = ap (λ (m : Move). m.source) last;
        flagged = ap (λ (m : Move). m.unfair) last ∙ flagged;
        leads = subst (λ targets. AreNexts states state targets act.outcomes) (sym (ap (λ (m : Move). m.targets) last)) leads;
      }

  like_has : (number : ℕ) → IsLike old number move.source move.unfair move.targets → HasMove states old move.source state act
  like_has number like = record {
    number = number;
    there = like.there;
    source = like.source_is;
    flagged = like.unfair_is ∙ flagged;
    leads = subst (λ targets. AreNexts states state targets act.outcomes) (sym like.targets_are) leads;
  }

  pub kept_has : IsMoveKept old new move → HasMove states new move.source state act
  kept_has kept = ⊎_elim
      last_has
      (λ same. subst (λ moves. HasMove states moves move.source state act) (sym same.0) (like_has same.1.0 same.1.1))
      kept

module _ (task : Task) (state : List Bool) where
  pub opening_none : (space : Space) → IsOpening task state space space
  opening_none space = record { keeps = λ from reachable now. now; same = refl; stays = λ node other is. is; moves_stay = λ node other act has. has }

  pub opening_then : (old between new : Space) → IsOpening task state old between → IsOpening task state between new → IsOpening task state old new
  opening_then old between new one two = record {
    keeps = λ from reachable now. two.keeps from reachable (one.keeps from reachable now);
    same = two.same ∙ one.same;
    stays = λ node other is. two.stays node other (one.stays node other is);
    moves_stay = λ node other act has. two.moves_stay node other act (one.moves_stay node other act has);
  }

  module _ (long : length state ≡ length task.atoms) (no_goal : ¬ IsGoal task state) where
    pub opening_grown : (space : Space) (states : List (List Bool)) → IsGrown task state space.states states → IsOpening task state space (record { states = states; moves = space.moves; opened = space.opened })
    opening_grown space states grown = record {
      keeps = λ from reachable now. space_grown task from space.states space.moves space.opened now state long no_goal reachable states grown;
      same = refl;
      stays = grown_stay task state space.states states grown;
      moves_stay = has_stays space.states states (grown_stay task state space.states states grown) space.moves;
    }

    opening_moved : (space : Space) (states : List (List Bool)) (moves : List Move) (move : Move) → IsGrown task state space.states states → IsMoveOf task states move → moves ≡ space.moves ++ move ∷ [] →
        IsOpening task state space (record { states = states; moves = moves; opened = space.opened })
    opening_moved space states moves move grown one more = record {
      keeps = λ from reachable now. subst (λ ms. IsSpace task from states ms space.opened) (sym more)
          (space_moved task from states space.moves space.opened (space_grown task from space.states space.moves space.opened now state long no_goal reachable states grown) move one);
      same = refl;
      stays = grown_stay task state space.states states grown;
      moves_stay = λ node other act has. subst (λ ms. HasMove states ms node other act) (sym more)
          (moves_more states space.moves move node other act (has_stays space.states states (grown_stay task state space.states states grown) space.moves node other act has));
    }

    pub opening_kept : (space : Space) (states : List (List Bool)) (moves : List Move) (move : Move) → IsGrown task state space.states states → IsMoveOf task states move → IsMoveKept space.moves moves move →
        IsOpening task state space (record { states = states; moves = moves; opened = space.opened })
    opening_kept space states moves move grown one kept = ⊎_elim
        (λ more. opening_moved space states moves move grown one more)
        (λ same. subst (λ ms. IsOpening task state space (record { states = states; moves = ms; opened = space.opened })) (sym same.0) (opening_grown space states grown))
        kept

-- one more state is opened
space_opened : (task : Task) (from : List Bool) (states : List (List Bool)) (moves : List Move) (opened : ℕ) → IsSpace task from states moves opened → opened < length states → IsOpened task states moves opened → IsSpace task from states moves (opened + 1)
space_opened task from states moves opened space left one = record {
  first = space.first;
  long = space.long;
  reachable = space.reachable;
  played = space.played;
  within = omega arith;
  opened_first = λ node small. ⊎_elim
      (λ early. space.opened_first node early)
      (λ late. let same : opened ≡ node = omega arith in subst (IsOpened task states moves) same one)
      (cases_lt node opened);
}

module _ (task : Task) (from : List Bool) (old : Space) (now : IsSpaceFrom task from old) (state : List Bool) (here : slice_get old.states old.opened ≡ Some state) where
  -- a goal is opened without moves
  pub goal_opened : IsGoal task state → IsSpace task from old.states old.moves (old.opened + 1)
  goal_opened goal = space_opened task from old.states old.moves old.opened now (slice_get_within old.states old.opened state here)
      (λ other is open_ number act has holds. absurd (open_ (subst (IsGoal task) (same_Some state other (sym here ∙ is)) goal)))

  module _ (new : Space) (opening : IsOpening task state old new) where
    new_space : IsSpaceFrom task from new
    new_space = opening.keeps from (now.reachable old.opened state here) now

    still_here : slice_get new.states old.opened ≡ Some state
    still_here = opening.stays old.opened state here

    pub kept_open : IsSpaceFrom task from new
    kept_open = new_space

    -- a state is opened if for each action that is applicable in it some move leads where it leads
    pub state_opened : ((number : ℕ) (act : Act) → slice_get task.acts number ≡ Some act → is_true state act.pre ≡ true → HasMove new.states new.moves old.opened state act) → IsSpace task from new.states new.moves (new.opened + 1)
    state_opened each = space_opened task from new.states new.moves new.opened new_space
        (subst (λ n. n < length new.states) (sym opening.same) (slice_get_within new.states old.opened state still_here))
        (subst (IsOpened task new.states new.moves) (sym opening.same) (λ other is open_ number act has holds.
        let same : state ≡ other = same_Some state other (sym still_here ∙ is) in
        subst (λ s. HasMove new.states new.moves old.opened s act) same (each number act has (ap (λ s. is_true s act.pre) same ∙ holds))))

    -- if there is no room for a next state, more states are reachable
    pub state_past : (budget : ℕ) → ¬ IsGoal task state → IsFull task state budget new.states → IsPast task from budget
    state_past budget no_goal full = is_past task from new.states new.moves new.opened new_space state (new_space.long old.opened state still_here) no_goal (now.reachable old.opened state here) budget full
