-- Runs of the fixpoint over a space: their goals, their moves, and what they decide.
use Rattle.std.proofs.Common.{◌≡◌, ℕ, zero, suc, ◌+◌, ◌<◌, ◌≤◌, List, [], ◌∷◌, ◌++◌, Bool, true, false, Some, length, get_or, slice_get, refl, sym, ap, ◌∙◌, subst, ⊎_elim, arith}
use Rattle.std.specs.Prelude.{◌&&◌, ◌||◌, nat_le}
use Rattle.std.specs.List.{AllByRecursion}
use Rattle.std.proofs.lemmas.Bool.{false≢true, true≢false, or_parts, or_cases, leb-false, lt-leb, cases_lt}
use Rattle.std.proofs.lemmas.List.Elements.{All-from_recursion}
use Rattle.std.proofs.lemmas.Option.{slice_get_within, same_Some, none-some}
use Rattle.std.proofs.Math.ListN.{get_or-append}
use Rattle.std.proofs.Math.Seq.{get_or-append_seam}
use Rattle.fond_state.specs.Games.{start}
use Rattle.fond_text.specs.Lists.{AreDistinct}
use Rattle.fond_store.specs.Stores.{Adds}
use Rattle.fond_task.specs.declared.task.Task.{Task}
use Rattle.fond_task.specs.declared.task.Entry.{Entry}
use Rattle.fond_task.specs.Truth.{is_true}
use Rattle.fond_task.specs.Layers.{CubeView}
use Rattle.fond_task.specs.Certificates.{LiesInLayers}
use Rattle.fond_task.proofs.Lists.{Contains-cases}
use Rattle.fond_fixpoint.specs.declared.fate.Fate.{Fate}
use Rattle.fond_fixpoint.specs.declared.fate.Fate.TheVariants.{Open, Goal, Ranked, Fallen}
use Rattle.fond_explicit.specs.declared.space.Space.{Space}
use Rattle.fond_fixpoint.specs.Moves.{Move, move_at}
use Rattle.fond_fixpoint.specs.Fates.{fate_of, is_kept, AreWithin}
use Rattle.fond_explicit.specs.Answers.{ChoiceView, IsReachable, IsPast, AreStuck, AreWinning}
use Rattle.fond_explicit.specs.Spaces.{AreNexts, IsSpace, AreGoals, AreHopeful, AreSound, AreRounds, AreRanks}
use Rattle.fond_explicit.specs.Openings.{IsSpaceFrom}
use Rattle.fond_explicit.specs.Runs.{IsRun}
use Rattle.fond_explicit.proofs.Distinct.{nothing_in}
use Rattle.fond_explicit.proofs.Stuck.{are_stuck, lies_fallen}
use Rattle.fond_explicit.proofs.Winning.{are_winning}

-- a space of one state
one_space : (task : Task) (from : List Bool) → length from ≡ length task.atoms → IsSpace task from (from ∷ []) [] 0
one_space task from long = record {
  first = refl;
  long = λ node state is. ap length (sym (only node state is)) ∙ long;
  reachable = λ node state is. subst (IsReachable task from) (only node state is) start;
  played = λ number there. absurd (omega (arith, there));
  within = omega arith;
  opened_first = λ node small. absurd (omega (arith, small));
}
  where
    only : (node : ℕ) (state : List Bool) → slice_get (from ∷ []) node ≡ Some state → from ≡ state
    only zero state is = same_Some from state is
    only (suc node) state is = absurd (none-some state is)

pub begun_space : (task : Task) (from : List Bool) → length from ≡ length task.atoms → (state : List Bool) → state ≡ from → (number : ℕ) (states : List (List Bool)) → Adds [] state number states → (moves : List Move) → moves ≡ [] → IsSpace task from states moves 0
begun_space task from long state same number states adds moves none =
    let one : states ≡ from ∷ [] = ⊎_elim (λ kept. absurd (nothing_in state kept.0)) (λ last. last.2 ∙ ap (λ s. s ∷ []) same) adds.kept_or_last in
    subst (λ ms. IsSpace task from states ms 0) (sym none) (subst (λ ss. IsSpace task from ss [] 0) (sym one) (one_space task from long))

nexts_within : (states : List (List Bool)) (state : List Bool) (nodes : List ℕ) (outcomes : List (List Entry)) → AreNexts states state nodes outcomes → AllByRecursion (λ node. node < length states) nodes
nexts_within states state [] outcomes nexts = tt
nexts_within states state (node ∷ nodes) [] nexts = absurd nexts
nexts_within states state (node ∷ nodes) (outcome ∷ outcomes) nexts = (slice_get_within states node _ nexts.0, nexts_within states state nodes outcomes nexts.1)

-- the moves of a space are over its states
pub moves_within : (task : Task) (from : List Bool) (space : Space) → IsSpaceFrom task from space → AreWithin (length space.states) space.moves
moves_within task from space now number there =
    let played = now.played number there in (
      slice_get_within space.states (move_at space.moves number).source played.state played.has_state,
      All-from_recursion (λ node. node < length space.states) (move_at space.moves number).targets (nexts_within space.states played.state (move_at space.moves number).targets played.act.outcomes played.leads),
    )

-- one more state is known to be a goal or not
pub goals_more : (task : Task) (states : List (List Bool)) (opened : ℕ) (hopeful : Bool) (nodes : ℕ) (goals after : List Bool) (one : Bool) → length goals ≡ nodes →
    ((node : ℕ) (state : List Bool) → node < nodes → slice_get states node ≡ Some state → get_or goals node false ≡ (is_true state task.goal || (hopeful && nat_le opened node))) →
    ((state : List Bool) → slice_get states nodes ≡ Some state → one ≡ (is_true state task.goal || (hopeful && nat_le opened nodes))) → after ≡ goals ++ one ∷ [] →
    (node : ℕ) (state : List Bool) → node < nodes + 1 → slice_get states node ≡ Some state → get_or after node false ≡ (is_true state task.goal || (hopeful && nat_le opened node))
goals_more task states opened hopeful nodes goals after one long before here more node state small is = ⊎_elim
    (λ early. ap (λ gs. get_or gs node false) more ∙ get_or-append goals (one ∷ []) false node (omega (arith, long)) ∙ before node state early is)
    (λ late.
    let same : length goals ≡ node = omega (arith, long) in
    let same_node : nodes ≡ node = omega (arith, long) in
    ap (λ gs. get_or gs node false) more ∙ ap (λ n. get_or (goals ++ one ∷ []) n false) (sym same) ∙ get_or-append_seam goals one [] false ∙ here state (ap (slice_get states) same_node ∙ is) ∙ ap (λ n. is_true state task.goal || (hopeful && nat_le opened n)) same_node)
    (cases_lt node nodes)

pub hopeful_goals : (task : Task) (states : List (List Bool)) (opened : ℕ) (goals : List Bool) → AreGoals task states opened true goals → AreHopeful task states opened goals
hopeful_goals task states opened goals are node state is none =
    let both = or_parts (is_true state task.goal) (nat_le opened node) (sym (are node state is) ∙ none) in
    (leb-false opened node both.1, λ goal. false≢true (sym both.0 ∙ goal))

pub sound_goals : (task : Task) (states : List (List Bool)) (opened : ℕ) (goals : List Bool) → AreGoals task states opened false goals → AreSound task states goals
sound_goals task states opened goals are node state is some = ⊎_elim (λ goal. goal) (λ wrong. absurd (false≢true wrong)) (or_cases (is_true state task.goal) false (sym (are node state is) ∙ some))

-- if all states are opened, the two kinds of runs are one
pub run_opened : (task : Task) (space : Space) (fates : List Fate) → length space.states ≤ space.opened → IsRun task space true fates → IsRun task space false fates
run_opened task space fates all run = record {
  goals = run.goals;
  whole = run.whole;
  goals_are = λ node state is. run.goals_are node state is ∙ ap (λ b. is_true state task.goal || b) (lt-leb space.opened node (omega (arith, all, slice_get_within space.states node state is)));
  settled = run.settled;
}

pub fallen_of : (fate : Fate) → is_kept fate ≡ false → (round : ℕ) × (fate ≡ Fallen round)
fallen_of Open is = absurd (true≢false is)
fallen_of Goal is = absurd (true≢false is)
fallen_of (Ranked rank by) is = absurd (true≢false is)
fallen_of (Fallen round) is = (round, refl)

module _ (task : Task) (from : List Bool) (space : Space) (now : IsSpaceFrom task from space) (distinct : AreDistinct space.states) where
  module _ (fates : List Fate) (run : IsRun task space true fates) (layers : List (List CubeView)) (rounds : AreRounds space.states fates (length space.states) layers) where
    -- the rounds of a run with the states that are not opened as won are stuck
    pub run_stuck : AreStuck task from layers
    run_stuck = are_stuck task from space.states space.moves space.opened now distinct run.goals (hopeful_goals task space.states space.opened run.goals run.goals_are) fates run.settled layers rounds

    pub run_lost : is_kept (fate_of fates 0) ≡ false → LiesInLayers from layers
    run_lost not =
        let fallen = fallen_of (fate_of fates 0) not in
        lies_fallen task from space.states space.moves space.opened now distinct run.goals (hopeful_goals task space.states space.opened run.goals run.goals_are) fates run.settled layers rounds 0 fallen.0 from now.first fallen.1

  -- the ranks of a run with the states that are not opened as lost win
  pub run_won : (fates : List Fate) → IsRun task space false fates → (choices : List ChoiceView) → AreRanks space.states space.moves fates (length space.states) choices → is_kept (fate_of fates 0) ≡ true → AreWinning task from choices
  run_won fates run choices ranks keeps = are_winning task from space.states space.moves space.opened now run.goals (sound_goals task space.states space.opened run.goals run.goals_are) run.whole fates run.settled choices ranks keeps

-- more than no state is reachable
pub none_fit : (task : Task) (from : List Bool) (budget : ℕ) → budget ≡ 0 → IsPast task from budget
none_fit task from budget none = record {
  states = from ∷ [];
  once = (nothing_in from, tt);
  reached = λ state has. ⊎_elim (λ same. subst (IsReachable task from) same start) (λ later. absurd (nothing_in state later)) (Contains-cases state from [] has);
  longer = omega (arith, none);
}
