-- What a run over states that are all opened decides.
use Rattle.std.proofs.Common.{◌≡◌, ℕ, ◌<◌, ◌≤◌, ◌⊎◌, List, [], ◌∷◌, Bool, true, false, Some, length, slice_get, refl, sym, ap, ◌∙◌, ⊎_elim, inl, inr, arith}
use Rattle.std.specs.List.{list_all}
use Rattle.std.proofs.lemmas.Bool.{cases_Bool, and_from}
use Rattle.std.proofs.lemmas.Option.{slice_get_within}
use Rattle.fond_state.specs.Games.{start, onward}
use Rattle.fond_text.specs.Lists.{AreDistinct}
use Rattle.fond_task.specs.declared.task.Task.{Task}
use Rattle.fond_task.specs.Policies.{IsGoal}
use Rattle.fond_task.specs.Layers.{CubeView}
use Rattle.fond_task.specs.Certificates.{LiesInLayers}
use Rattle.fond_fixpoint.specs.declared.fate.Fate.{Fate}
use Rattle.fond_fixpoint.specs.Moves.{move_at}
use Rattle.fond_fixpoint.specs.Fates.{fate_of, is_kept}
use Rattle.fond_explicit.specs.declared.space.Space.{Space}
use Rattle.fond_explicit.specs.Answers.{ChoiceView, HasChoice, IsReachable}
use Rattle.fond_explicit.specs.Openings.{IsSpaceFrom}
use Rattle.fond_explicit.specs.Runs.{IsRun}
use Rattle.fond_explicit.specs.Spaces.{AreRanks, AreRounds}
use Rattle.fond_explicit.specs.Wholes.{IsSplit}
use Rattle.fond_explicit.proofs.Nexts.{each_next}
use Rattle.fond_explicit.proofs.Runs.{fallen_of, hopeful_goals, run_opened, run_stuck, sound_goals}
use Rattle.fond_explicit.proofs.Stuck.{lies_fallen}
use Rattle.fond_explicit.proofs.Winning.{held, wins}

all_pass : (nodes : List ℕ) → list_all (λ node. true) nodes ≡ true
all_pass [] = refl
all_pass (node ∷ nodes) = and_from true (list_all (λ n. true) nodes) refl (all_pass nodes)

module _ (task : Task) (space : Space) (now : IsSpaceFrom task task.init space) (distinct : AreDistinct space.states) (all : length space.states ≤ space.opened) where
  -- each reachable state has a node
  reached : (state : List Bool) → IsReachable task task.init state → (node : ℕ) × (slice_get space.states node ≡ Some state)
  reached state start = (0, now.first)
  reached state (onward before number after walked open_ may next) =
      let here = reached before walked in
      let move = now.opened_first here.0 (omega (arith, all, slice_get_within space.states here.0 before here.1)) before here.1 open_ number next.act next.numbered next.holds in
      let to = each_next space.states before (λ node. true) (move_at space.moves move.number).targets next.act.outcomes move.leads (all_pass (move_at space.moves move.number).targets) next.outcome next.one in
      (to.node, to.has_state ∙ ap (λ s. Some s) (sym next.given))

  module _ (fates : List Fate) (run : IsRun task space true fates) (choices : List ChoiceView) (ranks : AreRanks space.states space.moves fates (length space.states) choices)
      (layers : List (List CubeView)) (rounds : AreRounds space.states fates (length space.states) layers) where
    abbrev sound : IsRun task space false fates
    sound = run_opened task space fates all run

    -- a reachable state that is no goal has a choice or lies in a layer
    decided : (state : List Bool) → IsReachable task task.init state → ¬ IsGoal task state → HasChoice choices state ⊎ LiesInLayers state layers
    decided state reachable open_ =
        let here = reached state reachable in
        ⊎_elim
        (λ keeps. ⊎_elim (λ goal. absurd (open_ goal)) (λ choice. inl choice)
        (held task task.init space.states space.moves space.opened now sound.goals (sound_goals task space.states space.opened sound.goals sound.goals_are) sound.whole fates sound.settled choices ranks here.0 state here.1 keeps))
        (λ fell.
        let round = fallen_of (fate_of fates here.0) fell in
        inr (lies_fallen task task.init space.states space.moves space.opened now distinct run.goals (hopeful_goals task space.states space.opened run.goals run.goals_are) fates run.settled layers rounds here.0 round.0 state here.1 round.1))
        (cases_Bool (is_kept (fate_of fates here.0)))

    pub run_split : IsSplit task choices layers
    run_split = record {
      once = ranks.once;
      each = wins task task.init space.states space.moves space.opened now sound.goals (sound_goals task space.states space.opened sound.goals sound.goals_are) sound.whole fates sound.settled choices ranks;
      stuck = run_stuck task task.init space now distinct fates run layers rounds;
      whole = decided;
    }
