-- Each solution ranks a state of a far list higher than the number of the list.
use Rattle.std.proofs.Common.{◌≡◌, ℕ, zero, suc, ◌<◌, ◌≤◌, List, Bool, true, false, Option, Some, None, get_or, refl, sym, ap, ◌∙◌, subst, ⊎_elim, arith}
use Rattle.std.specs.Prelude.{◌⊎◌, slice_get, Contains}
use Rattle.std.proofs.lemmas.Bool.{false≢true}
use Rattle.std.proofs.lemmas.Option.{slice_get_within, slice_get-get_or}
use Rattle.fond_state.specs.Cubes.{LiesIn}
use Rattle.fond_state.proofs.Tested.{LiesIn-through}
use Rattle.fond_task.specs.declared.form.Form.{Form}
use Rattle.fond_task.specs.declared.form.Kleene.{Kleene}
use Rattle.fond_task.specs.declared.form.Kleene.TheVariants.{No}
use Rattle.fond_task.specs.declared.task.Act.{Act}
use Rattle.fond_task.specs.declared.task.Entry.{Entry}
use Rattle.fond_task.specs.declared.task.Task.{Task}
use Rattle.fond_task.specs.Truth.{is_true}
use Rattle.fond_task.specs.Steps.{next_state}
use Rattle.fond_task.specs.Values.{value}
use Rattle.fond_task.specs.Images.{image}
use Rattle.fond_task.specs.Policies.{IsGoal, IsNext, Policy, Reach, onward, game}
use Rattle.fond_task.specs.Solutions.{IsSolution}
use Rattle.fond_task.specs.Layers.{CubeView, Forces, AreSureLayers, Leads}
use Rattle.fond_task.proofs.Tells.{Tells, Tells-value}
use Rattle.fond_task.proofs.Lists.{Contains_numbered, same_numbered}
use Rattle.fond_task.proofs.Reached.{reached_long, next_lies}
use Rattle.fond_task.proofs.Forced.{layers_exclude}
use Rattle.fond_layers.specs.Far.{IsFarList, AreFarLists, list_before}
use Rattle.fond_games.specs.Rankings.{IsRanking}

no_false : (state : List Bool) (cube : CubeView) (form : Form) → LiesIn state cube → value cube form ≡ No → is_true state form ≡ false
no_false state cube form lies is = let P : Kleene → Type 0 = λ a. Tells a (is_true state form) in subst P is (Tells-value state cube lies form)

-- a state lies in one of some cubes
pub record IsAmong (state : List Bool) (cubes : List CubeView) : Type 0 where
  pub cube : CubeView
  pub has : Contains cubes cube
  pub lies : LiesIn state cube

-- the goal is No on the cubes of a far list
no_goal : (task : Task) (layers : List (List CubeView)) (before : Option (List CubeView)) (cubes : List CubeView) (cube : CubeView) → IsFarList task layers before cubes → Contains cubes cube → value cube task.goal ≡ No
no_goal task layers None cubes cube is has = is cube has
no_goal task layers (Some before) cubes cube is has = (is cube has).no_goal

-- a state of a far list is no goal
pub open_in : (task : Task) (layers far : List (List CubeView)) (at : ℕ) (cubes : List CubeView) (state : List Bool) → AreFarLists task layers far → slice_get far at ≡ Some cubes → IsAmong state cubes → ¬ IsGoal task state
open_in task layers far at cubes state are_far is among goal =
    let out = no_goal task layers (list_before far at) cubes among.cube (are_far at cubes is) among.has in
    false≢true (sym (no_false state among.cube task.goal among.lies out) ∙ goal)

module _ (task : Task) (layers far : List (List CubeView)) (sure : AreSureLayers task layers) (are_far : AreFarLists task layers far) (policy : Policy) (solution : IsSolution task policy) (rank : List Bool → ℕ) (ranking : IsRanking (game task) policy rank) where
  -- an outcome that leads from a cube into some cubes leads from its states into them
  led : (into : List CubeView) (state : List Bool) (cube : CubeView) (act : Act) (number : ℕ) (outcome : List Entry) → Reach task policy state → LiesIn state cube → slice_get task.acts number ≡ Some act → Contains act.outcomes outcome → Leads cube outcome into → IsAmong (next_state state outcome) into
  led into state cube act number outcome reached lies numbered one leads =
      let long = reached_long task policy state reached in
      record { cube = leads.other; has = leads.one; lies = LiesIn-through (next_state state outcome) (image cube outcome) leads.other (next_lies task state cube act number outcome long numbered one lies) leads.lies }

  abbrev IsHigh : ℕ → Type 0
  IsHigh at = (cubes : List CubeView) (state : List Bool) → slice_get far at ≡ Some cubes → Reach task policy state → IsAmong state cubes → at < rank state

  module _ (at : ℕ) (high : IsHigh at) (before : List CubeView) (is_before : slice_get far at ≡ Some before) (state : List Bool) (reached : Reach task policy state) (open_ : ¬ IsGoal task state) where
    -- a state before this one that is nearer than its rank and lies in the list before makes the rank higher
    lifts : (after : List Bool) → Reach task policy after → IsAmong after before → (game task).IsGoal after ⊎ (rank after < rank state) → suc at < rank state
    lifts after comes among near = ⊎_elim
        (λ goal. absurd (open_in task layers far at before after are_far is_before among goal))
        (λ less. let more = high before after is_before comes among in omega (arith, less, more))
        near

    module _ (cube : CubeView) (lies : LiesIn state cube) (forced : (act : Act) → Contains task.acts act → ¬ value cube act.pre ≡ No → Forces layers before cube act) where
      higher : suc at < rank state
      higher =
          let acts = solution.acts state reached open_ in
          let choice = acts.0 in
          let applicable = acts.2 in
          let act = applicable.act in
          let go : (outcome : List Entry) → Contains act.outcomes outcome → IsNext task state choice (next_state state outcome)
          = λ outcome one. record { act = act; numbered = applicable.numbered; holds = applicable.holds; outcome = outcome; one = one; given = refl } in
          let reach : (after : List Bool) → IsNext task state choice after → Reach task policy after = λ after next. onward state choice after reached open_ acts.1 next in
          let into : (list : List CubeView) (outcome : List Entry) → Contains act.outcomes outcome → Leads cube outcome list → IsAmong (next_state state outcome) list
          = λ list outcome one leads. led list state cube act choice outcome reached lies applicable.numbered one leads in
          let not_no : ¬ value cube act.pre ≡ No = λ is. false≢true (sym (no_false state cube act.pre lies is) ∙ applicable.holds) in
          ⊎_elim
          (λ out.
          let lost = into out.0 out.2.0 out.2.1 out.2.2 in
          absurd (layers_exclude task layers policy (next_state state out.2.0) sure (reach (next_state state out.2.0) (go out.2.0 out.2.1)) (record { layer = out.0; one = out.1; cube = lost.cube; has = lost.has; lies = lost.lies }) solution))
          (⊎_elim
          (λ fair.
          let is_fair : ¬ (game task).IsUnfair choice = λ unfair. false≢true (sym fair.0 ∙ ap (λ (a : Act). a.unfair) (same_numbered task.acts choice act unfair.act applicable.numbered unfair.numbered) ∙ unfair.flagged) in
          let lucky = ranking.fair state choice reached open_ acts.1 is_fair in
          let next = lucky.1 in
          let same : next.act ≡ act = same_numbered task.acts choice next.act act next.numbered applicable.numbered in
          let one : Contains act.outcomes next.outcome = subst (λ (a : Act). Contains a.outcomes next.outcome) same next.one in
          lifts lucky.0 (reach lucky.0 next) (subst (λ s. IsAmong s before) (sym next.given) (into before next.outcome one (fair.1 next.outcome one))) lucky.2)
          (λ unfair.
          let next = go unfair.1.0 unfair.1.1 in
          lifts (next_state state unfair.1.0) (reach (next_state state unfair.1.0) next) (into before unfair.1.0 unfair.1.1 unfair.1.2)
          (ranking.unfair state choice (next_state state unfair.1.0) reached open_ acts.1 (record { act = act; numbered = applicable.numbered; flagged = unfair.0 }) next)))
          (forced act (Contains_numbered task.acts choice act applicable.numbered) not_no)

  pub ranked_high : (at : ℕ) → IsHigh at
  ranked_high zero cubes state is reached among = ranking.some state reached (open_in task layers far zero cubes state are_far is among)
  ranked_high (suc at) cubes state is reached among =
      let within = slice_get_within far (suc at) cubes is in
      let is_before : slice_get far at ≡ Some (get_or far at cubes) = slice_get-get_or far at cubes (omega (arith, within)) in
      let sure_cubes : IsFarList task layers (Some (get_or far at cubes)) cubes = subst (λ before. IsFarList task layers before cubes) is_before (are_far (suc at) cubes is) in
      higher at (ranked_high at) (get_or far at cubes) is_before state reached (open_in task layers far (suc at) cubes state are_far is among) among.cube among.lies (sure_cubes among.cube among.has).forced
