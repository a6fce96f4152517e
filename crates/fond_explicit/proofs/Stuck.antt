-- The rounds in which nodes fell are layers that are stuck.
use Rattle.std.proofs.Common.{◌≡◌, ℕ, zero, suc, ◌<◌, List, [], ◌∷◌, ◌++◌, Bool, true, false, Some, None, length, slice_get, refl, sym, ap, ◌∙◌, subst, ⊎_elim, inl, inr, arith}
use Rattle.std.specs.Prelude.{Contains, if◌then◌else◌}
use Rattle.std.specs.List.{list_all, list_any}
use Rattle.std.proofs.lemmas.Bool.{and_parts, or_cases, false≢true, ltb-true, eqb-true, cases_Bool, false_from_ne_true, cond-false, cases_lt}
use Rattle.std.proofs.lemmas.Option.{none-some, same_Some, slice_get_within, slice_get-get_or, get_or_from_slice_get}
use Rattle.std.proofs.lemmas.List.{get_or-map, get_or_past, length-map}
use Rattle.fond_text.specs.Lists.{AreDistinct}
use Rattle.fond_state.specs.Cubes.{full_cube, CubeLiesIn, LiesIn}
use Rattle.fond_task.specs.declared.form.Form.{Form}
use Rattle.fond_task.specs.declared.form.Kleene.TheVariants.{No, Yes}
use Rattle.fond_task.specs.declared.task.Act.{Act}
use Rattle.fond_task.specs.declared.task.Entry.{Entry}
use Rattle.fond_task.specs.declared.task.Task.{Task}
use Rattle.fond_task.specs.Within.{is_form_within, is_entry_within, is_act_within}
use Rattle.fond_task.specs.Truth.{is_true}
use Rattle.fond_task.specs.Steps.{next_state}
use Rattle.fond_task.specs.Values.{value}
use Rattle.fond_task.specs.Images.{image}
use Rattle.fond_task.proofs.Exact.{exact-value, exact-image}
use Rattle.fond_task.proofs.Found.{all_at}
use Rattle.fond_task.specs.Policies.{IsGoal}
use Rattle.fond_task.specs.Layers.{CubeView, Leads, Forces, IsSureCube, IsSureLayer}
use Rattle.fond_task.specs.Certificates.{LiesInLayers}
use Rattle.fond_task.proofs.Lists.{Contains_numbered, number_of, Contains-here, Contains-later}
use Rattle.fond_fixpoint.specs.declared.fate.Fate.{Fate}
use Rattle.fond_fixpoint.specs.declared.fate.Fate.TheVariants.{Open, Goal, Ranked, Fallen}
use Rattle.fond_fixpoint.specs.Moves.{Move, move_at}
use Rattle.fond_fixpoint.specs.Fates.{fate_of, is_marked, fell_before, fell_in, AreSettled}
use Rattle.fond_explicit.specs.Answers.{AreStuck}
use Rattle.fond_explicit.specs.Spaces.{AreNexts, IsSpace, layer_at, AreRounds, AreHopeful}
use Rattle.fond_explicit.proofs.Nexts.{LeadsTo, some_next, each_next}
use Rattle.fond_explicit.proofs.Distinct.{nothing_in, one_number, distinct-concat, same_full}

-- the layer between others has their count as its number
at_split : {X : Type 0} (before : List X) (x : X) (after : List X) → slice_get (before ++ x ∷ after) (length before) ≡ Some x
at_split [] x after = refl
at_split (y ∷ before) x after = at_split before x after

in_front : {X : Type 0} (before : List X) (x : X) (after : List X) (i : ℕ) (y : X) → i < length before → slice_get (before ++ x ∷ after) i ≡ Some y → Contains before y
in_front [] x after i y small at = absurd (omega (arith, small))
in_front (z ∷ before) x after zero y small at = subst (λ v. Contains (z ∷ before) v) (same_Some z y at) (Contains-here z before)
in_front (z ∷ before) x after (suc i) y small at = Contains-later y z before (in_front before x after i y (omega (arith, small)) at)

numbered_layer : (layers : List (List CubeView)) (round : ℕ) (cube : CubeView) → Contains (layer_at layers round) cube → slice_get layers round ≡ Some (layer_at layers round)
numbered_layer layers round cube has = ⊎_elim
    (λ lt. slice_get-get_or layers round [] lt)
    (λ ge. absurd (nothing_in cube (subst (λ l. Contains l cube) (get_or_past layers round [] ge) has)))
    (cases_lt round (length layers))

layer_numbered : (layers : List (List CubeView)) (round : ℕ) (layer : List CubeView) → slice_get layers round ≡ Some layer → layer_at layers round ≡ layer
layer_numbered layers round layer at = get_or_from_slice_get layers round layer [] at

lies_full : (state : List Bool) → LiesIn state (full_cube state)
lies_full state atom sign is = ⊎_elim
    (λ lt. same_Some _ _ (sym (get_or-map (λ value. Some value) state atom false None lt) ∙ is))
    (λ ge. absurd (none-some sign (sym (get_or_past (full_cube state) atom None (omega (arith, length-map state (λ value. Some value)))) ∙ is)))
    (cases_lt atom (length state))

fell_earlier : (round : ℕ) (fate : Fate) → fell_before round fate ≡ true → (fell : ℕ) × (fate ≡ Fallen fell) × (fell < round)
fell_earlier round Open is = absurd (false≢true is)
fell_earlier round Goal is = absurd (false≢true is)
fell_earlier round (Ranked rank by) is = absurd (false≢true is)
fell_earlier round (Fallen fell) is = (fell, refl, ltb-true fell round is)

fell_here : (round : ℕ) (fate : Fate) → fell_in round fate ≡ true → fate ≡ Fallen round
fell_here round Open is = absurd (false≢true is)
fell_here round Goal is = absurd (false≢true is)
fell_here round (Ranked rank by) is = absurd (false≢true is)
fell_here round (Fallen fell) is = ap (λ r. Fallen r) (eqb-true fell round is)

-- no true form is No on the full cube, and no false one is anything else
exact : (state : List Bool) (form : Form) (atoms : ℕ) → length state ≡ atoms → is_form_within atoms form ≡ true → value (full_cube state) form ≡ (if is_true state form then Yes else No)
exact state form atoms long within = exact-value state form (ap (λ n. is_form_within n form) long ∙ within)

module _ (task : Task) (from : List Bool) (states : List (List Bool)) (moves : List Move) (opened : ℕ) (space : IsSpace task from states moves opened) (distinct : AreDistinct states)
    (goals : List Bool) (hopeful : AreHopeful task states opened goals) (fates : List Fate) (settled : AreSettled goals moves fates)
    (layers : List (List CubeView)) (rounds : AreRounds states fates (length states) layers) where
  module _ (before : List (List CubeView)) (layer : List CubeView) (after : List (List CubeView)) (split : layers ≡ before ++ layer ∷ after) where
    abbrev round : ℕ
    round = length before

    at_round : slice_get layers round ≡ Some layer
    at_round = ap (λ ls. slice_get ls round) split ∙ at_split before layer after

    module _ (state : List Bool) (node : ℕ) (has_state : slice_get states node ≡ Some state) (fell : fate_of fates node ≡ Fallen round) where
      long : length state ≡ length task.atoms
      long = space.long node state has_state

      opened_node : (node < opened) × (¬ IsGoal task state)
      opened_node = hopeful node state has_state (sym (settled.goals_hold node) ∙ ap is_marked fell)

      module _ (act : Act) (number : ℕ) (has_act : slice_get task.acts number ≡ Some act) where
        act_within : is_act_within (length task.atoms) act ≡ true
        act_within = all_at (is_act_within (length task.atoms)) task.acts number act task.acts_within has_act

        pre_within : is_form_within (length task.atoms) act.pre ≡ true
        pre_within = (and_parts _ _ (and_parts _ _ (and_parts _ _ act_within).0).0).0

        -- an outcome to a node that fell leads into the layer of its round
        leads_into : (outcome : List Entry) → Contains act.outcomes outcome → (into : ℕ) (target : ℕ) → slice_get states target ≡ Some (next_state state outcome) → fate_of fates target ≡ Fallen into →
            (other : List CubeView) × (slice_get layers into ≡ Some other) × Leads (full_cube state) outcome other
        leads_into outcome one into target has_target fell_target =
            let found = rounds.whole target into (next_state state outcome) (slice_get_within states target (next_state state outcome) has_target) has_target fell_target in
            let at = number_of act.outcomes outcome one in
            let outcome_within : list_all (is_entry_within (length task.atoms)) outcome ≡ true = all_at (list_all (is_entry_within (length task.atoms))) act.outcomes at.0 outcome (and_parts _ _ act_within).1 at.1 in
            let is_next : image (full_cube state) outcome ≡ full_cube (next_state state outcome) = exact-image state outcome (ap (λ n. list_all (is_entry_within n) outcome) long ∙ outcome_within) in (
              layer_at layers into,
              numbered_layer layers into (full_cube (next_state state outcome)) found,
              record {
                other = full_cube (next_state state outcome);
                one = found;
                lies = subst (λ cube. CubeLiesIn cube (full_cube (next_state state outcome))) (sym is_next) (λ atom sign is. is);
              },
            )

        into_layer : (outcome : List Entry) → Contains act.outcomes outcome → LeadsTo states state (λ target. fell_in round (fate_of fates target)) outcome → Leads (full_cube state) outcome layer
        into_layer outcome one to =
            let led = leads_into outcome one round to.node to.has_state (fell_here round (fate_of fates to.node) to.passes) in
            subst (Leads (full_cube state) outcome) (same_Some led.0 layer (sym led.1 ∙ at_round)) led.2

        into_before : (outcome : List Entry) → Contains act.outcomes outcome → LeadsTo states state (λ target. fell_before round (fate_of fates target)) outcome → Forces before layer (full_cube state) act
        into_before outcome one to =
            let early = fell_earlier round (fate_of fates to.node) to.passes in
            let led = leads_into outcome one early.0 to.node to.has_state early.1 in
            inl (led.0, in_front before layer after early.0 led.0 early.2 (ap (λ ls. slice_get ls early.0) (sym split) ∙ led.1), (outcome, one, led.2))

        -- an action that is applicable leads into the layer or an earlier one
        forced : is_true state act.pre ≡ true → Forces before layer (full_cube state) act
        forced holds =
            let move = space.opened_first node opened_node.0 state has_state opened_node.1 number act has_act holds in
            let lost = (settled.falls_hold node round fell).1 move.number move.there move.source in
            ⊎_elim
            (λ early. let to = some_next states state (λ target. fell_before round (fate_of fates target)) (move_at moves move.number).targets act.outcomes move.leads early in into_before to.0 to.1 to.2)
            (λ here. by move.number move.leads act.unfair refl (subst (here_by move.number) move.flagged here))
            (or_cases _ _ lost)
          where
            here_by : ℕ → Bool → Type 0
            here_by k unfair = (if unfair then list_any (λ target. fell_in round (fate_of fates target)) (move_at moves k).targets else list_all (λ target. fell_in round (fate_of fates target)) (move_at moves k).targets) ≡ true

            by : (k : ℕ) → AreNexts states state (move_at moves k).targets act.outcomes → (unfair : Bool) → act.unfair ≡ unfair →
                (if unfair then list_any (λ target. fell_in round (fate_of fates target)) (move_at moves k).targets else list_all (λ target. fell_in round (fate_of fates target)) (move_at moves k).targets) ≡ true →
                Forces before layer (full_cube state) act
            by k leads true flag here = let to = some_next states state (λ target. fell_in round (fate_of fates target)) (move_at moves k).targets act.outcomes leads here in inr (inr (flag, (to.0, to.1, into_layer to.0 to.1 to.2)))
            by k leads false flag here = inr (inl (flag, λ outcome one. into_layer outcome one (each_next states state (λ target. fell_in round (fate_of fates target)) (move_at moves k).targets act.outcomes leads here outcome one)))

      no_goal : value (full_cube state) task.goal ≡ No
      no_goal = exact state task.goal (length task.atoms) long task.goal_within ∙ cond-false _ _ _ (false_from_ne_true _ opened_node.1)

      may_apply : (act : Act) → is_form_within (length task.atoms) act.pre ≡ true → ¬ value (full_cube state) act.pre ≡ No → is_true state act.pre ≡ true
      may_apply act within may = ⊎_elim (λ is. is) (λ not. absurd (may (exact state act.pre (length task.atoms) long within ∙ cond-false _ _ _ not))) (cases_Bool (is_true state act.pre))

      sure_cube : IsSureCube task before layer (full_cube state)
      sure_cube = record {
        no_goal = no_goal;
        forced = λ act has may. (let at = number_of task.acts act has in forced act at.0 at.1 (may_apply act (pre_within act at.0 at.1) may));
      }

    sure_layer : IsSureLayer task before layer
    sure_layer cube has =
        let fallen = rounds.sound round cube (subst (λ l. Contains l cube) (sym (layer_numbered layers round layer at_round)) has) in
        subst (IsSureCube task before layer) (sym fallen.full) (sure_cube fallen.state fallen.node fallen.has_state fallen.fell)

  apart : (i j : ℕ) (one other : List CubeView) (cube : CubeView) → slice_get layers i ≡ Some one → slice_get layers j ≡ Some other → Contains one cube → Contains other cube → i ≡ j
  apart i j one other cube at also has too =
      let a = rounds.sound i cube (subst (λ l. Contains l cube) (sym (layer_numbered layers i one at)) has) in
      let b = rounds.sound j cube (subst (λ l. Contains l cube) (sym (layer_numbered layers j other also)) too) in
      let same_state : a.state ≡ b.state = same_full a.state b.state (sym a.full ∙ b.full) in
      let same_node : a.node ≡ b.node = one_number states distinct a.node b.node b.state (a.has_state ∙ ap (λ s. Some s) same_state) b.has_state in
      let fates_same : Fallen i ≡ Fallen j = sym a.fell ∙ ap (fate_of fates) same_node ∙ b.fell in
      cc

  -- the state of a node that fell lies in a layer
  pub lies_fallen : (node round : ℕ) (state : List Bool) → slice_get states node ≡ Some state → fate_of fates node ≡ Fallen round → LiesInLayers state layers
  lies_fallen node round state has_state fell =
      let found = rounds.whole node round state (slice_get_within states node state has_state) has_state fell in
      record {
        layer = layer_at layers round;
        one = Contains_numbered layers round (layer_at layers round) (numbered_layer layers round (full_cube state) found);
        cube = full_cube state;
        has = found;
        lies = lies_full state;
      }

  -- the rounds are stuck
  pub are_stuck : AreStuck task from layers
  are_stuck = record {
    sure = sure_layer;
    each = λ layer in_layers cube has. (
        let at = number_of layers layer in_layers in
        let fallen = rounds.sound at.0 cube (subst (λ l. Contains l cube) (sym (layer_numbered layers at.0 layer at.1)) has) in
        record { state = fallen.state; reachable = space.reachable fallen.node fallen.state fallen.has_state; full = fallen.full }
        );
    once = distinct-concat layers (λ number layer at. subst AreDistinct (layer_numbered layers number layer at) (rounds.once number)) apart;
  }
