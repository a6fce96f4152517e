-- No policy that reaches a sure layer, below which all layers are sure, is a solution.
use Rattle.std.proofs.Common.{◌≡◌, ℕ, zero, suc, List, [], ◌∷◌, ◌++◌, Bool, true, false, Some, length, map, refl, sym, ap, ◌∙◌, subst, ⊎_elim, arith}
use Rattle.std.specs.Prelude.{slice_get, Contains}
use Rattle.std.proofs.lemmas.Bool.{false≢true}
use Rattle.std.proofs.lemmas.List.{append_assoc, append-nil}
use Rattle.std.proofs.lemmas.List.Elements.{Contains-append_left, Contains-append_right, Contains-push_cases}
use Rattle.fond_state.specs.Cubes.{LiesIn}
use Rattle.fond_state.proofs.Tested.{LiesIn-through}
use Rattle.fond_task.specs.declared.form.Form.{Form}
use Rattle.fond_task.specs.declared.form.Kleene.{Kleene}
use Rattle.fond_task.specs.declared.form.Kleene.TheVariants.{No}
use Rattle.fond_task.specs.declared.task.Act.{Act}
use Rattle.fond_task.specs.declared.task.Entry.{Entry}
use Rattle.fond_task.specs.declared.task.Task.{Task}
use Rattle.fond_task.specs.Truth.{is_true}
use Rattle.fond_task.specs.Steps.{next_state}
use Rattle.fond_task.specs.Values.{value}
use Rattle.fond_task.specs.Images.{image}
use Rattle.fond_task.proofs.Tells.{Tells, Tells-value}
use Rattle.fond_task.specs.Policies.{IsGoal, IsNext, Policy, Reach, start, onward}
use Rattle.fond_task.specs.Solutions.{StaysIn, IsSolution, IsSolvable}
use Rattle.fond_task.specs.Layers.{CubeView, Forces, IsSureLayer, AreSureLayers, Leads}
use Rattle.fond_task.specs.Certificates.{LiesInLayers, IsRightRefusal}
use Rattle.fond_task.proofs.Lists.{Contains_numbered, same_numbered, Contains-here, Contains-later, Contains-cases, Contains-map}
use Rattle.fond_task.proofs.Reached.{reached_long, next_lies}

-- all states over this many atoms
pub all_states : ℕ → List (List Bool)
all_states zero = [] ∷ []
all_states (suc n) = map (λ state. true ∷ state) (all_states n) ++ map (λ state. false ∷ state) (all_states n)

pub is_among_all : (state : List Bool) → Contains (all_states (length state)) state
unfolding all_states
is_among_all [] = Contains-here [] []
is_among_all (true ∷ state) = Contains-append_left _ _ _ (Contains-map (λ state. true ∷ state) (all_states (length state)) state (is_among_all state))
is_among_all (false ∷ state) = Contains-append_right _ _ _ (Contains-map (λ state. false ∷ state) (all_states (length state)) state (is_among_all state))

-- it is not the case that no list has exactly those of the given states of which a fact holds
chosen_list : (P : List Bool → Type 0) (all : List (List Bool)) → ¬ ((chosen : List (List Bool)) → ((state : List Bool) → Contains chosen state → P state) → ¬ ((state : List Bool) → Contains all state → P state → Contains chosen state))
chosen_list P [] none = none [] (λ state has. absurd (nothing_in state has)) (λ state has holds. has)
  where
    nothing_in : (state : List Bool) → ¬ Contains [] state
    nothing_in state has = omega (arith, has.1)
chosen_list P (one ∷ all) none = chosen_list P all (λ chosen sound whole.
    let fails : ¬ P one = λ holds. none (one ∷ chosen)
    (λ state has. ⊎_elim (λ same. subst P same holds) (sound state) (Contains-cases state one chosen has))
    (λ state has of_state. ⊎_elim (λ same. subst (Contains (one ∷ chosen)) same (Contains-here one chosen)) (λ behind. Contains-later state one chosen (whole state behind of_state)) (Contains-cases state one all has)) in
    none chosen sound (λ state has of_state. ⊎_elim (λ same. absurd (fails (subst P (sym same) of_state))) (λ behind. whole state behind of_state) (Contains-cases state one all has)))

no_false : (state : List Bool) (cube : CubeView) (form : Form) → LiesIn state cube → value cube form ≡ No → is_true state form ≡ false
no_false state cube form lies is = let P : Kleene → Type 0 = λ a. Tells a (is_true state form) in subst P is (Tells-value state cube lies form)

-- a state lies in a cube of the layer
record InLayer (state : List Bool) (layer : List CubeView) : Type 0 where
  cube : CubeView
  has : Contains layer cube
  lies : LiesIn state cube

module _ (task : Task) (policy : Policy) (solution : IsSolution task policy) where
  -- no reached state lies in one of the layers
  abbrev NoneIn : List (List CubeView) → Type 0
  NoneIn layers = (state : List Bool) → Reach task policy state → ¬ LiesInLayers state layers

  abbrev InBoth : List CubeView → List Bool → Type 0
  InBoth layer state = Reach task policy state × InLayer state layer

  module _ (done : List (List CubeView)) (layer : List CubeView) (sure : IsSureLayer task done layer) (none : NoneIn done) where
    -- if an outcome leads from a cube into the layer, the next state lies in the layer
    led : (into : List CubeView) (state : List Bool) (cube : CubeView) (act : Act) (number : ℕ) (outcome : List Entry) → Reach task policy state → LiesIn state cube → slice_get task.acts number ≡ Some act → Contains act.outcomes outcome → Leads cube outcome into → InLayer (next_state state outcome) into
    led into state cube act number outcome reached lies numbered one leads =
        let long = reached_long task policy state reached in
        record { cube = leads.other; has = leads.one; lies = LiesIn-through (next_state state outcome) (image cube outcome) leads.other (next_lies task state cube act number outcome long numbered one lies) leads.lies }

    -- the reached states of the layer stay in it
    stays : (trap : List (List Bool)) → ((state : List Bool) → Contains trap state → InBoth layer state) → ((state : List Bool) → InBoth layer state → Contains trap state) →
        (state : List Bool) → InBoth layer state → StaysIn task policy trap state
    stays trap sound whole state here =
        let reached = here.0 in
        let cube = here.1.cube in
        let lies = here.1.lies in
        let sure_cube = sure cube here.1.has in
        let open_ : ¬ IsGoal task state = λ goal. false≢true (sym (no_false state cube task.goal lies sure_cube.no_goal) ∙ goal) in
        let acts = solution.acts state reached open_ in
        let choice = acts.0 in
        let applicable = acts.2 in
        let act = applicable.act in
        let go : (outcome : List Entry) → Contains act.outcomes outcome → IsNext task state choice (next_state state outcome)
        = λ outcome one. record { act = act; numbered = applicable.numbered; holds = applicable.holds; outcome = outcome; one = one; given = refl } in
        let reach : (outcome : List Entry) → Contains act.outcomes outcome → Reach task policy (next_state state outcome)
        = λ outcome one. onward state choice (next_state state outcome) reached open_ acts.1 (go outcome one) in
        let forces : Forces done layer cube act = sure_cube.forced act (Contains_numbered task.acts choice act applicable.numbered)
        (λ is. false≢true (sym (no_false state cube act.pre lies is) ∙ applicable.holds)) in
        let kept : (outcome : List Entry) → Contains act.outcomes outcome → Leads cube outcome layer → Contains trap (next_state state outcome)
        = λ outcome one leads. whole (next_state state outcome) (reach outcome one, led layer state cube act choice outcome reached lies applicable.numbered one leads) in
        ⊎_elim
        (λ out.
        let into = led out.0 state cube act choice out.2.0 reached lies applicable.numbered out.2.1 out.2.2 in
        absurd (none (next_state state out.2.0) (reach out.2.0 out.2.1) (record { layer = out.0; one = out.1; cube = into.cube; has = into.has; lies = into.lies })))
        (⊎_elim
        (λ fair. record {
          reached = reached;
          open_ = open_;
          choice = choice;
          chosen = acts.1;
          fair = λ is_fair after next.
              let same : next.act ≡ act = same_numbered task.acts choice next.act act next.numbered applicable.numbered in
              let one : Contains act.outcomes next.outcome = subst (λ (a : Act). Contains a.outcomes next.outcome) same next.one in
              subst (Contains trap) (sym next.given) (kept next.outcome one (fair.1 next.outcome one));
          unfair = λ unfair. absurd (false≢true (sym fair.0 ∙ ap (λ (a : Act). a.unfair) (same_numbered task.acts choice act unfair.act applicable.numbered unfair.numbered) ∙ unfair.flagged));
        })
        (λ unfair. record {
          reached = reached;
          open_ = open_;
          choice = choice;
          chosen = acts.1;
          fair = λ is_fair after next. absurd (is_fair (record { act = act; numbered = applicable.numbered; flagged = unfair.0 }));
          unfair = λ is_unfair. (next_state state unfair.1.0, go unfair.1.0 unfair.1.1, kept unfair.1.0 unfair.1.1 unfair.1.2);
        }))
        forces

    -- no state of the layer is reached
    none_more : (state : List Bool) → ¬ InBoth layer state
    none_more state here = chosen_list (InBoth layer) (all_states (length task.atoms)) (λ trap sound whole.
        let keeps : (state : List Bool) → InBoth layer state → Contains trap state = λ state both.
        whole state (subst (λ n. Contains (all_states n) state) (reached_long task policy state both.0) (is_among_all state)) both in
        solution.free trap (record { some = (state, keeps state here); each = λ state has. stays trap sound keeps state (sound state has) }))

  -- no layer is reached, layer by layer
  none_reached : (done rest : List (List CubeView)) → AreSureLayers task (done ++ rest) → NoneIn done → NoneIn (done ++ rest)
  none_reached done [] sure none = λ state reached lies. none state reached (subst (LiesInLayers state) (append-nil done) lies)
  none_reached done (layer ∷ rest) sure none =
      let sure_layer = sure done layer rest refl in
      let more : NoneIn (done ++ layer ∷ []) = λ state reached lies. ⊎_elim
      (λ early. none state reached (record { layer = lies.layer; one = early; cube = lies.cube; has = lies.has; lies = lies.lies }))
      (λ same. none_more done layer sure_layer none state (reached, record { cube = lies.cube; has = subst (λ l. Contains l lies.cube) (sym same) lies.has; lies = lies.lies }))
      (Contains-push_cases done layer lies.layer lies.one) in
      let joined : (done ++ layer ∷ []) ++ rest ≡ done ++ layer ∷ rest = append_assoc done (layer ∷ []) rest in
      subst NoneIn joined (none_reached (done ++ layer ∷ []) rest (subst (AreSureLayers task) (sym joined) sure) more)

-- layers force
pub layers_exclude : (task : Task) (layers : List (List CubeView)) (policy : Policy) (state : List Bool) → AreSureLayers task layers → Reach task policy state → LiesInLayers state layers → ¬ IsSolution task policy
layers_exclude task layers policy state sure reached lies solution =
    none_reached task policy solution [] layers sure (λ state reached lies. absurd (omega (arith, lies.one.1))) state reached lies

-- refusals hold
pub refusals_exclude : (task : Task) (layers : List (List CubeView)) → IsRightRefusal task layers → ¬ IsSolvable task
refusals_exclude task layers right solvable = layers_exclude task layers solvable.0 task.init right.layers_sure start right.start solvable.2
