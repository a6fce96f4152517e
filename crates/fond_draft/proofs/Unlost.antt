-- The states of choices that win lie in no sure layer, and their full cubes contradict the sure pairs of their actions.
use Rattle.std.proofs.Common.{inl, inr, ◌≡◌, ℕ, zero, suc, ◌+◌, ◌<◌, List, [], ◌∷◌, ◌++◌, Bool, true, false, Option, Some, None, length, slice_get, refl, sym, ap, ◌∙◌, subst, ⊎_elim, arith}
use Rattle.std.specs.Prelude.{Contains}
use Rattle.std.proofs.lemmas.Bool.{false≢true}
use Rattle.std.proofs.lemmas.List.{append_assoc, append-nil}
use Rattle.std.proofs.lemmas.List.Elements.{Contains-push_cases}
use Rattle.std.proofs.lemmas.Option.{none-some, same_Some}
use Rattle.fond_state.specs.Cubes.{Contradicts, LiesIn, full_cube}
use Rattle.fond_state.proofs.Tested.{LiesIn-through}
use Rattle.fond_task.specs.Images.{image}
use Rattle.fond_task.specs.Steps.{next_state}
use Rattle.fond_task.specs.Truth.{is_true}
use Rattle.fond_task.specs.Values.{value}
use Rattle.fond_task.specs.declared.form.Form.{Form}
use Rattle.fond_task.specs.declared.form.Kleene.{Kleene}
use Rattle.fond_task.specs.declared.form.Kleene.TheVariants.{No}
use Rattle.fond_task.specs.declared.task.Act.{Act}
use Rattle.fond_task.specs.declared.task.Entry.{Entry}
use Rattle.fond_task.specs.declared.task.Task.{Task}
use Rattle.fond_task.proofs.Tells.{Tells, Tells-value}
use Rattle.fond_task.proofs.Lists.{Contains_numbered, same_numbered}
use Rattle.fond_task.proofs.Reached.{next_lies}
use Rattle.fond_task.specs.Certificates.{LiesInLayers}
use Rattle.fond_task.specs.Layers.{AreSureLayers, CubeView, Forces, IsSureLayer, IsSurePair, Leads}
use Rattle.fond_task.specs.Policies.{IsApplicable, IsGoal, IsNext}
use Rattle.fond_task.specs.declared.rule.Pair.{Pair}
use Rattle.fond_explicit.specs.Answers.{AreWinning, ChoiceView, IsHeld, IsNearer, IsWinning}
use Rattle.fond_draft.proofs.Ready.{reachable_long}

-- a form that is No on a cube is false in each state of the cube
no_false : (state : List Bool) (cube : CubeView) (form : Form) → LiesIn state cube → value cube form ≡ No → is_true state form ≡ false
no_false state cube form lies is = let P : Kleene → Type 0 = λ a. Tells a (is_true state form) in subst P is (Tells-value state cube lies form)

-- a state lies in a cube of the layer
record InLayer (state : List Bool) (layer : List CubeView) : Type 0 where
  cube : CubeView
  has : Contains layer cube
  lies : LiesIn state cube

module _ (task : Task) (from : List Bool) (long : length from ≡ length task.atoms) (choices : List ChoiceView) (winning : AreWinning task from choices) where
  -- no state that is a goal or has a choice lies in one of the layers
  abbrev NoneIn : List (List CubeView) → Type 0
  NoneIn layers = (state : List Bool) → IsHeld task choices state → ¬ LiesInLayers state layers

  -- the state of a choice has a truth value for each atom
  state_long : (choice : ChoiceView) → Contains choices choice → length choice.state ≡ length task.atoms
  state_long choice one = reachable_long task from long choice.state (winning.each choice one).reachable

  -- an outcome of the action of a choice may lead to the next state
  goes : (choice : ChoiceView) (act : Act) (outcome : List Entry) → Contains choices choice → slice_get task.acts choice.act ≡ Some act → Contains act.outcomes outcome
      → IsNext task choice.state choice.act (next_state choice.state outcome)
  goes choice act outcome one numbered has = record { act = act; numbered = numbered; holds = subst Holds same applicable.holds; outcome = outcome; one = has; given = refl }
    where
      applicable : IsApplicable task choice.state choice.act
      applicable = (winning.each choice one).applicable

      same : applicable.act ≡ act
      same = same_numbered task.acts choice.act applicable.act act applicable.numbered numbered

      Holds : Act → Type 0
      Holds a = is_true choice.state a.pre ≡ true

  -- if an outcome leads from a cube with the state of a choice into a layer, the next state lies in that layer
  led : (into : List CubeView) (choice : ChoiceView) (cube : CubeView) (act : Act) (outcome : List Entry) → Contains choices choice → LiesIn choice.state cube → slice_get task.acts choice.act ≡ Some act
      → Contains act.outcomes outcome → Leads cube outcome into → InLayer (next_state choice.state outcome) into
  led into choice cube act outcome one lies numbered has leads = record {
    cube = leads.other;
    has = leads.one;
    lies = LiesIn-through (next_state choice.state outcome) (image cube outcome) leads.other (next_lies task choice.state cube act choice.act outcome (state_long choice one) numbered has lies) leads.lies;
  }

  module _ (done : List (List CubeView)) (layer : List CubeView) (sure : IsSureLayer task done layer) (none : NoneIn done) where
    -- no state of the layer is a goal
    no_goal_in : (state : List Bool) → InLayer state layer → ¬ IsGoal task state
    no_goal_in state here goal = false≢true (sym (no_false state here.cube task.goal here.lies (sure here.cube here.has).no_goal) ∙ goal)

    -- no state of the layer is nearer than a rank below which no choice is in the layer
    no_nearer : (rank : ℕ) → ((choice : ChoiceView) → Contains choices choice → choice.rank < rank → ¬ InLayer choice.state layer) → (state : List Bool) → InLayer state layer → ¬ IsNearer task choices rank state
    no_nearer rank below state here (inl goal) = no_goal_in state here goal
    no_nearer rank below state here (inr near) = below near.choice near.one near.smaller (subst (λ (s : List Bool). InLayer s layer) (sym near.here) here)

    -- if no choice of a smaller rank is in the layer, a choice is not in it
    not_here : (choice : ChoiceView) → Contains choices choice → ((other : ChoiceView) → Contains choices other → other.rank < choice.rank → ¬ InLayer other.state layer) → ¬ InLayer choice.state layer
    not_here choice one below here =
        let wins : IsWinning task from choices choice = winning.each choice one in
        let act = wins.applicable.act in
        let numbered = wins.applicable.numbered in
        let next = λ (outcome : List Entry). next_state choice.state outcome in
        let forces : Forces done layer here.cube act = (sure here.cube here.has).forced act (Contains_numbered task.acts choice.act act numbered)
        (λ is. false≢true (sym (no_false choice.state here.cube act.pre here.lies is) ∙ wins.applicable.holds)) in
        ⊎_elim
        (λ out.
        let into = led out.0 choice here.cube act out.2.0 one here.lies numbered out.2.1 out.2.2 in
        none (next out.2.0) (wins.closed (next out.2.0) (goes choice act out.2.0 one numbered out.2.1)) (record { layer = out.0; one = out.1; cube = into.cube; has = into.has; lies = into.lies }))
        (⊎_elim
        (λ fair.
        let chance = wins.fair (λ unfair. false≢true (sym fair.0 ∙ ap (λ (a : Act). a.unfair) (same_numbered task.acts choice.act act unfair.act numbered unfair.numbered) ∙ unfair.flagged)) in
        let same : chance.1.act ≡ act = same_numbered task.acts choice.act chance.1.act act chance.1.numbered numbered in
        let has : Contains act.outcomes chance.1.outcome = subst (λ (a : Act). Contains a.outcomes chance.1.outcome) same chance.1.one in
        let into = led layer choice here.cube act chance.1.outcome one here.lies numbered has (fair.1 chance.1.outcome has) in
        no_nearer choice.rank below chance.0 (subst (λ (s : List Bool). InLayer s layer) (sym chance.1.given) into) chance.2)
        (λ unfair.
        let into = led layer choice here.cube act unfair.1.0 one here.lies numbered unfair.1.1 unfair.1.2 in
        no_nearer choice.rank below (next unfair.1.0) into (wins.unfair (record { act = act; numbered = numbered; flagged = unfair.0 }) (next unfair.1.0) (goes choice act unfair.1.0 one numbered unfair.1.1))))
        forces

    -- no choice of a rank below a bound is in the layer
    none_below : (bound : ℕ) (choice : ChoiceView) → Contains choices choice → choice.rank < bound → ¬ InLayer choice.state layer
    none_below zero choice one small = absurd (omega (arith, small))
    none_below (suc bound) choice one small = not_here choice one (λ other also smaller. none_below bound other also (omega (arith, small, smaller)))

    -- no state that is a goal or has a choice is in the layer
    none_more : (state : List Bool) → IsHeld task choices state → ¬ InLayer state layer
    none_more state (inl goal) here = no_goal_in state here goal
    none_more state (inr has) here = none_below (has.choice.rank + 1) has.choice has.one (omega arith) (subst (λ (s : List Bool). InLayer s layer) (sym has.here) here)

  -- no state that is a goal or has a choice lies in layers that are sure, layer by layer
  none_held : (done rest : List (List CubeView)) → AreSureLayers task (done ++ rest) → NoneIn done → NoneIn (done ++ rest)
  none_held done [] sure none = λ state held lies. none state held (subst (LiesInLayers state) (append-nil done) lies)
  none_held done (layer ∷ rest) sure none =
      let sure_layer = sure done layer rest refl in
      let more : NoneIn (done ++ layer ∷ []) = λ state held lies. ⊎_elim
      (λ early. none state held (record { layer = lies.layer; one = early; cube = lies.cube; has = lies.has; lies = lies.lies }))
      (λ same. none_more done layer sure_layer none state held (record { cube = lies.cube; has = subst (λ l. Contains l lies.cube) (sym same) lies.has; lies = lies.lies }))
      (Contains-push_cases done layer lies.layer lies.one) in
      let joined : (done ++ layer ∷ []) ++ rest ≡ done ++ layer ∷ rest = append_assoc done (layer ∷ []) rest in
      subst NoneIn joined (none_held (done ++ layer ∷ []) rest (subst (AreSureLayers task) (sym joined) sure) more)

  -- the state of a choice does not lie in the cube of a sure pair of its action
  not_barred : (layers : List (List CubeView)) → AreSureLayers task layers → (choice : ChoiceView) → Contains choices choice → (pair : Pair) → IsSurePair task layers pair → pair.act ≡ choice.act → ¬ LiesIn choice.state pair.cond
  not_barred layers sure choice one pair barred same lies =
      let numbered : slice_get task.acts choice.act ≡ Some barred.act = ap (slice_get task.acts) (sym same) ∙ barred.has_act in
      let has = Contains_numbered barred.act.outcomes pair.outcome barred.outcome barred.has_outcome in
      let next = next_state choice.state barred.outcome in
      none_held [] layers sure (λ state held in_none. absurd (omega (arith, in_none.one.1))) next ((winning.each choice one).closed next (goes choice barred.act barred.outcome one numbered has)) (record {
        layer = barred.layer;
        one = Contains_numbered layers pair.layer barred.layer barred.has_layer;
        cube = barred.target;
        has = Contains_numbered barred.layer pair.cube barred.target barred.has_target;
        lies = LiesIn-through next (image pair.cond barred.outcome) barred.target (next_lies task choice.state pair.cond barred.act choice.act barred.outcome (state_long choice one) numbered has lies) barred.leads;
      })

-- no state of choices that win lies in layers that are sure
pub unlost : (task : Task) (layers : List (List CubeView)) → AreSureLayers task layers → (from : List Bool) → length from ≡ length task.atoms → (choices : List ChoiceView) → AreWinning task from choices
    → (choice : ChoiceView) → Contains choices choice → ¬ LiesInLayers choice.state layers
unlost task layers sure from long choices winning choice one =
    none_held task from long choices winning [] layers sure (λ state held lies. absurd (omega (arith, lies.one.1))) choice.state (inr (record { choice = choice; one = one; here = refl }))

-- if a first truth value has the sign of a first literal, a state that is not in a cube is not in it without those two
out_later : (truth : Bool) (state : List Bool) (known : Option Bool) (cube : CubeView) → ((sign : Bool) → known ≡ Some sign → truth ≡ sign) → ¬ LiesIn (truth ∷ state) (known ∷ cube) → ¬ LiesIn state cube
out_later truth state known cube first out lies = out by
  where
    by : LiesIn (truth ∷ state) (known ∷ cube)
    by zero sign is = first sign is
    by (suc atom) sign is = lies atom sign is

-- literals that contradict each other still do so after one more atom
later : (truth : Bool) (state : List Bool) (known : Option Bool) (cube : CubeView) → Contradicts (full_cube state) cube → Contradicts (full_cube (truth ∷ state)) (known ∷ cube)
later truth state known cube opposed = (suc opposed.0, opposed.1, opposed.2, opposed.3)

-- the full cube of a state that does not lie in a cube of its length contradicts that cube
opposes : (state : List Bool) (cube : CubeView) → length cube ≡ length state → ¬ LiesIn state cube → Contradicts (full_cube state) cube
opposes [] [] same out = absurd (out (λ atom sign is. absurd (none-some sign is)))
opposes [] (known ∷ cube) same out = absurd (omega (arith, same))
opposes (truth ∷ state) [] same out = absurd (omega (arith, same))
opposes (truth ∷ state) (None ∷ cube) same out = later truth state None cube (opposes state cube (omega (arith, same)) (out_later truth state None cube (λ sign is. absurd (none-some sign is)) out))
opposes (true ∷ state) (Some true ∷ cube) same out = later true state (Some true) cube (opposes state cube (omega (arith, same)) (out_later true state (Some true) cube (λ sign is. same_Some true sign is) out))
opposes (false ∷ state) (Some false ∷ cube) same out = later false state (Some false) cube (opposes state cube (omega (arith, same)) (out_later false state (Some false) cube (λ sign is. same_Some false sign is) out))
opposes (true ∷ state) (Some false ∷ cube) same out = (zero, true, refl, refl)
opposes (false ∷ state) (Some true ∷ cube) same out = (zero, false, refl, refl)

-- the full cube of the state of a choice that wins contradicts each sure pair of its action
pub unbarred : (task : Task) (layers : List (List CubeView)) → AreSureLayers task layers → (from : List Bool) → length from ≡ length task.atoms → (choices : List ChoiceView) → AreWinning task from choices
    → (choice : ChoiceView) → Contains choices choice → (pair : Pair) → IsSurePair task layers pair → length pair.cond ≡ length task.atoms → pair.act ≡ choice.act → Contradicts (full_cube choice.state) pair.cond
unbarred task layers sure from long choices winning choice one pair barred over same =
    opposes choice.state pair.cond (over ∙ sym (state_long task from long choices winning choice one)) (not_barred task from long choices winning layers sure choice one pair barred same)
