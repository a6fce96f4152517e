-- States that are all opened are a layer of full cubes that is sure above the layers.
use Rattle.std.proofs.Common.{◌≡◌, ℕ, ◌<◌, ◌^◌, List, [], Bool, true, Some, length, map, get_or, sym, ap, ◌∙◌, subst, ⊎_elim, inl, inr, arith}
use Rattle.std.specs.Prelude.{slice_get, Contains, if◌then◌else◌}
use Rattle.std.specs.List.{list_all}
use Rattle.std.proofs.lemmas.Bool.{cases_Bool, and_parts, ltb-true, false_from_ne_true}
use Rattle.std.proofs.lemmas.List.{length-map, get_or-map}
use Rattle.std.proofs.lemmas.List.Elements.{All-contains, All-map}
use Rattle.std.proofs.lemmas.Option.{slice_get-get_or, get_or_from_slice_get}
use Rattle.fond_state.specs.Cubes.{CubeLiesIn, full_cube}
use Rattle.fond_task.specs.declared.form.Form.{Form}
use Rattle.fond_task.specs.declared.form.Kleene.TheVariants.{No, Yes}
use Rattle.fond_task.specs.declared.task.Act.{Act}
use Rattle.fond_task.specs.declared.task.Entry.{Entry}
use Rattle.fond_task.specs.declared.task.Task.{Task}
use Rattle.fond_task.specs.Steps.{next_state}
use Rattle.fond_task.specs.Truth.{is_true}
use Rattle.fond_task.specs.Values.{value}
use Rattle.fond_task.specs.Images.{image}
use Rattle.fond_task.specs.Within.{is_act_within, is_entry_within, is_form_within}
use Rattle.fond_task.proofs.Found.{all_at, pre_within}
use Rattle.fond_task.proofs.Exact.{exact-image, exact-value}
use Rattle.fond_task.specs.declared.rule.Pair.{Pair}
use Rattle.fond_task.specs.Layers.{CubeView, Leads, Forces, IsSureCube, IsSureLayer, IsSurePair}
use Rattle.fond_task.proofs.Lists.{Contains_numbered, number_of, same_numbered, Contains-map}
use Rattle.fond_task.proofs.Reached.{length-next_state}
use Rattle.fond_layers.specs.Over.{IsOver, AreOver}
use Rattle.fond_task.proofs.CubeImages.{image_more}
use Rattle.fond_rules.specs.Belongs.{ArePairsOver}
use Rattle.fond_regress.specs.Barred.{IsBarred}
use Rattle.fond_weak.specs.Trees.{IsOpened, IsTried, MayLose, StaysAmong}
use Rattle.fond_weak.specs.Weak.{ShowsLost}
use Rattle.fond_weak.proofs.Full.{full_lies, lies_own}
use Rattle.fond_weak.proofs.Lists.{element_at}

-- an action of a task has an outcome
pub first_outcome : (task : Task) (number : ℕ) (act : Act) → slice_get task.acts number ≡ Some act → (entries : List Entry) × Contains act.outcomes entries
first_outcome task number act numbered =
    let within : is_act_within (length task.atoms) act ≡ true = all_at (is_act_within (length task.atoms)) task.acts number act task.acts_within numbered in
    let some : 0 < length act.outcomes = ltb-true 0 (length act.outcomes) (and_parts _ _ (and_parts _ _ (and_parts _ _ within).0).0).1 in
    let first : List Entry = get_or act.outcomes 0 [] in
    (first, Contains_numbered act.outcomes 0 first (slice_get-get_or act.outcomes 0 [] some))

module _ (task : Task) (layers : List (List CubeView)) (pairs : List Pair) (layers_over : AreOver (length task.atoms) layers) (pairs_over : ArePairsOver (length task.atoms) pairs)
    (pairs_sure : (pair : Pair) → Contains pairs pair → IsSurePair task layers pair) (states : List (List Bool)) (state : List Bool) (long : length state ≡ length task.atoms) where
  module _ (number : ℕ) (act : Act) (numbered : slice_get task.acts number ≡ Some act) where
    -- the image of the full cube of the state is the full cube of the next state
    exact : (outcome : List Entry) → Contains act.outcomes outcome → image (full_cube state) outcome ≡ full_cube (next_state state outcome)
    exact outcome one =
        let act_within : is_act_within (length task.atoms) act ≡ true = all_at (is_act_within (length task.atoms)) task.acts number act task.acts_within numbered in
        let at = number_of act.outcomes outcome one in
        let within : list_all (is_entry_within (length task.atoms)) outcome ≡ true = all_at (list_all (is_entry_within (length task.atoms))) act.outcomes at.0 outcome (and_parts _ _ act_within).1 at.1 in
        exact-image state outcome (ap (λ n. list_all (is_entry_within n) outcome) long ∙ within)

    -- an action that a pair bars leads into the layer of the pair
    barred_forces : IsBarred pairs number state → Forces layers (map full_cube states) (full_cube state) act
    barred_forces barred =
        let sure = pairs_sure barred.pair barred.one in
        let cond_long : length barred.pair.cond ≡ length state = All-contains (λ (p : Pair). length p.cond ≡ length task.atoms) pairs barred.pair pairs_over barred.one ∙ sym long in
        let same : sure.act ≡ act = same_numbered task.acts number sure.act act (ap (slice_get task.acts) (sym barred.bars.0) ∙ sure.has_act) numbered in
        let has : slice_get act.outcomes barred.pair.outcome ≡ Some sure.outcome = ap (λ (a : Act). slice_get a.outcomes barred.pair.outcome) (sym same) ∙ sure.has_outcome in
        let inner = full_lies state barred.pair.cond cond_long barred.bars.1 in
        let full_long : length (full_cube state) ≡ length barred.pair.cond = length-map state (λ value. Some value) ∙ sym cond_long in
        inl (
          sure.layer,
          Contains_numbered layers barred.pair.layer sure.layer sure.has_layer,
          (
            sure.outcome,
            Contains_numbered act.outcomes barred.pair.outcome sure.outcome has,
            record {
              other = sure.target;
              one = Contains_numbered sure.layer barred.pair.cube sure.target sure.has_target;
              lies = λ atom sign is. image_more barred.pair.cond (full_cube state) inner sure.outcome full_long atom sign (sure.leads atom sign is);
            },
          ),
        )

    -- an action that may lead into a layer does so from the full cube
    lost_forces : MayLose layers state act → Forces layers (map full_cube states) (full_cube state) act
    lost_forces loses =
        let next = next_state state loses.entries in
        let cube = loses.lies.cube in
        let Over : List CubeView → Type 0 = IsOver (length task.atoms) in
        let cube_long : length cube ≡ length task.atoms = All-contains (λ (c : CubeView). length c ≡ length task.atoms) loses.lies.layer cube (All-contains Over layers loses.lies.layer layers_over loses.lies.one) loses.lies.has in
        let over : length cube ≡ length next = cube_long ∙ sym (length-next_state state loses.entries ∙ long) in
        let P : CubeView → Type 0 = λ c. CubeLiesIn c cube in
        inl (
          loses.lies.layer,
          loses.lies.one,
          (loses.entries, loses.one, record { other = cube; one = loses.lies.has; lies = subst P (sym (exact loses.entries loses.one)) (full_lies next cube over loses.lies.lies) }),
        )

    stays_in : (outcome : List Entry) → Contains act.outcomes outcome → Contains states (next_state state outcome) → Leads (full_cube state) outcome (map full_cube states)
    stays_in outcome one has = record {
      other = full_cube (next_state state outcome);
      one = Contains-map full_cube states (next_state state outcome) has;
      lies = let P : CubeView → Type 0 = λ cube. CubeLiesIn cube (full_cube (next_state state outcome)) in subst P (sym (exact outcome one)) (λ atom sign is. is);
    }

    -- an action that leads to states that are there leads into their layer
    closed_forces : StaysAmong states state act → Forces layers (map full_cube states) (full_cube state) act
    closed_forces closed = ⊎_elim
        (λ unfair.
        let first = first_outcome task number act numbered in
        inr (inr (unfair, (first.0, first.1, stays_in first.0 first.1 (closed first.0 first.1)))))
        (λ fair. inr (inl (fair, λ outcome one. stays_in outcome one (closed outcome one))))
        (cases_Bool act.unfair)

    tried_forces : IsTried layers pairs states state number act → Forces layers (map full_cube states) (full_cube state) act
    tried_forces tried = ⊎_elim barred_forces (λ rest. ⊎_elim lost_forces closed_forces rest) tried

  exact_value : (form : Form) → is_form_within (length task.atoms) form ≡ true → value (full_cube state) form ≡ (if is_true state form then Yes else No)
  exact_value form within = exact-value state form (ap (λ n. is_form_within n form) long ∙ within)

  -- the full cube of an opened state is sure
  pub opened_sure : IsOpened task layers pairs states state → IsSureCube task layers (map full_cube states) (full_cube state)
  opened_sure opened = record {
    no_goal = exact_value task.goal task.goal_within ∙ ap (λ b. if b then Yes else No) (false_from_ne_true (is_true state task.goal) opened.open_);
    forced = λ act one may.
        let at = number_of task.acts act one in
        let holds : is_true state act.pre ≡ true
        = ⊎_elim
        (λ yes. yes)
        (λ no. absurd (may (exact_value act.pre (pre_within (length task.atoms) task.acts at.0 act task.acts_within at.1) ∙ ap (λ b. if b then Yes else No) no)))
        (cases_Bool (is_true state act.pre)) in
        tried_forces at.0 act at.1 (opened.tried at.0 act at.1 holds);
  }

-- opened states are a sure layer
pub opened_layer : (task : Task) (layers : List (List CubeView)) (pairs : List Pair) → AreOver (length task.atoms) layers → ArePairsOver (length task.atoms) pairs → ((pair : Pair) → Contains pairs pair → IsSurePair task layers pair) →
    (states : List (List Bool)) → ((number : ℕ) (state : List Bool) → slice_get states number ≡ Some state → (length state ≡ length task.atoms) × IsOpened task layers pairs states state) → IsSureLayer task layers (map full_cube states)
opened_layer task layers pairs layers_over pairs_over pairs_sure states each cube has =
    let small : has.0 < length states = omega (arith, has.1, length-map states full_cube) in
    let state : List Bool = get_or states has.0 [] in
    let at : slice_get states has.0 ≡ Some state = slice_get-get_or states has.0 [] small in
    let same : full_cube state ≡ cube = sym (get_or-map full_cube states has.0 [] cube small) ∙ has.2 in
    let one = each has.0 state at in
    subst (λ (c : CubeView). IsSureCube task layers (map full_cube states) c) same (opened_sure task layers pairs layers_over pairs_over pairs_sure states state one.0 one.1)

-- the full cubes of states over some atoms are over them
over_full : (atoms : ℕ) (states : List (List Bool)) → ((number : ℕ) (state : List Bool) → slice_get states number ≡ Some state → length state ≡ atoms) → IsOver atoms (map full_cube states)
over_full atoms states long = All-map (λ (cube : CubeView). length cube ≡ atoms) full_cube states (λ i d within.
    let one = element_at states i within in
    subst (λ (s : List Bool). length (full_cube s) ≡ atoms) (sym (get_or_from_slice_get states i one.0 d one.1)) (length-map one.0 (λ value. Some value) ∙ long i one.0 one.1))

-- opened states, the first of which is this one, show that it is lost
pub opened_shows : (task : Task) (layers : List (List CubeView)) (pairs : List Pair) → AreOver (length task.atoms) layers → ArePairsOver (length task.atoms) pairs → ((pair : Pair) → Contains pairs pair → IsSurePair task layers pair) →
    (states : List (List Bool)) → length states < 2 ^ 32 → ((number : ℕ) (state : List Bool) → slice_get states number ≡ Some state → (length state ≡ length task.atoms) × IsOpened task layers pairs states state) →
    (from : List Bool) → slice_get states 0 ≡ Some from → ShowsLost task layers from (map full_cube states)
opened_shows task layers pairs layers_over pairs_over pairs_sure states few each from first = record {
  sure = opened_layer task layers pairs layers_over pairs_over pairs_sure states each;
  over = over_full (length task.atoms) states (λ number state at. (each number state at).0);
  few = subst (λ (n : ℕ). n < 2 ^ 32) (sym (length-map states full_cube)) few;
  cube = full_cube from;
  has = Contains-map full_cube states from (Contains_numbered states 0 from first);
  lies = lies_own from;
}
