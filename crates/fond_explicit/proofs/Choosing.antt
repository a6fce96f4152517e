-- The choices and the layers of one more node.
use Rattle.std.proofs.Common.{◌≡◌, ℕ, ◌+◌, ◌<◌, ◌≤◌, List, [], ◌∷◌, ◌++◌, Bool, Some, length, map, slice_get, sym, ap, ◌∙◌, subst, ⊎_elim, arith}
use Rattle.std.specs.Prelude.{Contains, All}
use Rattle.std.proofs.lemmas.Bool.{cases_lt, cases_eq}
use Rattle.std.proofs.lemmas.List.{length-append, map-append}
use Rattle.std.proofs.lemmas.List.Elements.{Contains-append_left, Contains-push, Contains-push_cases, All-from_get_or}
use Rattle.std.proofs.lemmas.Option.{same_Some}
use Rattle.fond_text.specs.Lists.{AreDistinct}
use Rattle.fond_state.specs.Cubes.{full_cube}
use Rattle.fond_task.specs.Layers.{CubeView}
use Rattle.fond_task.proofs.Lists.{Contains-here, Contains-later, Contains-cases}
use Rattle.fond_fixpoint.specs.declared.fate.Fate.{Fate}
use Rattle.fond_fixpoint.specs.declared.fate.Fate.TheVariants.{Ranked, Fallen}
use Rattle.fond_fixpoint.specs.Moves.{Move, move_at}
use Rattle.fond_fixpoint.specs.Fates.{fate_of}
use Rattle.fond_explicit.specs.Answers.{ChoiceView}
use Rattle.fond_explicit.specs.Spaces.{IsRanked, AreRanks, IsFallen, AreRounds, layer_at}
use Rattle.fond_explicit.specs.Strata.{IsPut}
use Rattle.fond_explicit.proofs.Distinct.{nothing_in, one_number, distinct-push, same_full}

-- what a list that a function of its items gives has is given by an item
in_map : {X Y : Type 0} (f : X → Y) (xs : List X) (y : Y) → Contains (map f xs) y → (x : X) × Contains xs x × (f x ≡ y)
in_map f [] y has = absurd (nothing_in y has)
in_map f (x ∷ xs) y has = ⊎_elim
    (λ same. (x, Contains-here x xs, same))
    (λ later. let rest = in_map f xs y later in (rest.0, Contains-later rest.0 x xs rest.1, rest.2))
    (Contains-cases y (f x) (map f xs) has)

module _ (states : List (List Bool)) (distinct : AreDistinct states) (moves : List Move) (fates : List Fate) where
  pub ranks_none : AreRanks states moves fates 0 []
  ranks_none = record { sound = λ choice has. absurd (nothing_in choice has); whole = λ node rank by state small. absurd (omega (arith, small)); once = tt }

  module _ (nodes : ℕ) (choices : List ChoiceView) (before : AreRanks states moves fates nodes choices) where
    wider : (choice : ChoiceView) → IsRanked states moves fates nodes choice → IsRanked states moves fates (nodes + 1) choice
    wider choice one = record { node = one.node; early = omega (arith, one.early); by = one.by; has_state = one.has_state; ranked = one.ranked; takes = one.takes }

    -- a node without a rank has no choice
    pub ranks_skip : ((rank by : ℕ) → ¬ fate_of fates nodes ≡ Ranked rank by) → AreRanks states moves fates (nodes + 1) choices
    ranks_skip none = record {
      sound = λ choice has. wider choice (before.sound choice has);
      whole = λ node rank by state small has_state is. ⊎_elim
          (λ early. before.whole node rank by state early has_state is)
          (λ late. let same : node ≡ nodes = omega arith in absurd (none rank by (ap (fate_of fates) (sym same) ∙ is)))
          (cases_lt node nodes);
      once = before.once;
    }

    -- a node with a rank has a choice
    pub ranks_more : (choice : ChoiceView) (by : ℕ) → slice_get states nodes ≡ Some choice.state → fate_of fates nodes ≡ Ranked choice.rank by → choice.act ≡ (move_at moves by).act → AreRanks states moves fates (nodes + 1) (choices ++ choice ∷ [])
    ranks_more choice by has_state is takes = record {
      sound = λ other has. ⊎_elim
          (λ early. wider other (before.sound other early))
          (λ same. subst (IsRanked states moves fates (nodes + 1)) same (record { node = nodes; early = omega arith; by = by; has_state = has_state; ranked = is; takes = takes }))
          (Contains-push_cases choices choice other has);
      whole = λ node rank move state small at ranked. ⊎_elim
          (λ early. let found = before.whole node rank move state early at ranked in (found.0, Contains-append_left choices (choice ∷ []) found.0 found.1, found.2, found.3))
          (λ late.
          let same : node ≡ nodes = omega arith in
          let both : Ranked choice.rank by ≡ Ranked rank move = sym is ∙ ap (fate_of fates) (sym same) ∙ ranked in
          let same_rank : choice.rank ≡ rank = cc in
          (choice, Contains-push choices choice, same_Some choice.state state (sym has_state ∙ ap (slice_get states) (sym same) ∙ at), same_rank))
          (cases_lt node nodes);
      once = subst AreDistinct (sym (map-append (λ (one : ChoiceView). one.state) choices (choice ∷ []))) (distinct-push (map (λ (one : ChoiceView). one.state) choices) choice.state before.once (λ has.
          let other = in_map (λ (one : ChoiceView). one.state) choices choice.state has in
          let ranked = before.sound other.0 other.1 in
          let same : ranked.node ≡ nodes = one_number states distinct ranked.node nodes choice.state (ranked.has_state ∙ ap (λ s. Some s) other.2) has_state in
          omega (arith, ranked.early)));
    }

  pub rounds_none : AreRounds states fates 0 []
  rounds_none = record {
    sound = λ round cube has. absurd (nothing_in cube has);
    whole = λ node round state small. absurd (omega (arith, small));
    once = λ round. tt;
    small = λ round. omega arith;
  }

  module _ (nodes : ℕ) (layers : List (List CubeView)) (before : AreRounds states fates nodes layers) where
    wider_cube : (round : ℕ) (cube : CubeView) → IsFallen states fates nodes round cube → IsFallen states fates (nodes + 1) round cube
    wider_cube round cube one = record { node = one.node; early = omega (arith, one.early); state = one.state; has_state = one.has_state; fell = one.fell; full = one.full }

    -- a node that did not fall is in no layer
    pub rounds_skip : ((round : ℕ) → ¬ fate_of fates nodes ≡ Fallen round) → AreRounds states fates (nodes + 1) layers
    rounds_skip none = record {
      sound = λ round cube has. wider_cube round cube (before.sound round cube has);
      whole = λ node round state small has_state is. ⊎_elim
          (λ early. before.whole node round state early has_state is)
          (λ late. let same : node ≡ nodes = omega arith in absurd (none round (ap (fate_of fates) (sym same) ∙ is)))
          (cases_lt node nodes);
      once = before.once;
      small = λ round. omega (arith, before.small round);
    }

    -- a node that fell is in the layer of its round
    pub rounds_more : (after : List (List CubeView)) (round : ℕ) (state : List Bool) → slice_get states nodes ≡ Some state → fate_of fates nodes ≡ Fallen round → IsPut layers after round (full_cube state) → AreRounds states fates (nodes + 1) after
    rounds_more after round state has_state is put = record {
      sound = λ other cube has. by_round (λ n layer. Contains layer cube → IsFallen states fates (nodes + 1) n cube)
          (λ in_layer. ⊎_elim
          (λ early. wider_cube round cube (before.sound round cube early))
          (λ same. record { node = nodes; early = omega arith; state = state; has_state = has_state; fell = is; full = sym same })
          (Contains-push_cases (layer_at layers round) (full_cube state) cube in_layer))
          (λ n in_layer. wider_cube n cube (before.sound n cube in_layer)) other has;
      whole = λ node fell one small at fallen. ⊎_elim
          (λ early. by_round (λ n layer. Contains (layer_at layers n) (full_cube one) → Contains layer (full_cube one)) (λ was. Contains-append_left (layer_at layers round) (full_cube state ∷ []) (full_cube one) was) (λ n was. was) fell (before.whole node fell one early at fallen))
          (λ late.
          let same : node ≡ nodes = omega arith in
          let both : Fallen round ≡ Fallen fell = sym is ∙ ap (fate_of fates) (sym same) ∙ fallen in
          let same_round : round ≡ fell = cc in
          let same_state : state ≡ one = same_Some state one (sym has_state ∙ ap (slice_get states) (sym same) ∙ at) in
          let P : ℕ → Type 0 = λ n. Contains (layer_at after n) (full_cube one) in
          let Q : List CubeView → Type 0 = λ layer. Contains layer (full_cube one) in
          let R : List Bool → Type 0 = λ s. Contains (layer_at layers round ++ full_cube state ∷ []) (full_cube s) in
          subst P same_round (subst Q (sym put.here) (subst R same_state (Contains-push (layer_at layers round) (full_cube state)))))
          (cases_lt node nodes);
      once = by_round (λ n layer. AreDistinct layer) (distinct-push (layer_at layers round) (full_cube state) (before.once round) new_cube) before.once;
      small = by_round (λ n layer. length layer ≤ nodes + 1) (omega (arith, before.small round, length-append (layer_at layers round) (full_cube state ∷ []))) (λ n. omega (arith, before.small n));
    }
      where
        by_round : (P : ℕ → List CubeView → Type 0) → P round (layer_at layers round ++ full_cube state ∷ []) → ((n : ℕ) → P n (layer_at layers n)) → (n : ℕ) → P n (layer_at after n)
        by_round P here other n = ⊎_elim
            (λ same. subst (λ k. P k (layer_at after k)) (sym same) (subst (P round) (sym put.here) here))
            (λ differs. subst (P n) (sym (put.others n differs)) (other n))
            (cases_eq n round)

        new_cube : ¬ Contains (layer_at layers round) (full_cube state)
        new_cube has =
            let fallen = before.sound round (full_cube state) has in
            let same : fallen.node ≡ nodes = one_number states distinct fallen.node nodes state (fallen.has_state ∙ ap (λ s. Some s) (same_full fallen.state state (sym fallen.full))) has_state in
            omega (arith, fallen.early)

    pub small_layers : (bound : ℕ) → nodes < bound → All (λ layer. length layer < bound) layers
    small_layers bound few = All-from_get_or (λ (layer : List CubeView). length layer < bound) layers [] (λ i within. omega (arith, before.small i, few))
