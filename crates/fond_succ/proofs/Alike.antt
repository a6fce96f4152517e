-- The successors in the ground task stand for those in the task.
use Rattle.std.proofs.Common.{◌≡◌, ℕ, ◌∙◌, inl, inr, Bool, true, false, List, [], ◌∷◌, ◌++◌, map, fold, Some, slice_get, option_map, refl, sym, ap, subst, true≢false}
use Rattle.std.specs.Prelude.{◌||◌, if◌then◌else◌}
use Rattle.std.specs.Bool.{Decides, beq}
use Rattle.std.specs.Cmp.{booleans_Decides}
use Rattle.std.specs.Cmp.Lexicographic.{pointwise, pointwise_decides}
use Rattle.std.specs.List.{flat_map, list_any}
use Rattle.std.proofs.lemmas.List.{map-append}
use Rattle.std.proofs.lemmas.Simd.{map-map}
use Rattle.std.proofs.lemmas.Option.{same_Some}
use Rattle.fond_text.specs.declared.atom.GroundAction.{GroundAction}
use Rattle.fond_ast.specs.declared.task.LiftedTask.{LiftedTask}
use Rattle.fond_ast.specs.States.{State}
use Rattle.fond_ast.specs.Outcomes.{is_same_state, once as once_of, outcomes, state_after}
use Rattle.fond_ast.specs.Solutions.{IsApplicable, initial}
use Rattle.fond_ast.proofs.Once.{same-itself, same-states}
use Rattle.fond_task.specs.Steps.{next_state}
use Rattle.fond_task.specs.Texts as ground_texts
use Rattle.fond_task.specs.Truth.{is_true}
use Rattle.fond_task.specs.declared.task.Act.{Act}
use Rattle.fond_task.specs.declared.task.Entry.{Entry}
use Rattle.fond_task.specs.declared.task.Task.{Task}
use Rattle.fond_task.proofs.Indices.{length-by_index}
use Rattle.fond_ground.specs.Grounds.{IsGroundOf}
use Rattle.fond_ground.specs.Texts.{state_text}
use Rattle.fond_succ.specs.Stands.{stands}
use Rattle.fond_succ.specs.Games.{IsState, action_of}
use Rattle.fond_succ.proofs.Between.{ground-tasks-play, outcomes-lead-alike, stands-is-injective, texts-agree}
use Rattle.fond_succ.proofs.Kept.{mapped}
use Rattle.fond_succ.proofs.Firsts.{same_tests}
use Rattle.fond_succ.proofs.Plays.{named}
use Rattle.fond_ast.proofs.Members.{Member, Member-cases, Member-from_map}
use Rattle.fond_succ.specs.Steps.{added, once}
use Rattle.fond_succ.specs.Successors.{IsSuccessorsText}

decides : (x y : List Bool) → Decides (pointwise beq x y) (x ≡ y)
decides = pointwise_decides booleans_Decides

abbrev put : List State → State → List State
put before state = if list_any (is_same_state state) before then before else before ++ state ∷ []

-- every state of a list has a truth value for each atom
abbrev AreStates : Task → List (List Bool) → Type 0
AreStates game states = (state : List Bool) → Member states state → IsState game state

module _ (task : LiftedTask) (game : Task) (is : IsGroundOf task game) where
  abbrev S : List Bool → State
  S = stands task

  same-test : (values other : List Bool) → IsState game values → IsState game other → pointwise beq values other ≡ is_same_state (S values) (S other)
  same-test values other state also = same_tests _ _
      (λ told. subst (λ v. is_same_state (S values) (S v) ≡ true) ((decides values other).0 told) (same-itself (S values)))
      (λ told. (decides values other).1 (stands-is-injective task game values other is state also (same-states (S values) (S other) told)))

  same-any : (values : List Bool) (before : List (List Bool)) → IsState game values → AreStates game before → list_any (pointwise beq values) before ≡ list_any (is_same_state (S values)) (map S before)
  same-any values [] state all = refl
  same-any values (other ∷ before) state all = λ i. same-test values other state (all other (inl refl)) i || same-any values before state (λ s m. all s (inr m)) i

  added-put : (before : List (List Bool)) (values : List Bool) → IsState game values → AreStates game before → map S (added before values) ≡ put (map S before) (S values)
  added-put before values state all = ap (λ b. map S (if b then before else before ++ values ∷ [])) (same-any values before state all) ∙ by (list_any (is_same_state (S values)) (map S before))
    where
      by : (b : Bool) → map S (if b then before else before ++ values ∷ []) ≡ (if b then map S before else map S before ++ S values ∷ [])
      by true = refl
      by false = map-append S before (values ∷ [])

  added-states : (before : List (List Bool)) (values : List Bool) → IsState game values → AreStates game before → AreStates game (added before values)
  added-states before values state all = by (list_any (pointwise beq values) before)
    where
      by : (b : Bool) → AreStates game (if b then before else before ++ values ∷ [])
      by true s m = all s m
      by false s m = elim (Member-cases before (values ∷ []) s m) [ inl h ↦ all s h | inr h ↦ elim h [ inl e ↦ subst (IsState game) (sym e) state | inr none ↦ absurd none ] ]

  fold-put : (states before : List (List Bool)) → AreStates game before → AreStates game states → map S (fold added before states) ≡ fold put (map S before) (map S states)
  fold-put [] before earlier all = refl
  fold-put (values ∷ states) before earlier all =
      fold-put states (added before values) (added-states before values (all values (inl refl)) earlier) (λ s m. all s (inr m))
      ∙ ap (λ now. fold put now (map S states)) (added-put before values (all values (inl refl)) earlier)

  text-of : (states : List (List Bool)) → AreStates game states → flat_map (ground_texts.state_text game) states ≡ flat_map (state_text task) (map S states)
  text-of [] all = refl
  text-of (values ∷ states) all = λ i. texts-agree task game values is (all values (inl refl)) i ++ text-of states (λ s m. all s (inr m)) i

  fold-states : (states before : List (List Bool)) → AreStates game before → AreStates game states → AreStates game (fold added before states)
  fold-states [] before earlier all = earlier
  fold-states (values ∷ states) before earlier all = fold-states states (added before values) (added-states before values (all values (inl refl)) earlier) (λ s m. all s (inr m))

  next-long : (values : List Bool) (outcome : List Entry) → IsState game values → IsState game (next_state values outcome)
  next-long values outcome state = length-by_index _ values ∙ state

  module _ (number : ℕ) (act : Act) (action : GroundAction) (at : slice_get game.acts number ≡ Some act) (same : act.ground ≡ action) where
    numbered : action_of game number ≡ Some action
    numbered = ap (option_map (λ (a : Act). a.ground)) at ∙ ap Some same

    first : S game.init ≡ initial task
    first = (ground-tasks-play task game is).first

    applies : IsApplicable task (initial task) action → is_true game.init act.pre ≡ true
    applies applicable =
        let ground_one = ((ground-tasks-play task game is).applicable game.init number action game.init_long numbered).1 (subst (λ s. IsApplicable task s action) (sym first) applicable) in
        ap (λ (a : Act). is_true game.init a.pre) (same_Some act ground_one.act (sym at ∙ ground_one.numbered)) ∙ ground_one.holds

    -- an action that is not applicable in the ground task is not in the task
    pub not_applicable : is_true game.init act.pre ≡ false → ¬ IsApplicable task (initial task) action
    not_applicable never applicable = true≢false (sym (applies applicable) ∙ never)

    -- the texts of the states to which the outcomes lead are those of the successors
    pub successors_text : is_true game.init act.pre ≡ true → IsSuccessorsText task action (flat_map (ground_texts.state_text game) (once (map (next_state game.init) act.outcomes)))
    successors_text holds =
        let one = named task game is number action numbered in
        let states = map (next_state game.init) act.outcomes in
        let all : AreStates game states = λ s m. (let from = Member-from_map (next_state game.init) act.outcomes s m in subst (IsState game) (sym from.2) (next-long game.init from.0 game.init_long)) in
        let none : AreStates game [] = λ s m. absurd m in
        let acts : one.act ≡ act = same_Some one.act act (sym one.numbered ∙ at) in
        let lead = outcomes-lead-alike task game action one.act one.is game.init is game.init_long in
        let shown : map S states ≡ map (state_after (initial task)) (outcomes action.objects one.is.schema.effect) =
        map-map S (next_state game.init) act.outcomes ∙ ap (λ (a : Act). map (λ outcome. S (next_state game.init outcome)) a.outcomes) (sym acts) ∙ lead ∙ ap (λ s. map (state_after s) (outcomes action.objects one.is.schema.effect)) first in
        record {
          applicable = subst (λ s. IsApplicable task s action) first
              (((ground-tasks-play task game is).applicable game.init number action game.init_long numbered).0 (record { act = act; numbered = at; holds = holds }));
          schema = one.is.schema;
          numbered = one.is.numbered;
          text_is = text-of (once states) (fold-states states [] none all) ∙ ap (flat_map (state_text task)) (fold-put states [] none all ∙ ap once_of shown);
        }

  -- an action that is not kept is not applicable
  pub not_kept : (action : GroundAction) → ((number : ℕ) (act : Act) → slice_get game.acts number ≡ Some act → ¬ act.ground ≡ action) → ¬ IsApplicable task (initial task) action
  not_kept action none applicable =
      let kept = (ground-tasks-play task game is).kept game.init action game.init_long (subst (λ s. IsApplicable task s action) (sym (ground-tasks-play task game is).first) applicable) in
      let from = mapped (λ (a : Act). a.ground) (slice_get game.acts kept.0) action kept.1 in
      none kept.0 from.0 from.1 from.2
