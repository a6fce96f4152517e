-- If two games have the same moves, one is solvable by a finite map if and only if the other is.
use Rattle.std.proofs.Common.{◌≡◌, Bool, true, false, Option, Some, None, map, refl, sym, ap, ◌∙◌, subst}
use Rattle.std.specs.Prelude.{◌↔◌, Contains, IsSome, IsTrue, if◌then◌else◌, option_and_then}
use Rattle.std.proofs.lemmas.Bool.{false≢true, cond-true}
use Rattle.std.proofs.lemmas.Option.{none-some}
use Rattle.fond_state.specs.Games.{Game, Policy, IsFiniteMap, IsSolvable}
use Rattle.fond_task.proofs.Lists.{Contains-map}
use Rattle.fond_succ.proofs.Bridges.{Naming, IsBridge, Correspond, solution_down, solution_up, back_has}

-- if a test guards an option and the whole has a value, the test passes and the option has the value
through : {X : Type 0} (test : Bool) (o : Option X) (x : X) → (if test then o else None) ≡ Some x → IsTrue test × (o ≡ Some x)
through true o x is = (refl, is)
through false o x is = absurd (none-some x is)

some_through : {X : Type 0} (test : Bool) (o : Option X) → IsSome (if test then o else None) → IsTrue test × IsSome o
some_through true o has = (refl, has)
some_through false o has = absurd (false≢true has)

-- if a function of an option's value gives a value, the option has one that gives it
pub and_then : {X Y : Type 0} (f : X → Option Y) (o : Option X) (y : Y) → option_and_then f o ≡ Some y → (x : X) × (o ≡ Some x) × (f x ≡ Some y)
and_then f None y is = absurd (none-some y is)
and_then f (Some x) y is = (x, refl, is)

some_then : {X Y : Type 0} (f : X → Option Y) (o : Option X) → IsSome (option_and_then f o) → IsSome o
some_then f None has = has
some_then f (Some x) has = refl

module _ {S A V N : Type 0} (names : Naming S A V N) where
  -- a policy, in the states that stand for those of the other game: it chooses the number of the action, if there is one
  abbrev pub restricted : Policy S A → Policy V N
  restricted policy v = if names.fits v then option_and_then names.number_of (policy (names.stands v)) else None

  module _ (same : S → S → Bool) where
    -- a policy, in the states for which some state stands: it chooses the action of the number
    abbrev raised : Policy V N → Policy S A
    raised choices s = if same (names.stands (names.back s)) s then option_and_then names.action_of (choices (names.back s)) else None

module _ {S A V N : Type 0} (names : Naming S A V N) (lifted : Game S A) (ground : Game V N) (bridge : IsBridge names lifted ground) where
  pub restricted_corresponds : (policy : Policy S A) → Correspond names (restricted names policy) policy
  restricted_corresponds policy v n a fits named = (
    λ chosen.
        let from = and_then names.number_of (policy (names.stands v)) n (through (names.fits v) _ n chosen).1 in
        from.1 ∙ sym ((bridge.numbered n from.0).1 from.2) ∙ named,
    λ taken. cond-true (names.fits v) _ _ fits ∙ ap (option_and_then names.number_of) taken ∙ (bridge.numbered n a).0 named,
  )

  pub restricted_finite : (policy : Policy S A) → IsFiniteMap policy → IsFiniteMap (restricted names policy)
  restricted_finite policy finite = (
    map names.back finite.0,
    λ v has.
        let chosen = some_through (names.fits v) (option_and_then names.number_of (policy (names.stands v))) has in
        back_has names lifted ground bridge finite.0 v chosen.0 (finite.1 (names.stands v) (some_then names.number_of (policy (names.stands v)) chosen.1)),
  )

  pub solvable_up : IsSolvable lifted → IsSolvable ground
  solvable_up solvable = (
    restricted names solvable.0,
    restricted_finite solvable.0 solvable.1,
    solution_up names lifted ground bridge (restricted names solvable.0) solvable.0 (restricted_corresponds solvable.0) solvable.2,
  )

  module _ (same : S → S → Bool) (same_is : (s t : S) → (s ≡ t) ↔ IsTrue (same s t)) where
    raised_corresponds : (choices : Policy V N) → Correspond names choices (raised names same choices)
    raised_corresponds choices v n a fits named =
        let back = bridge.back_is v fits in
        let passes : IsTrue (same (names.stands (names.back (names.stands v))) (names.stands v)) = (same_is _ _).0 (ap names.stands back) in
        let here : raised names same choices (names.stands v) ≡ option_and_then names.action_of (choices v) = cond-true _ _ _ passes ∙ ap (λ w. option_and_then names.action_of (choices w)) back in (
          λ chosen. here ∙ ap (option_and_then names.action_of) chosen ∙ named,
          λ taken.
              let from = and_then names.action_of (choices v) a (sym here ∙ taken) in
              from.1 ∙ sym ((bridge.numbered from.0 a).0 from.2) ∙ (bridge.numbered n a).0 named,
        )

    raised_finite : (choices : Policy V N) → IsFiniteMap choices → IsFiniteMap (raised names same choices)
    raised_finite choices finite = (
      map names.stands finite.0,
      λ s has.
          let chosen = some_through (same (names.stands (names.back s)) s) (option_and_then names.action_of (choices (names.back s))) has in
          let listed = Contains-map names.stands finite.0 (names.back s) (finite.1 (names.back s) (some_then names.action_of (choices (names.back s)) chosen.1)) in
          subst (Contains (map names.stands finite.0)) ((same_is _ _).1 chosen.0) listed,
    )

    pub solvable_down : IsSolvable ground → IsSolvable lifted
    solvable_down solvable = (
      raised names same solvable.0,
      raised_finite solvable.0 solvable.1,
      solution_down names lifted ground bridge solvable.0 (raised names same solvable.0) (raised_corresponds solvable.0) solvable.2,
    )
