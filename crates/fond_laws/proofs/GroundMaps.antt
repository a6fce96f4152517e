-- The finite maps of a ground task are characterized.
use Rattle.std.proofs.Common.{inl, inr, ◌≡◌, ℕ, List, [], ◌∷◌, Bool, true, Option, Some, None, length, map, slice_get, refl, sym, ◌∙◌, subst}
use Rattle.std.specs.Prelude.{Contains, IsTrue, nat_lt}
use Rattle.std.specs.Bool.{beq}
use Rattle.std.specs.Cmp.{booleans_Decides}
use Rattle.std.specs.Cmp.Lexicographic.{pointwise, pointwise_decides}
use Rattle.std.proofs.lemmas.Bool.{false≢true}
use Rattle.std.proofs.lemmas.Option.{none-some, same_Some}
use Rattle.fond_games.specs.Lassos.{AlwaysLeads}
use Rattle.fond_games.proofs.Lists.{decided, and_left, and_right, Contains-none, Contains-here}
use Rattle.fond_games.proofs.Trapped.{Contains-from_map}
use Rattle.fond_ast.proofs.Come.{all-at}
use Rattle.fond_task.proofs.Lists.{Contains-map}
use Rattle.fond_task.specs.declared.task.Act.{Act}
use Rattle.fond_task.specs.declared.task.Task.{Task}
use Rattle.fond_task.specs.Policies.{IsApplicable, IsUnfair, game}
use Rattle.fond_task.specs.Steps.{next_state}
use Rattle.fond_task.specs.Truth.{is_true}
use Rattle.fond_task.specs.Within.{is_act_within}
use Rattle.fond_laws.specs.PolicyLaws.{GroundMapsAreCharacterized}
use Rattle.fond_laws.proofs.Known.{Known, known_as, known_bit}
use Rattle.fond_laws.proofs.Reaching.{AreNexts, IsKnown, characterized}

-- a list that is not empty has a member
some_of : {X : Type 0} (xs : List X) → nat_lt 0 (length xs) ≡ true → (x : X) × Contains xs x
some_of [] more = absurd (false≢true more)
some_of (x ∷ xs) more = (x, Contains-here x xs)

module _ (task : Task) where
  one_act : (number : ℕ) (act other : Act) → slice_get task.acts number ≡ Some act → slice_get task.acts number ≡ Some other → other ≡ act
  one_act number act other at also = same_Some other act (sym also ∙ at)

  known_applicable : (state : List Bool) (number : ℕ) → Known (IsApplicable task state number)
  known_applicable state number = go (slice_get task.acts number) refl
    where
      go : (o : Option Act) → slice_get task.acts number ≡ o → Known (IsApplicable task state number)
      go None at = inr (λ is. none-some is.act (sym at ∙ is.numbered))
      go (Some act) at = known_as
          (λ holds. record { act = act; numbered = at; holds = holds })
          (λ is. subst (λ (a : Act). IsTrue (is_true state a.pre)) (one_act number act is.act at is.numbered) is.holds)
          (known_bit (is_true state act.pre))

  known_unfair : (number : ℕ) → Known (IsUnfair task number)
  known_unfair number = go (slice_get task.acts number) refl
    where
      go : (o : Option Act) → slice_get task.acts number ≡ o → Known (IsUnfair task number)
      go None at = inr (λ is. none-some is.act (sym at ∙ is.numbered))
      go (Some act) at = known_as
          (λ flagged. record { act = act; numbered = at; flagged = flagged })
          (λ is. subst (λ (a : Act). a.unfair ≡ true) (one_act number act is.act at is.numbered) is.flagged)
          (known_bit act.unfair)

  -- the states to which the outcomes of an applicable action lead are those that may come next
  given_next : (state : List Bool) (number : ℕ) (applies : IsApplicable task state number) → AreNexts (game task) state number (map (next_state state) applies.act.outcomes)
  given_next state number applies after = (
    λ next.
        let same = one_act number applies.act next.act applies.numbered next.numbered in
        subst (Contains (map (next_state state) applies.act.outcomes)) (sym next.given)
        (Contains-map (next_state state) applies.act.outcomes next.outcome (subst (λ (a : Act). Contains a.outcomes next.outcome) same next.one)),
    λ has.
        let from = Contains-from_map (next_state state) applies.act.outcomes after has in
        record { act = applies.act; numbered = applies.numbered; holds = applies.holds; outcome = from.0; one = from.1; given = sym from.2 },
  )

  known_nexts : (state : List Bool) (number : ℕ) → (afters : List (List Bool)) × AreNexts (game task) state number afters
  known_nexts state number = go (known_applicable state number)
    where
      go : Known (IsApplicable task state number) → (afters : List (List Bool)) × AreNexts (game task) state number afters
      go (inl applies) = (map (next_state state) applies.act.outcomes, given_next state number applies)
      go (inr none) = ([], λ after. (λ next. absurd (none (record { act = next.act; numbered = next.numbered; holds = next.holds })), λ has. absurd (Contains-none after has)))

  known : IsKnown (game task)
  known = record {
    same = λ state other. decided (pointwise beq state other) (pointwise_decides booleans_Decides state other);
    goal = λ state. known_bit (is_true state task.goal);
    applicable = known_applicable;
    unfair = known_unfair;
    nexts = known_nexts;
  }

  -- each applicable action leads to some state, since it has an outcome
  leads : AlwaysLeads (game task)
  leads state number applies =
      let atoms = length task.atoms in
      let act = applies.act in
      let within = all-at (is_act_within atoms) task.acts number act applies.numbered task.acts_within in
      let counted = and_left _ _ (and_left _ _ within) in
      let one = some_of act.outcomes (and_right _ _ counted) in
      (next_state state one.0, record { act = act; numbered = applies.numbered; holds = applies.holds; outcome = one.0; one = one.1; given = refl })

pub ground_maps_are_characterized : GroundMapsAreCharacterized
ground_maps_are_characterized task policy finite = characterized (game task) (known task) policy finite (leads task)
