-- The finite maps of a task are characterized.
use Rattle.std.proofs.Common.{inl, inr, ◌≡◌, ℕ, ◌≤◌, true, List, [], Option, Some, None, length, map, slice_get, refl, sym, ap, ◌∙◌, subst}
use Rattle.std.specs.Prelude.{Contains}
use Rattle.std.proofs.lemmas.Option.{none-some, same_Some, slice_get_past}
use Rattle.fond_text.specs.Lists.{each_passes}
use Rattle.fond_text.specs.declared.atom.GroundAction.{GroundAction}
use Rattle.fond_games.specs.Lassos.{AlwaysLeads}
use Rattle.fond_games.proofs.Lists.{decided, Contains-none}
use Rattle.fond_ast.specs.Conditions.{Holds, IsTuple, tuples}
use Rattle.fond_ast.specs.Outcomes.{is_same_state, outcomes, state_after}
use Rattle.fond_ast.specs.Patterns.{Fits, IsUnfairWith}
use Rattle.fond_ast.specs.Ranges.{is_among, objects_of}
use Rattle.fond_ast.specs.Solutions.{IsApplicable, IsUnfair, game}
use Rattle.fond_ast.specs.States.{State}
use Rattle.fond_ast.specs.Truths.{holds}
use Rattle.fond_ast.specs.declared.form.LCond.{LCond}
use Rattle.fond_ast.specs.declared.form.LTerm.{LTerm}
use Rattle.fond_ast.specs.declared.form.LTerm.TheVariants.{Object, Variable}
use Rattle.fond_ast.specs.declared.task.LSchema.{LSchema}
use Rattle.fond_ast.specs.declared.task.LiftedTask.{LiftedTask}
use Rattle.fond_ast.proofs.Choosing.{has-outcome}
use Rattle.fond_ast.proofs.Come.{outcomes-come-next, schema-chooses}
use Rattle.fond_ast.proofs.Members.{Contains-from_Member, Member-map}
use Rattle.fond_ast.proofs.Once.{same-states, same-itself}
use Rattle.fond_ast.proofs.Tested.{truth-is-tested}
use Rattle.fond_ast.proofs.Tuples.{tuples-lie-in-ranges}
use Rattle.fond_laws.specs.PolicyLaws.{MapsAreCharacterized}
use Rattle.fond_laws.proofs.Known.{Known, known_all, known_as, known_bit, known_both, known_either, known_number, known_option, known_some}
use Rattle.fond_laws.proofs.Reaching.{AreNexts, IsKnown, characterized}

known_state : (state other : State) → Known (state ≡ other)
known_state state other = decided (is_same_state state other) (
  λ is. same-states state other is,
  λ same. subst (λ one. is_same_state state one ≡ true) same (same-itself state),
)

known_holds : (state : State) (env : List ℕ) (condition : LCond) → Known (Holds state env condition)
known_holds state env condition =
    let tested = truth-is-tested state env condition in
    known_as tested.1 tested.0 (known_bit (holds state env condition))

known_tuple : (ranges : List (List ℕ)) (objects : List ℕ) → Known (Contains (tuples ranges) objects)
known_tuple ranges objects =
    let lies = tuples-lie-in-ranges ranges objects in
    known_as lies.1 lies.0 (known_bit (each_passes (map is_among ranges) objects))

-- an object at a position is the one that the term there names
known_named : (term : Option LTerm) (object : Option ℕ) → Known ((number : ℕ) → term ≡ Some (Object number) → object ≡ Some number)
known_named None object = inl (λ number is. absurd (none-some (Object number) is))
known_named (Some (Variable variable)) object = inl (λ number is. absurd (cc))
known_named (Some (Object name)) object = known_as
    (λ same number is. same ∙ ap Some (object_is number is))
    (λ all. all name refl)
    (known_option object (Some name))
  where
    object_is : (number : ℕ) → Some (Object name) ≡ Some (Object number) → name ≡ number
    object_is number is = cc

-- the objects at two positions are equal if the terms there are the same variable
known_equal : (term other : Option LTerm) (one two : Option ℕ) → Known ((number : ℕ) → term ≡ Some (Variable number) → other ≡ Some (Variable number) → one ≡ two)
known_equal None other one two = inl (λ number is also. absurd (none-some (Variable number) is))
known_equal (Some (Object name)) other one two = inl (λ number is also. absurd (cc))
known_equal (Some (Variable variable)) None one two = inl (λ number is also. absurd (none-some (Variable number) also))
known_equal (Some (Variable variable)) (Some (Object name)) one two = inl (λ number is also. absurd (cc))
known_equal (Some (Variable variable)) (Some (Variable another)) one two = go (known_number variable another) (known_option one two)
  where
    differ : (number : ℕ) → ¬ (variable ≡ another) → Some (Variable variable) ≡ Some (Variable number) → Some (Variable another) ≡ Some (Variable number) → ⊥
    differ number apart is also = let same : variable ≡ another = cc in apart same

    go : Known (variable ≡ another) → Known (one ≡ two) → Known ((number : ℕ) → Some (Variable variable) ≡ Some (Variable number) → Some (Variable another) ≡ Some (Variable number) → one ≡ two)
    go same (inl equal) = inl (λ number is also. equal)
    go (inr apart) (inr none) = inl (λ number is also. absurd (differ number apart is also))
    go (inl same) (inr none) = inr (λ all. none (all variable refl (ap (λ number. Some (Variable number)) (sym same))))

known_fits : (pattern : List LTerm) (objects : List ℕ) → Known (Fits pattern objects)
known_fits pattern objects = known_as
    (λ parts. record { counted = parts.0; named = parts.1.0; equal = parts.1.1 })
    (λ fits. (fits.counted, (fits.named, fits.equal)))
    (known_both (known_number (length pattern) (length objects)) (known_both all_named all_equal))
  where
    none_past : (at : ℕ) (term : LTerm) → length pattern ≤ at → ¬ (slice_get pattern at ≡ Some term)
    none_past at term high is = none-some term (sym (slice_get_past pattern at high) ∙ is)

    all_named : Known ((at number : ℕ) → slice_get pattern at ≡ Some (Object number) → slice_get objects at ≡ Some number)
    all_named = known_all (λ at. (number : ℕ) → slice_get pattern at ≡ Some (Object number) → slice_get objects at ≡ Some number)
        (λ at. known_named (slice_get pattern at) (slice_get objects at))
        (length pattern) (λ at high number is. absurd (none_past at (Object number) high is))

    all_equal : Known ((at other number : ℕ) → slice_get pattern at ≡ Some (Variable number) → slice_get pattern other ≡ Some (Variable number) → slice_get objects at ≡ slice_get objects other)
    all_equal = known_all (λ at. (other number : ℕ) → slice_get pattern at ≡ Some (Variable number) → slice_get pattern other ≡ Some (Variable number) → slice_get objects at ≡ slice_get objects other)
        (λ at. known_all (λ other. (number : ℕ) → slice_get pattern at ≡ Some (Variable number) → slice_get pattern other ≡ Some (Variable number) → slice_get objects at ≡ slice_get objects other)
        (λ other. known_equal (slice_get pattern at) (slice_get pattern other) (slice_get objects at) (slice_get objects other))
        (length pattern) (λ other high number is also. absurd (none_past other (Variable number) high also)))
        (length pattern) (λ at high other number is also. absurd (none_past at (Variable number) high is))

known_unfair_with : (schema : LSchema) (objects : List ℕ) → Known (IsUnfairWith schema objects)
known_unfair_with schema objects = known_either (known_bit schema.unfair) (known_some (λ pattern. Fits pattern objects) (λ pattern. known_fits pattern objects) schema.patterns)

module _ (task : LiftedTask) where
  one_schema : (number : ℕ) (schema other : LSchema) → slice_get task.schemas number ≡ Some schema → slice_get task.schemas number ≡ Some other → other ≡ schema
  one_schema number schema other at also = same_Some other schema (sym also ∙ at)

  known_applicable : (state : State) (action : GroundAction) → Known (IsApplicable task state action)
  known_applicable state action = go (slice_get task.schemas action.schema) refl
    where
      go : (o : Option LSchema) → slice_get task.schemas action.schema ≡ o → Known (IsApplicable task state action)
      go None at = inr (λ is. none-some is.schema (sym at ∙ is.numbered))
      go (Some schema) at = known_as
          (λ parts. record { schema = schema; numbered = at; fits = parts.0; holds = parts.1 })
          (λ is. subst (λ (one : LSchema). IsTuple one.ranges action.objects × Holds state action.objects one.pre) (one_schema action.schema schema is.schema at is.numbered) (is.fits, is.holds))
          (known_both (known_tuple (objects_of schema.ranges) action.objects) (known_holds state action.objects schema.pre))

  known_unfair : (action : GroundAction) → Known (IsUnfair task action)
  known_unfair action = go (slice_get task.schemas action.schema) refl
    where
      go : (o : Option LSchema) → slice_get task.schemas action.schema ≡ o → Known (IsUnfair task action)
      go None at = inr (λ is. none-some is.schema (sym at ∙ is.numbered))
      go (Some schema) at = known_as
          (λ unfair. record { schema = schema; numbered = at; unfair = unfair })
          (λ is. subst (λ (one : LSchema). IsUnfairWith one action.objects) (one_schema action.schema schema is.schema at is.numbered) is.unfair)
          (known_unfair_with schema action.objects)

  known_nexts : (state : State) (action : GroundAction) → (afters : List State) × AreNexts (game task) state action afters
  known_nexts state action = go (known_applicable state action)
    where
      go : Known (IsApplicable task state action) → (afters : List State) × AreNexts (game task) state action afters
      go (inl applies) = (map (state_after state) (outcomes action.objects applies.schema.effect), outcomes-come-next task state action applies.schema applies.numbered applies)
      go (inr none) = (
        [],
        λ after. (
          λ next. absurd (none (record { schema = next.schema; numbered = next.numbered; fits = next.fits; holds = next.holds })),
          λ has. absurd (Contains-none after has),
        ),
      )

  known : IsKnown (game task)
  known = record {
    same = known_state;
    goal = λ state. known_holds state [] task.goal;
    applicable = known_applicable;
    unfair = known_unfair;
    nexts = known_nexts;
  }

  -- each applicable action leads to some state, since its effect has an outcome
  leads : AlwaysLeads (game task)
  leads state action applies =
      let effect = applies.schema.effect in
      let some = has-outcome effect action.objects (schema-chooses task action.schema applies.schema applies.numbered) in
      let after = state_after state some.0 in (
        after,
        (outcomes-come-next task state action applies.schema applies.numbered applies after).1
            (Contains-from_Member (map (state_after state) (outcomes action.objects effect)) after (Member-map (state_after state) (outcomes action.objects effect) some.0 some.1)),
      )

pub maps_are_characterized : MapsAreCharacterized
maps_are_characterized task policy finite = characterized (game task) (known task) policy finite (leads task)
