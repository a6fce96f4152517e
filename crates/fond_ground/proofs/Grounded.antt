-- Effects, their ground effects and their outcomes, by their parts.
use Rattle.std.proofs.Common.{◌≡◌, ℕ, ◌∙◌, ◌&&◌, not, Bool, true, List, [], ◌∷◌, ◌++◌, Vec, Box, Global, Option, is_some, length, map, refl, sym, ap, subst}
use Rattle.std.specs.Prelude.{◌==◌}
use Rattle.std.specs.List.{AllZip, flat_map, fold, list_all}
use Rattle.std.proofs.lemmas.List.{length-map}
use Rattle.std.proofs.lemmas.List.Folds.{list_all-map}
use Rattle.fond_text.specs.Lists.{concatenations}
use Rattle.fond_ast.specs.Ranges.{RangeList, objects_of}
use Rattle.fond_ast.specs.declared.form.LAtom.{LAtom}
use Rattle.fond_ast.specs.declared.form.LCond.{LCond}
use Rattle.fond_ast.specs.declared.form.LEffect.{LEffect, Add, Delete, And, Forall, When, OneOf}
use Rattle.fond_ast.specs.declared.form.LEffect.TheOpen as open_effect
use Rattle.fond_ast.specs.declared.form.LEffect.TheViews.{rolls-Add, rolls-Delete, rolls-And, rolls-Forall, rolls-When, rolls-OneOf}
use Rattle.fond_ast.specs.declared.form.LEffect.TheFolds.{fold-LEffect, fold-roll-LEffect}
use Rattle.fond_ast.specs.declared.task.LiftedTask.{LiftedTask}
use Rattle.fond_join.specs.Values.{condition_value}
use Rattle.fond_ast.specs.Conditions.{ground_atom, tuples}
use Rattle.fond_ast.specs.Outcomes.{Guard, Literal, guarded, outcomes, outcomes_step}
use Rattle.fond_ast.proofs.Bools.{and-both}
use Rattle.fond_oneof.specs.Outcomes as ground
use Rattle.fond_oneof.specs.Within.{has_members, is_effect_over, members_step, over_step}
use Rattle.fond_oneof.specs.declared.effect.GroundEffect.{GroundEffect}
use Rattle.fond_oneof.specs.declared.effect.GroundEffect as made
use Rattle.fond_oneof.specs.declared.effect.GroundEffect.TheOpen as open_ground
use Rattle.fond_oneof.specs.declared.effect.GroundEffect.TheViews as rolls
use Rattle.fond_oneof.specs.declared.effect.GroundEffect.TheFolds.{fold-roll-GroundEffect}
use Rattle.fond_task.specs.declared.form.Form.{Form}
use Rattle.fond_task.specs.declared.form.Kleene.{Kleene}
use Rattle.fond_task.specs.declared.form.Kleene.TheVariants.{No, Unknown, Yes}
use Rattle.fond_task.specs.Values.{least, lesser, value}
use Rattle.fond_task.specs.Within.{is_form_within}
use Rattle.fond_ground.specs.Atoms.{atom_number, fluent_atoms}
use Rattle.fond_ground.specs.Effects.{is_numbered, numbered_step, StandsForLiteral, HasOutcomes, HaveOutcomes}
use Rattle.fond_ground.specs.Values.{atom_value, StandsFor}
use Rattle.fond_ground.proofs.Signs.{map-map}
use Rattle.fond_ground.proofs.Zips.{zip-map, zip-right, zip-flat, zip-concatenations, zip-all, zip-length}

module _ (task : LiftedTask) (env : List ℕ) where
  abbrev numbered : LEffect → Bool
  numbered effect = is_numbered task env effect

  pub numbered-Add : (atom : LAtom) → numbered (Add atom) ≡ is_some (atom_number task (ground_atom env atom))
  numbered-Add atom = ap numbered (sym (rolls-Add atom)) ∙ ap (λ f. f env) (fold-roll-LEffect (List ℕ → Bool) (numbered_step task) (open_effect.Add atom))

  pub numbered-Delete : (atom : LAtom) → numbered (Delete atom) ≡ is_some (atom_number task (ground_atom env atom))
  numbered-Delete atom = ap numbered (sym (rolls-Delete atom)) ∙ ap (λ f. f env) (fold-roll-LEffect (List ℕ → Bool) (numbered_step task) (open_effect.Delete atom))

  each : (members : List LEffect) → list_all (λ part. part env) (map (fold-LEffect (List ℕ → Bool) (numbered_step task)) members) ≡ list_all numbered members
  each members = list_all-map (λ part. part env) (fold-LEffect (List ℕ → Bool) (numbered_step task)) members

  pub numbered-And : (members : Vec LEffect Global) → numbered (And members) ≡ list_all numbered members.items
  numbered-And members = ap numbered (sym (rolls-And members)) ∙ ap (λ f. f env) (fold-roll-LEffect (List ℕ → Bool) (numbered_step task) (open_effect.And members)) ∙ each members.items

  pub numbered-OneOf : (members : Vec LEffect Global) → numbered (OneOf members) ≡ (not (length members.items == 0) && list_all numbered members.items)
  numbered-OneOf members =
      ap numbered (sym (rolls-OneOf members)) ∙ ap (λ f. f env) (fold-roll-LEffect (List ℕ → Bool) (numbered_step task) (open_effect.OneOf members))
      ∙ (λ i. not (length-map members.items (fold-LEffect (List ℕ → Bool) (numbered_step task)) i == 0) && each members.items i)

module _ (env : List ℕ) where
  pub outcomes-And : (members : Vec LEffect Global) → outcomes env (And members) ≡ concatenations (map (outcomes env) members.items)
  outcomes-And members =
      ap (outcomes env) (sym (rolls-And members)) ∙ ap (λ f. f env) (fold-roll-LEffect (List ℕ → List (List Literal)) outcomes_step (open_effect.And members))
      ∙ ap concatenations (map-map (fold-LEffect (List ℕ → List (List Literal)) outcomes_step) (λ part. part env) members.items)

  pub outcomes-Forall : (ranges : RangeList) (part : Box LEffect Global) → outcomes env (Forall ranges part) ≡ concatenations (map (λ objects. outcomes (env ++ objects) part.value) (tuples (objects_of ranges)))
  outcomes-Forall ranges part = ap (outcomes env) (sym (rolls-Forall ranges part)) ∙ ap (λ f. f env) (fold-roll-LEffect (List ℕ → List (List Literal)) outcomes_step (open_effect.Forall ranges part))

  pub outcomes-When : (condition : LCond) (part : Box LEffect Global) → outcomes env (When condition part) ≡ map (map (guarded (record { env = env; condition = condition }))) (outcomes env part.value)
  outcomes-When condition part = ap (outcomes env) (sym (rolls-When condition part)) ∙ ap (λ f. f env) (fold-roll-LEffect (List ℕ → List (List Literal)) outcomes_step (open_effect.When condition part))

  flat-id : {X Y : Type 0} (f : X → List Y) (xs : List X) → flat_map (λ list. list) (map f xs) ≡ flat_map f xs
  flat-id f [] = refl
  flat-id f (x ∷ xs) = ap (λ rest. f x ++ rest) (flat-id f xs)

  flat-map : {X Y Z : Type 0} (f : X → Y) (g : Y → List Z) (xs : List X) → flat_map g (map f xs) ≡ flat_map (λ x. g (f x)) xs
  flat-map f g [] = refl
  flat-map f g (x ∷ xs) = ap (λ rest. g (f x) ++ rest) (flat-map f g xs)

  pub outcomes-OneOf : (members : Vec LEffect Global) → outcomes env (OneOf members) ≡ flat_map (λ part. part) (map (outcomes env) members.items)
  outcomes-OneOf members =
      ap (outcomes env) (sym (rolls-OneOf members)) ∙ ap (λ f. f env) (fold-roll-LEffect (List ℕ → List (List Literal)) outcomes_step (open_effect.OneOf members))
      ∙ flat-map (fold-LEffect (List ℕ → List (List Literal)) outcomes_step) (λ part. part env) members.items ∙ sym (flat-id (outcomes env) members.items)

module _ (task : LiftedTask) where
  parts_outcomes : (lists : List (List (List Literal))) (parts : List GroundEffect) → HaveOutcomes task lists parts → AllZip (AllZip (AllZip (StandsForLiteral task))) lists (map ground.outcome_lists parts)
  parts_outcomes lists parts = zip-right (HasOutcomes task) (AllZip (AllZip (StandsForLiteral task))) ground.outcome_lists (λ list effect has. has.outcomes) lists parts

  parts_members : (lists : List (List (List Literal))) (parts : List GroundEffect) → HaveOutcomes task lists parts → list_all (λ part. part) (map has_members parts) ≡ true
  parts_members lists parts has = list_all-map (λ part. part) has_members parts ∙ zip-all (HasOutcomes task) has_members (λ list effect one. one.members) lists parts has

  parts_over : (lists : List (List (List Literal))) (parts : List GroundEffect) → HaveOutcomes task lists parts → list_all (λ part. part) (map (is_effect_over (length (fluent_atoms task))) parts) ≡ true
  parts_over lists parts has =
      list_all-map (λ part. part) (is_effect_over (length (fluent_atoms task))) parts ∙ zip-all (HasOutcomes task) (is_effect_over (length (fluent_atoms task))) (λ list effect one. one.over) lists parts has

  -- a conjunction has the concatenations of the outcomes of its parts
  pub has-And : (lists : List (List (List Literal))) (parts : Vec GroundEffect Global) → HaveOutcomes task lists parts.items → HasOutcomes task (concatenations lists) (made.And parts)
  has-And lists parts has = record {
    outcomes = subst (AllZip (AllZip (StandsForLiteral task)) (concatenations lists))
        (sym (ap ground.outcome_lists (sym (rolls.rolls-And parts)) ∙ fold-roll-GroundEffect (List (List ground.Literal)) ground.outcomes_step (open_ground.And parts)))
        (zip-concatenations (StandsForLiteral task) lists (map ground.outcome_lists parts.items) (parts_outcomes lists parts.items has));
    members = ap has_members (sym (rolls.rolls-And parts)) ∙ fold-roll-GroundEffect Bool members_step (open_ground.And parts) ∙ parts_members lists parts.items has;
    over = ap (is_effect_over (length (fluent_atoms task))) (sym (rolls.rolls-And parts)) ∙ fold-roll-GroundEffect Bool (over_step (length (fluent_atoms task))) (open_ground.And parts) ∙ parts_over lists parts.items has;
  }

  -- a choice that has a member has the outcomes of its members
  pub has-OneOf : (lists : List (List (List Literal))) (parts : Vec GroundEffect Global) → not (length lists == 0) ≡ true → HaveOutcomes task lists parts.items → HasOutcomes task (flat_map (λ list. list) lists) (made.OneOf parts)
  has-OneOf lists parts some has = record {
    outcomes = subst (AllZip (AllZip (StandsForLiteral task)) (flat_map (λ list. list) lists))
        (sym (ap ground.outcome_lists (sym (rolls.rolls-OneOf parts)) ∙ fold-roll-GroundEffect (List (List ground.Literal)) ground.outcomes_step (open_ground.OneOf parts)))
        (zip-flat (AllZip (AllZip (StandsForLiteral task))) (AllZip (StandsForLiteral task)) (λ list. list) (λ list. list) (λ list other h. h) lists (map ground.outcome_lists parts.items) (parts_outcomes lists parts.items has));
    members = ap has_members (sym (rolls.rolls-OneOf parts)) ∙ fold-roll-GroundEffect Bool members_step (open_ground.OneOf parts)
        ∙ and-both _ _ (ap (λ n. not (n == 0)) (length-map parts.items has_members ∙ sym (zip-length (HasOutcomes task) lists parts.items has)) ∙ some) (parts_members lists parts.items has);
    over = ap (is_effect_over (length (fluent_atoms task))) (sym (rolls.rolls-OneOf parts)) ∙ fold-roll-GroundEffect Bool (over_step (length (fluent_atoms task))) (open_ground.OneOf parts) ∙ parts_over lists parts.items has;
  }

  lesser_later : (u v w : Kleene) → lesser (lesser u v) w ≡ lesser u (lesser v w)
  lesser_later No v w = refl
  lesser_later Yes v w = refl
  lesser_later Unknown No w = refl
  lesser_later Unknown Yes w = refl
  lesser_later Unknown Unknown No = refl
  lesser_later Unknown Unknown Unknown = refl
  lesser_later Unknown Unknown Yes = refl

  least_after : (u v : Kleene) (values : List Kleene) → fold lesser (lesser u v) values ≡ lesser u (fold lesser v values)
  least_after u v [] = refl
  least_after u v (w ∷ values) = ap (λ x. fold lesser x values) (lesser_later u v w) ∙ least_after u (lesser v w) values

  lesser-Yes : (v : Kleene) → lesser v Yes ≡ v
  lesser-Yes No = refl
  lesser-Yes Unknown = refl
  lesser-Yes Yes = refl

  -- the least of a value and others
  least_more : (v : Kleene) (values : List Kleene) → least (v ∷ values) ≡ lesser v (least values)
  least_more v values = ap (λ u. fold lesser u values) (sym (lesser-Yes v)) ∙ least_after v Yes values

  module _ (env : List ℕ) (condition : LCond) (form : Form) (stands : StandsFor task env condition form) where
    abbrev guard : Guard
    guard = record { env = env; condition = condition }

    guarded_literal : (literal : Literal) (number : ground.Literal) → StandsForLiteral task literal number → StandsForLiteral task (guarded guard literal) (ground.guarded form number)
    guarded_literal literal number is = record {
      numbered = is.numbered;
      signed = is.signed;
      valued = λ cube.
          least_more (value cube form) (map (value cube) number.conditions)
          ∙ (λ i. lesser (stands cube i) (is.valued cube i))
          ∙ sym (least_more (condition_value (atom_value task cube) env condition) (map (λ other. condition_value (atom_value task cube) other.env other.condition) literal.guards));
    }

    -- a conditional effect has the outcomes of its part under its condition
    pub has-When : (lists : List (List Literal)) (part : Box GroundEffect Global) → is_form_within (length (fluent_atoms task)) form ≡ true → HasOutcomes task lists part.value → HasOutcomes task (map (map (guarded guard)) lists) (made.When form part)
    has-When lists part within has = record {
      outcomes = subst (AllZip (AllZip (StandsForLiteral task)) (map (map (guarded guard)) lists))
          (sym (ap ground.outcome_lists (sym (rolls.rolls-When form part)) ∙ fold-roll-GroundEffect (List (List ground.Literal)) ground.outcomes_step (open_ground.When form part)))
          (zip-map (AllZip (StandsForLiteral task)) (AllZip (StandsForLiteral task)) (map (guarded guard)) (map (ground.guarded form))
          (λ list other. zip-map (StandsForLiteral task) (StandsForLiteral task) (guarded guard) (ground.guarded form) guarded_literal list other) lists (ground.outcome_lists part.value) has.outcomes);
      members = ap has_members (sym (rolls.rolls-When form part)) ∙ fold-roll-GroundEffect Bool members_step (open_ground.When form part) ∙ has.members;
      over = ap (is_effect_over (length (fluent_atoms task))) (sym (rolls.rolls-When form part)) ∙ fold-roll-GroundEffect Bool (over_step (length (fluent_atoms task))) (open_ground.When form part) ∙ and-both _ _ within has.over;
    }

    -- a condition that is always true changes nothing
    pub has-always : (lists : List (List Literal)) (part : GroundEffect) → ((cube : List (Option Bool)) → value cube form ≡ Yes) → HasOutcomes task lists part → HasOutcomes task (map (map (guarded guard)) lists) part
    has-always lists part always has = record {
      outcomes = subst (AllZip (AllZip (StandsForLiteral task)) (map (map (guarded guard)) lists)) (same_lists (ground.outcome_lists part))
          (zip-map (AllZip (StandsForLiteral task)) (AllZip (StandsForLiteral task)) (map (guarded guard)) (map (λ number. number))
          (λ list other. zip-map (StandsForLiteral task) (StandsForLiteral task) (guarded guard) (λ number. number) dropped list other) lists (ground.outcome_lists part) has.outcomes);
      members = has.members;
      over = has.over;
    }
      where
        same_list : {X : Type 0} (xs : List X) → map (λ x. x) xs ≡ xs
        same_list [] = refl
        same_list (x ∷ xs) = ap (λ rest. x ∷ rest) (same_list xs)

        same_lists : {X : Type 0} (xss : List (List X)) → map (map (λ x. x)) xss ≡ xss
        same_lists [] = refl
        same_lists (xs ∷ xss) = λ i. same_list xs i ∷ same_lists xss i

        dropped : (literal : Literal) (number : ground.Literal) → StandsForLiteral task literal number → StandsForLiteral task (guarded guard literal) number
        dropped literal number is = record {
          numbered = is.numbered;
          signed = is.signed;
          valued = λ cube.
              let yes : condition_value (atom_value task cube) env condition ≡ Yes = sym (stands cube) ∙ always cube in
              let others = map (λ other. condition_value (atom_value task cube) other.env other.condition) literal.guards in
              is.valued cube ∙ ap (λ v. lesser v (least others)) (sym yes) ∙ sym (least_more (condition_value (atom_value task cube) env condition) others);
        }
