-- Conditions and effects that are the same for two lists of objects.
use Rattle.std.proofs.Common.{◌≡◌, ℕ, ◌∙◌, ◌||◌, Bool, true, false, List, [], ◌∷◌, ◌++◌, Option, Some, map, refl, sym, ap, subst}
use Rattle.std.specs.Prelude.{IfSome}
use Rattle.std.specs.List.{AllZip, flat_map, list_any}
use Rattle.fond_ast.specs.Ranges.{objects_of}
use Rattle.fond_ast.specs.Laws.{AgreeOnVariables, has_variable}
use Rattle.fond_ast.specs.Patterns.{is_variable}
use Rattle.fond_ast.specs.Conditions.{ground_atom, tuples}
use Rattle.fond_ast.specs.Outcomes.{Literal, alone, guarded, outcomes, outcomes_step}
use Rattle.fond_ast.specs.declared.form.LAtom.{LAtom}
use Rattle.fond_ast.specs.declared.form.LCond.{LCond}
use Rattle.fond_ast.specs.declared.form.LEffect.{LEffect}
use Rattle.fond_ast.specs.declared.form.LEffect.TheOpen.{LEffect-F, Nothing, Add, Delete, And, Forall, When, OneOf}
use Rattle.fond_ast.specs.declared.form.LEffect.TheFolds.{fold-LEffect, fold-roll-LEffect, ind-LEffect, map-LEffect}
use Rattle.fond_ast.specs.declared.task.LiftedTask.{LiftedTask}
use Rattle.fond_join.specs.Values.{condition_value}
use Rattle.fond_join.proofs.Local.{condition_agrees, objects_agree, agree_longer}
use Rattle.fond_task.specs.declared.form.Form.{Form}
use Rattle.fond_task.specs.declared.task.Entry.{Entry}
use Rattle.fond_task.specs.Values.{least}
use Rattle.fond_ground.specs.Grounds.{AreOutcomesOf, IsEntryOf}
use Rattle.fond_ground.specs.Shares.{AgreeOnEffect, AgreeWhere, AreMarked, has_effect_variable, has_effect_variable_step}
use Rattle.fond_ground.specs.Atoms.{atom_number}
use Rattle.fond_ground.specs.Values.{StandsFor, atom_value}
use Rattle.fond_ground.proofs.Zips.{zip-append, zip-concatenations, zip-map, zip-trans}

fewer : (test sub : ℕ → Bool) (env other : List ℕ) → ((number : ℕ) → sub number ≡ true → test number ≡ true) → AgreeWhere test env other → AgreeWhere sub env other
fewer test sub env other step agree = (agree.0, λ number h. agree.1 number (step number h))

either_first : (a b : Bool) → a ≡ true → (a || b) ≡ true
either_first a b h = ap (λ c. c || b) h

either_second : (a b : Bool) → b ≡ true → (a || b) ≡ true
either_second true b h = refl
either_second false b h = h

-- what holds of the value of an option
pub some_at : {X : Type 0} (P : X → Type 0) {o : Option X} {x : X} → o ≡ Some x → IfSome o P → P x
some_at P is h = subst (λ o. IfSome o P) is h

-- objects agree where a test passes, if they do by marks that have each such number
pub agree_by : (test : ℕ → Bool) (marks read : List Bool) (env objects env_read objects_read : List ℕ) → AreMarked test marks → read ≡ marks → env_read ≡ env → objects_read ≡ objects
    → (AreMarked test read → AgreeWhere test env_read objects_read) → AgreeWhere test env objects
agree_by test marks read env objects env_read objects_read marked same same_env same_objects agree =
    subst (λ (list : List ℕ). AgreeWhere test list objects) same_env
    (subst (λ (list : List ℕ). AgreeWhere test env_read list) same_objects (agree (subst (λ (list : List Bool). AreMarked test list) (sym same) marked)))

-- the ground form of a condition stands for the condition also at objects that agree with the first on its variables
pub shared_pre : (task : LiftedTask) (condition : LCond) (env other : List ℕ) (form : Form) → AgreeOnVariables condition env other → StandsFor task other condition form → StandsFor task env condition form
shared_pre task condition env other form agree stands = λ cube. stands cube ∙ sym (condition_agrees (atom_value task cube) condition env other agree)

module _ (task : LiftedTask) where
  -- two literals have the same atom and sign, and conditions with the same values
  record IsSameLiteral (literal other : Literal) : Type 0 where
    atom : literal.atom ≡ other.atom
    add : literal.add ≡ other.add
    valued : (cube : List (Option Bool)) → map (λ guard. condition_value (atom_value task cube) guard.env guard.condition) literal.guards ≡ map (λ guard. condition_value (atom_value task cube) guard.env guard.condition) other.guards

  abbrev AreSame : List (List Literal) → List (List Literal) → Type 0
  AreSame = AllZip (AllZip IsSameLiteral)

  abbrev Local : LEffect → Type 0
  Local effect = (env other : List ℕ) → AgreeWhere (λ number. has_effect_variable number effect) env other → AreSame (outcomes env effect) (outcomes other effect)

  same_literal : (atom : LAtom) (add : Bool) (env other : List ℕ) → AgreeWhere (λ number. list_any (is_variable number) atom.terms) env other → AreSame (alone (ground_atom env atom) add) (alone (ground_atom other atom) add)
  same_literal atom add env other agree =
      ((record { atom = ap (λ (objects : List ℕ). record { predicate = atom.predicate; objects = objects }) (objects_agree env other atom.terms agree); add = refl; valued = λ cube. refl }, tt), tt)

  same_guarded : (condition : LCond) (env other : List ℕ) → AgreeOnVariables condition env other → (xs ys : List (List Literal)) → AreSame xs ys
      → AreSame (map (map (guarded (record { env = env; condition = condition }))) xs) (map (map (guarded (record { env = other; condition = condition }))) ys)
  same_guarded condition env other agree = zip-map (AllZip IsSameLiteral) (AllZip IsSameLiteral) _ _
      (λ list more. zip-map IsSameLiteral IsSameLiteral (guarded (record { env = env; condition = condition })) (guarded (record { env = other; condition = condition }))
      (λ a b same. record {
        atom = same.atom;
        add = same.add;
        valued = λ cube i. condition_agrees (atom_value task cube) condition env other agree i ∷ same.valued cube i;
      }) list more)

  abbrev Parts : Type 0
  Parts = List ((effect : LEffect) × Local effect)

  abbrev effects : Parts → List LEffect
  effects parts = map (λ e. e.0) parts

  abbrev by_parts : LEffect → List ℕ → List (List Literal)
  by_parts = fold-LEffect (List ℕ → List (List Literal)) outcomes_step

  same_parts : (env other : List ℕ) (parts : Parts) → AgreeWhere (λ number. list_any (λ found. found) (map (has_effect_variable number) (effects parts))) env other
      → AllZip AreSame (map (λ (part : List ℕ → List (List Literal)). part env) (map by_parts (effects parts))) (map (λ (part : List ℕ → List (List Literal)). part other) (map by_parts (effects parts)))
  same_parts env other [] agree = tt
  same_parts env other (part ∷ parts) agree = (
    part.1 env other (fewer _ _ env other (λ number h. either_first (has_effect_variable number part.0) (list_any (λ found. found) (map (has_effect_variable number) (effects parts))) h) agree),
    same_parts env other parts (fewer _ _ env other (λ number h. either_second (has_effect_variable number part.0) (list_any (λ found. found) (map (has_effect_variable number) (effects parts))) h) agree),
  )

  same_choice : (env other : List ℕ) (parts : Parts) → AgreeWhere (λ number. list_any (λ found. found) (map (has_effect_variable number) (effects parts))) env other
      → AreSame (flat_map (λ (part : List ℕ → List (List Literal)). part env) (map by_parts (effects parts))) (flat_map (λ (part : List ℕ → List (List Literal)). part other) (map by_parts (effects parts)))
  same_choice env other [] agree = tt
  same_choice env other (part ∷ parts) agree = zip-append (AllZip IsSameLiteral) (outcomes env part.0) (outcomes other part.0) _ _
      (part.1 env other (fewer _ _ env other (λ number h. either_first (has_effect_variable number part.0) (list_any (λ found. found) (map (has_effect_variable number) (effects parts))) h) agree))
      (same_choice env other parts (fewer _ _ env other (λ number h. either_second (has_effect_variable number part.0) (list_any (λ found. found) (map (has_effect_variable number) (effects parts))) h) agree))

  same_instances : (env other : List ℕ) (part : (effect : LEffect) × Local effect) → AgreeWhere (λ number. has_effect_variable number part.0) env other → (all : List (List ℕ))
      → AllZip AreSame (map (λ objects. outcomes (env ++ objects) part.0) all) (map (λ objects. outcomes (other ++ objects) part.0) all)
  same_instances env other part agree [] = tt
  same_instances env other part agree (objects ∷ all) =
      (part.1 (env ++ objects) (other ++ objects) (agree_longer (λ number. has_effect_variable number part.0) env other objects agree), same_instances env other part agree all)

  abbrev has_layer : ℕ → LEffect-F LEffect → Bool
  has_layer number layer = has_effect_variable_step number (map-LEffect LEffect Bool (fold-LEffect Bool (has_effect_variable_step number)) layer)

  abbrev layer_outcomes : LEffect-F LEffect → List ℕ → List (List Literal)
  layer_outcomes layer = outcomes_step (map-LEffect LEffect (List ℕ → List (List Literal)) by_parts layer)

  abbrev plain : LEffect-F ((effect : LEffect) × Local effect) → LEffect-F LEffect
  plain layer = map-LEffect ((effect : LEffect) × Local effect) LEffect (λ e. e.0) layer

  same_layer : (layer : LEffect-F ((effect : LEffect) × Local effect)) (env other : List ℕ) → AgreeWhere (λ number. has_layer number (plain layer)) env other → AreSame (layer_outcomes (plain layer) env) (layer_outcomes (plain layer) other)
  same_layer Nothing env other agree = (tt, tt)
  same_layer (Add atom) env other agree = same_literal atom true env other agree
  same_layer (Delete atom) env other agree = same_literal atom false env other agree
  same_layer (And parts) env other agree = zip-concatenations IsSameLiteral _ _ (same_parts env other parts.items agree)
  same_layer (Forall ranges part) env other agree = zip-concatenations IsSameLiteral _ _ (same_instances env other part.value agree (tuples (objects_of ranges)))
  same_layer (When condition part) env other agree =
      same_guarded condition env other (fewer _ _ env other (λ number h. either_first (has_variable number condition) (has_effect_variable number part.value.0) h) agree) (outcomes env part.value.0) (outcomes other part.value.0)
      (part.value.1 env other (fewer _ _ env other (λ number h. either_second (has_variable number condition) (has_effect_variable number part.value.0) h) agree))
  same_layer (OneOf parts) env other agree = same_choice env other parts.items agree

  same_outcomes : (effect : LEffect) → Local effect
  same_outcomes = ind-LEffect Local (λ x y is env other agree.
      let P : LEffect-F LEffect → Type 0 = λ z. AgreeWhere (λ number. has_layer number z) env other → AreSame (layer_outcomes z env) (layer_outcomes z other) in
      let rolled = fold-roll-LEffect (List ℕ → List (List Literal)) outcomes_step x in
      subst (λ (of : List ℕ → List (List Literal)). AreSame (of env) (of other)) (sym rolled)
      (subst P is (same_layer y env other) (fewer _ _ env other (λ number h. fold-roll-LEffect Bool (has_effect_variable_step number) x ∙ h) agree)))

  shared_entry : (literal other : Literal) (entry : Entry) → IsSameLiteral literal other → IsEntryOf task other entry → IsEntryOf task literal entry
  shared_entry literal other entry same is = record {
    numbered = ap (atom_number task) same.atom ∙ is.numbered;
    signed = is.signed ∙ sym same.add;
    valued = λ cube. is.valued cube ∙ ap least (sym (same.valued cube));
  }

  -- outcomes that stand for those of an effect also do at objects that agree with the first on its variables
  pub shared_outcomes : (effect : LEffect) (env other : List ℕ) (entries : List (List Entry)) → AgreeOnEffect effect env other → AreOutcomesOf task (outcomes other effect) entries → AreOutcomesOf task (outcomes env effect) entries
  shared_outcomes effect env other entries agree are =
      zip-trans (AllZip IsSameLiteral) (AllZip (IsEntryOf task)) (AllZip (IsEntryOf task))
      (λ xs ys zs. zip-trans IsSameLiteral (IsEntryOf task) (IsEntryOf task) shared_entry xs ys zs) (outcomes env effect) (outcomes other effect) entries (same_outcomes effect env other agree) are
