-- The value of a condition depends only on the objects of the variables that occur in it.
use Rattle.std.proofs.Common.{◌≡◌, ◌⊎◌, inl, inr, ℕ, zero, suc, ◌+◌, ◌<◌, ◌≤◌, ◌||◌, Bool, true, false, List, [], ◌∷◌, ◌++◌, Option, Some, map, length, refl, sym, ap, subst, ◌∙◌, true≢false, arith, length-append}
use Rattle.std.specs.Prelude.{slice_index_or, if◌then◌else◌, ◌==◌}
use Rattle.std.specs.List.{list_any}
use Rattle.std.proofs.lemmas.Bool.{cases_lt}
use Rattle.std.proofs.lemmas.Bool.Decides.{nat_tests}
use Rattle.fond_text.specs.declared.atom.Atom.{Atom}
use Rattle.fond_ast.specs.Ranges.{objects_of}
use Rattle.fond_ast.specs.Laws.{AgreeOnVariables, has_variable, has_variable_step}
use Rattle.fond_ast.specs.Patterns.{is_variable}
use Rattle.fond_ast.specs.Within.{is_fluent}
use Rattle.fond_ast.specs.Conditions.{object_of, tuples}
use Rattle.fond_ast.specs.declared.form.LTerm.{LTerm}
use Rattle.fond_ast.specs.declared.form.LTerm.TheVariants.{Object, Variable}
use Rattle.fond_ast.specs.declared.form.LCond.{LCond}
use Rattle.fond_ast.specs.declared.form.LCond.TheOpen.{LCond-F, Truth, Holds, Equal, And, Or, Not, Imply, Forall, Exists}
use Rattle.fond_ast.specs.declared.form.LCond.TheFolds.{fold-LCond, fold-roll-LCond, ind-LCond, map-LCond}
use Rattle.fond_ast.specs.declared.task.LiftedTask.{LiftedTask}
use Rattle.fond_task.specs.declared.form.Junction.{Junction}
use Rattle.fond_task.specs.declared.form.Junction.TheVariants.{All, Any}
use Rattle.fond_task.specs.declared.form.Kleene.{Kleene}
use Rattle.fond_task.specs.declared.form.Kleene.TheVariants.{No, Unknown, Yes}
use Rattle.fond_task.specs.Junctions.{joined_all}
use Rattle.fond_task.specs.Values.{greater, greatest, least, opposite}
use Rattle.fond_join.specs.Partial.{all_known, known_object, partial_equal, partial_step, partial_value, static_if_known}
use Rattle.fond_join.specs.Values.{condition_step, condition_value}
use Rattle.fond_join.proofs.Joined.{map_same, over_rest}

either_first : (a b : Bool) → a ≡ true → (a || b) ≡ true
either_first a b h = ap (λ c. c || b) h

either_second : (a b : Bool) → b ≡ true → (a || b) ≡ true
either_second true b h = refl
either_second false b h = h

module _ {E : Type 0} (default : E) where
  -- two lists are equally long, and equal at each number that passes a test
  record AreSameAt (test : ℕ → Bool) (env other : List E) : Type 0 where
    long : length env ≡ length other
    same : (number : ℕ) → test number ≡ true → slice_index_or env number default ≡ slice_index_or other number default

  fewer : (test sub : ℕ → Bool) (env other : List E) → ((number : ℕ) → sub number ≡ true → test number ≡ true) → AreSameAt test env other → AreSameAt sub env other
  fewer test sub env other step are = record { long = are.long; same = λ number h. are.same number (step number h) }

  at_append : (env other more : List E) (number : ℕ) → length env ≡ length other → slice_index_or env number default ≡ slice_index_or other number default → slice_index_or (env ++ more) number default ≡ slice_index_or (other ++ more) number default
  at_append [] [] more number long same = refl
  at_append [] (y ∷ other) more number long same = absurd (omega arith)
  at_append (x ∷ env) [] more number long same = absurd (omega arith)
  at_append (x ∷ env) (y ∷ other) more zero long same = same
  at_append (x ∷ env) (y ∷ other) more (suc number) long same = at_append env other more number (omega arith) same

  longer : (test : ℕ → Bool) (env other more : List E) → AreSameAt test env other → AreSameAt test (env ++ more) (other ++ more)
  longer test env other more are = record {
    long = length-append env more ∙ ap (λ n. n + length more) are.long ∙ sym (length-append other more);
    same = λ number h. at_append env other more number are.long (are.same number h);
  }

  past_end : (xs : List E) (number : ℕ) → length xs ≤ number → slice_index_or xs number default ≡ default
  past_end [] number le = refl
  past_end (x ∷ xs) zero le = absurd (omega arith)
  past_end (x ∷ xs) (suc number) le = past_end xs number (omega arith)

  at_block : (env xs ys : List E) (number : ℕ) → length xs ≡ length ys → (number < length env) ⊎ (length env + length xs ≤ number) → slice_index_or (env ++ xs) number default ≡ slice_index_or (env ++ ys) number default
  at_block [] xs ys number long (inl lt) = absurd (omega arith)
  at_block [] xs ys number long (inr le) = past_end xs number (omega arith) ∙ sym (past_end ys number (omega arith))
  at_block (x ∷ env) xs ys zero long where_is = refl
  at_block (x ∷ env) xs ys (suc number) long (inl lt) = at_block env xs ys number long (inl (omega arith))
  at_block (x ∷ env) xs ys (suc number) long (inr le) = at_block env xs ys number long (inr (omega arith))

  -- only what does not occur differs
  block_same : (test : ℕ → Bool) (env xs ys : List E) → length xs ≡ length ys → ((number : ℕ) → length env ≤ number → number < length env + length xs → test number ≡ false) → AreSameAt test (env ++ xs) (env ++ ys)
  block_same test env xs ys long none = record {
    long = length-append env xs ∙ ap (λ n. length env + n) long ∙ sym (length-append env ys);
    same = λ number h. at_block env xs ys number long (elim (cases_lt number (length env)) [
      | inl less ↦ inl less
      | inr more ↦ elim (cases_lt number (length env + length xs)) [
        | inl within ↦ absurd (true≢false (sym h ∙ none number more within))
        | inr past ↦ inr past
      ]
    ]);
  }

variable_itself : (number : ℕ) → is_variable number (Variable number) ≡ true
variable_itself number = grind (arith, nat_tests)

module _ (task : LiftedTask) where
  abbrev Same : (ℕ → Bool) → List (Option ℕ) → List (Option ℕ) → Type 0
  Same = AreSameAt (Some 0)

  abbrev LocalPart : LCond → Type 0
  LocalPart condition = (env other : List (Option ℕ)) → Same (λ number. has_variable number condition) env other → partial_value task env condition ≡ partial_value task other condition

  known_same : (env other : List (Option ℕ)) (term : LTerm) → Same (λ number. is_variable number term) env other → known_object env term ≡ known_object other term
  known_same env other (Object number) are = refl
  known_same env other (Variable number) are = are.same number (variable_itself number)

  all_same : (env other : List (Option ℕ)) (terms : List LTerm) → Same (λ number. list_any (is_variable number) terms) env other → map (known_object env) terms ≡ map (known_object other) terms
  all_same env other [] are = refl
  all_same env other (term ∷ terms) are = λ i.
      known_same env other term (fewer (Some 0) _ _ env other (λ number h. either_first (is_variable number term) (list_any (is_variable number) terms) h) are) i
      ∷ all_same env other terms (fewer (Some 0) _ _ env other (λ number h. either_second (is_variable number term) (list_any (is_variable number) terms) h) are) i

  abbrev conditions : List ((condition : LCond) × LocalPart condition) → List LCond
  conditions parts = map (λ e. e.0) parts

  parts_same : (env other : List (Option ℕ)) (parts : List ((condition : LCond) × LocalPart condition)) → Same (λ number. list_any (λ found. found) (map (has_variable number) (conditions parts))) env other
      → map (λ (part : List (Option ℕ) → Kleene). part env) (map (λ condition around. partial_value task around condition) (conditions parts)) ≡ map (λ (part : List (Option ℕ) → Kleene). part other) (map (λ condition around. partial_value task around condition) (conditions parts))
  parts_same env other [] are = refl
  parts_same env other (part ∷ parts) are = λ i.
      part.1 env other (fewer (Some 0) _ _ env other (λ number h. either_first (has_variable number part.0) (list_any (λ found. found) (map (has_variable number) (conditions parts))) h) are) i
      ∷ parts_same env other parts (fewer (Some 0) _ _ env other (λ number h. either_second (has_variable number part.0) (list_any (λ found. found) (map (has_variable number) (conditions parts))) h) are) i

  ranges_same : (env other : List (Option ℕ)) (part : (condition : LCond) × LocalPart condition) → Same (λ number. has_variable number part.0) env other → (all : List (List ℕ))
      → map (λ objects. partial_value task (env ++ map Some objects) part.0) all ≡ map (λ objects. partial_value task (other ++ map Some objects) part.0) all
  ranges_same env other part are all = map_same _ _ (λ objects. part.1 (env ++ map Some objects) (other ++ map Some objects) (longer (Some 0) _ env other (map Some objects) are)) all

  abbrev has_layer : ℕ → LCond-F LCond → Bool
  has_layer number layer = has_variable_step number (map-LCond LCond Bool (fold-LCond Bool (has_variable_step number)) layer)

  abbrev partial_layer : LCond-F LCond → List (Option ℕ) → Kleene
  partial_layer layer = partial_step task (map-LCond LCond (List (Option ℕ) → Kleene) (fold-LCond (List (Option ℕ) → Kleene) (partial_step task)) layer)

  layer_same : (layer : LCond-F ((condition : LCond) × LocalPart condition)) (env other : List (Option ℕ)) → Same (λ number. has_layer number (map-LCond ((condition : LCond) × LocalPart condition) LCond (λ e. e.0) layer)) env other
      → partial_layer (map-LCond ((condition : LCond) × LocalPart condition) LCond (λ e. e.0) layer) env ≡ partial_layer (map-LCond ((condition : LCond) × LocalPart condition) LCond (λ e. e.0) layer) other
  layer_same Truth env other are = refl
  layer_same (Holds atom) env other are = ap (λ objects. if is_fluent task.predicates atom.predicate then Unknown else static_if_known task atom.predicate (all_known objects)) (all_same env other atom.terms are)
  layer_same (Equal term second) env other are = λ i. partial_equal
      (known_same env other term (fewer (Some 0) _ _ env other (λ number h. either_first (is_variable number term) (is_variable number second) h) are) i)
      (known_same env other second (fewer (Some 0) _ _ env other (λ number h. either_second (is_variable number term) (is_variable number second) h) are) i)
  layer_same (And parts) env other are = ap (joined_all All) (parts_same env other parts.items are)
  layer_same (Or parts) env other are = ap (joined_all Any) (parts_same env other parts.items are)
  layer_same (Not part) env other are = ap opposite (part.value.1 env other are)
  layer_same (Imply part second) env other are = λ i. greater
      (opposite (part.value.1 env other (fewer (Some 0) _ _ env other (λ number h. either_first (has_variable number part.value.0) (has_variable number second.value.0) h) are) i))
      (second.value.1 env other (fewer (Some 0) _ _ env other (λ number h. either_second (has_variable number part.value.0) (has_variable number second.value.0) h) are) i)
  layer_same (Forall ranges part) env other are = ap (joined_all All) (ranges_same env other part.value are (tuples (objects_of ranges)))
  layer_same (Exists ranges part) env other are = ap (joined_all Any) (ranges_same env other part.value are (tuples (objects_of ranges)))

  partial_local : (condition : LCond) → LocalPart condition
  partial_local = ind-LCond LocalPart (λ x y is env other are.
      rw (fold-roll-LCond (List (Option ℕ) → Kleene) (partial_step task) x)
      (let P : LCond-F LCond → Type 0 = λ z. Same (λ number. has_layer number z) env other → partial_layer z env ≡ partial_layer z other in
      subst P is (layer_same y env other) (fewer (Some 0) _ _ env other (λ number h. fold-roll-LCond Bool (has_variable_step number) x ∙ h) are)))

  -- the value of a condition is the same for all objects of variables that do not occur in it
  pub partial_alike : (part : LCond) (env xs ys more : List (Option ℕ)) → length xs ≡ length ys → ((number : ℕ) → length env ≤ number → number < length env + length xs → has_variable number part ≡ false)
      → partial_value task ((env ++ xs) ++ more) part ≡ partial_value task ((env ++ ys) ++ more) part
  partial_alike part env xs ys more long none = partial_local part ((env ++ xs) ++ more) ((env ++ ys) ++ more) (longer (Some 0) _ (env ++ xs) (env ++ ys) more (block_same (Some 0) _ env xs ys long none))

  -- the value over the tuples with this first object is that with any other
  pub over_alike : (part : LCond) (env : List (Option ℕ)) (junction : Junction) (ranges : List (List ℕ)) (x y : ℕ) → has_variable (length env) part ≡ false → over_rest task env part junction ranges x ≡ over_rest task env part junction ranges y
  over_alike part env junction ranges x y none =
      ap (joined_all junction) (map_same _ _ (λ objects. partial_alike part env (Some x ∷ []) (Some y ∷ []) (map Some objects) refl
      (λ number from below. (let here : number ≡ length env = omega (arith, from, below) in ap (λ n. has_variable n part) here ∙ none))) (tuples ranges))

module _ (known : Atom → Kleene) where
  abbrev if_same : ℕ → ℕ → Kleene
  if_same object other = if object == other then Yes else No

  abbrev Alike : (ℕ → Bool) → List ℕ → List ℕ → Type 0
  Alike = AreSameAt 0

  abbrev LocalWhole : LCond → Type 0
  LocalWhole condition = (env other : List ℕ) → Alike (λ number. has_variable number condition) env other → condition_value known env condition ≡ condition_value known other condition

  object_same : (env other : List ℕ) (term : LTerm) → Alike (λ number. is_variable number term) env other → object_of env term ≡ object_of other term
  object_same env other (Object number) are = refl
  object_same env other (Variable number) are = are.same number (variable_itself number)

  objects_same : (env other : List ℕ) (terms : List LTerm) → Alike (λ number. list_any (is_variable number) terms) env other → map (object_of env) terms ≡ map (object_of other) terms
  objects_same env other [] are = refl
  objects_same env other (term ∷ terms) are = λ i.
      object_same env other term (fewer 0 _ _ env other (λ number h. either_first (is_variable number term) (list_any (is_variable number) terms) h) are) i
      ∷ objects_same env other terms (fewer 0 _ _ env other (λ number h. either_second (is_variable number term) (list_any (is_variable number) terms) h) are) i

  abbrev wholes : List ((condition : LCond) × LocalWhole condition) → List LCond
  wholes parts = map (λ e. e.0) parts

  wholes_same : (env other : List ℕ) (parts : List ((condition : LCond) × LocalWhole condition)) → Alike (λ number. list_any (λ found. found) (map (has_variable number) (wholes parts))) env other
      → map (λ (part : List ℕ → Kleene). part env) (map (λ condition around. condition_value known around condition) (wholes parts)) ≡ map (λ (part : List ℕ → Kleene). part other) (map (λ condition around. condition_value known around condition) (wholes parts))
  wholes_same env other [] are = refl
  wholes_same env other (part ∷ parts) are = λ i.
      part.1 env other (fewer 0 _ _ env other (λ number h. either_first (has_variable number part.0) (list_any (λ found. found) (map (has_variable number) (wholes parts))) h) are) i
      ∷ wholes_same env other parts (fewer 0 _ _ env other (λ number h. either_second (has_variable number part.0) (list_any (λ found. found) (map (has_variable number) (wholes parts))) h) are) i

  instances_same : (env other : List ℕ) (part : (condition : LCond) × LocalWhole condition) → Alike (λ number. has_variable number part.0) env other → (all : List (List ℕ))
      → map (λ objects. condition_value known (env ++ objects) part.0) all ≡ map (λ objects. condition_value known (other ++ objects) part.0) all
  instances_same env other part are all = map_same _ _ (λ objects. part.1 (env ++ objects) (other ++ objects) (longer 0 _ env other (objects) are)) all

  abbrev has_whole : ℕ → LCond-F LCond → Bool
  has_whole number layer = has_variable_step number (map-LCond LCond Bool (fold-LCond Bool (has_variable_step number)) layer)

  abbrev whole_layer : LCond-F LCond → List ℕ → Kleene
  whole_layer layer = condition_step known (map-LCond LCond (List ℕ → Kleene) (fold-LCond (List ℕ → Kleene) (condition_step known)) layer)

  whole_same : (layer : LCond-F ((condition : LCond) × LocalWhole condition)) (env other : List ℕ) → Alike (λ number. has_whole number (map-LCond ((condition : LCond) × LocalWhole condition) LCond (λ e. e.0) layer)) env other
      → whole_layer (map-LCond ((condition : LCond) × LocalWhole condition) LCond (λ e. e.0) layer) env ≡ whole_layer (map-LCond ((condition : LCond) × LocalWhole condition) LCond (λ e. e.0) layer) other
  whole_same Truth env other are = refl
  whole_same (Holds atom) env other are = ap (λ (objects : List ℕ). known (record { predicate = atom.predicate; objects = objects })) (objects_same env other atom.terms are)
  whole_same (Equal term second) env other are = λ i. if_same
      (object_same env other term (fewer 0 _ _ env other (λ number h. either_first (is_variable number term) (is_variable number second) h) are) i)
      (object_same env other second (fewer 0 _ _ env other (λ number h. either_second (is_variable number term) (is_variable number second) h) are) i)
  whole_same (And parts) env other are = ap least (wholes_same env other parts.items are)
  whole_same (Or parts) env other are = ap greatest (wholes_same env other parts.items are)
  whole_same (Not part) env other are = ap opposite (part.value.1 env other are)
  whole_same (Imply part second) env other are = λ i. greater
      (opposite (part.value.1 env other (fewer 0 _ _ env other (λ number h. either_first (has_variable number part.value.0) (has_variable number second.value.0) h) are) i))
      (second.value.1 env other (fewer 0 _ _ env other (λ number h. either_second (has_variable number part.value.0) (has_variable number second.value.0) h) are) i)
  whole_same (Forall ranges part) env other are = ap least (instances_same env other part.value are (tuples (objects_of ranges)))
  whole_same (Exists ranges part) env other are = ap greatest (instances_same env other part.value are (tuples (objects_of ranges)))

  condition_local : (condition : LCond) → LocalWhole condition
  condition_local = ind-LCond LocalWhole (λ x y is env other are.
      rw (fold-roll-LCond (List ℕ → Kleene) (condition_step known) x)
      (let P : LCond-F LCond → Type 0 = λ z. Alike (λ number. has_whole number z) env other → whole_layer z env ≡ whole_layer z other in
      subst P is (whole_same y env other) (fewer 0 _ _ env other (λ number h. fold-roll-LCond Bool (has_variable_step number) x ∙ h) are)))

  -- the value of a condition is the same for objects that agree on the variables that occur in it
  pub condition_agrees : (condition : LCond) (env other : List ℕ) → AgreeOnVariables condition env other → condition_value known env condition ≡ condition_value known other condition
  condition_agrees condition env other agree = condition_local condition env other (record { long = agree.0; same = agree.1 })

  -- the value of a condition is the same for all objects of variables that do not occur in it
  pub condition_alike : (part : LCond) (env xs ys : List ℕ) → length xs ≡ length ys → ((number : ℕ) → length env ≤ number → number < length env + length xs → has_variable number part ≡ false)
      → condition_value known (env ++ xs) part ≡ condition_value known (env ++ ys) part
  condition_alike part env xs ys long none = condition_local part (env ++ xs) (env ++ ys) (block_same 0 _ env xs ys long none)

-- the objects of terms are the same for objects that agree on their variables
pub objects_agree : (env other : List ℕ) (terms : List LTerm) → (length env ≡ length other) × ((number : ℕ) → list_any (is_variable number) terms ≡ true → slice_index_or env number 0 ≡ slice_index_or other number 0) → map (object_of env) terms ≡ map (object_of other) terms
objects_agree env other terms are = objects_same (λ atom. Yes) env other terms (record { long = are.0; same = are.1 })

-- objects that agree still do with more objects after them
pub agree_longer : (test : ℕ → Bool) (env other more : List ℕ) → (length env ≡ length other) × ((number : ℕ) → test number ≡ true → slice_index_or env number 0 ≡ slice_index_or other number 0)
    → (length (env ++ more) ≡ length (other ++ more)) × ((number : ℕ) → test number ≡ true → slice_index_or (env ++ more) number 0 ≡ slice_index_or (other ++ more) number 0)
agree_longer test env other more are = let both = longer 0 test env other more (record { long = are.0; same = are.1 }) in (both.long, both.same)
