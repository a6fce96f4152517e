-- A value under some objects is the value under all objects, or Unknown.
use Rattle.std.proofs.Common.{◌≡◌, ◌⊎◌, inl, inr, ℕ, zero, suc, Bool, true, false, List, [], ◌∷◌, ◌++◌, Option, Some, None, map, refl, ap, subst}
use Rattle.std.specs.Prelude.{◌==◌, fold, option_map, slice_index_or, if◌then◌else◌}
use Rattle.fond_ast.specs.Ranges.{objects_of}
use Rattle.fond_ast.specs.Within.{is_fluent}
use Rattle.fond_ast.specs.declared.form.LAtom.{LAtom}
use Rattle.fond_ast.specs.declared.form.LTerm.{LTerm}
use Rattle.fond_ast.specs.declared.form.LTerm.TheVariants.{Object, Variable}
use Rattle.fond_ast.specs.declared.form.LCond.{LCond}
use Rattle.fond_ast.specs.declared.form.LCond.TheOpen.{LCond-F, Truth, Holds, Equal, And, Or, Not, Imply, Forall, Exists}
use Rattle.fond_ast.specs.declared.form.LCond.TheFolds.{fold-LCond, fold-roll-LCond, ind-LCond, map-LCond}
use Rattle.fond_ast.specs.declared.task.LiftedTask.{LiftedTask}
use Rattle.fond_ast.specs.Conditions.{object_of, ground_atom, tuples}
use Rattle.fond_task.specs.declared.form.Junction.{Junction}
use Rattle.fond_task.specs.declared.form.Junction.TheVariants.{All, Any}
use Rattle.fond_task.specs.declared.form.Kleene.{Kleene}
use Rattle.fond_task.specs.declared.form.Kleene.TheVariants.{No, Unknown, Yes}
use Rattle.fond_task.specs.Junctions.{joined}
use Rattle.fond_task.specs.Values.{greater, lesser, opposite}
use Rattle.fond_join.specs.Agree.{Agree, TellsObject}
use Rattle.fond_join.specs.Kept.{open_value, static_value}
use Rattle.fond_join.specs.Partial.{all_known, known_object, partial_atom, partial_equal, partial_step, partial_value, static_if_known}
use Rattle.fond_join.specs.Values.{condition_step, condition_value}

-- a value is another, or it is Unknown and not all objects are known
abbrev pub Tells : Bool → Kleene → Kleene → Type 0
Tells full value other = (value ≡ other) ⊎ ((value ≡ Unknown) × (full ≡ false))

abbrev TellsObjects : Bool → Option (List ℕ) → List ℕ → Type 0
TellsObjects full None objects = full ≡ false
TellsObjects full (Some known) objects = known ≡ objects

Agree-append : (full : Bool) (env : List (Option ℕ)) (objects more : List ℕ) → Agree full env objects → Agree full (env ++ map Some more) (objects ++ more)
Agree-append full [] [] [] h = tt
Agree-append full [] [] (object ∷ more) h = (refl, Agree-append full [] [] more tt)
Agree-append full [] (object ∷ objects) more h = absurd h
Agree-append full (known ∷ env) [] more h = absurd h
Agree-append full (known ∷ env) (object ∷ objects) more (first, rest) = (first, Agree-append full env objects more rest)

Tells-lesser : (full : Bool) (a b c d : Kleene) → Tells full a b → Tells full c d → Tells full (lesser a c) (lesser b d)
Tells-lesser full a b c d (inl e) (inl f) = inl (λ i. lesser (e i) (f i))
Tells-lesser full a b c d (inl e) (inr f) = rw (e, f.0) (by b)
  where
    by : (b : Kleene) → Tells full (lesser b Unknown) (lesser b d)
    by No = inl refl
    by Unknown = inr (refl, f.1)
    by Yes = inr (refl, f.1)
Tells-lesser full a b c d (inr e) (inl f) = rw (e.0, f) (by d)
  where
    by : (d : Kleene) → Tells full (lesser Unknown d) (lesser b d)
    by No = inl (none b)
      where
        none : (b : Kleene) → No ≡ lesser b No
        none No = refl
        none Unknown = refl
        none Yes = refl
    by Unknown = inr (refl, e.1)
    by Yes = inr (refl, e.1)
Tells-lesser full a b c d (inr e) (inr f) = inr ((λ i. lesser (e.0 i) (f.0 i)), e.1)

pub Tells-opposite : (full : Bool) (a b : Kleene) → Tells full a b → Tells full (opposite a) (opposite b)
Tells-opposite full a b (inl e) = inl (ap opposite e)
Tells-opposite full a b (inr e) = inr (ap opposite e.0, e.1)

turned : (a b : Kleene) → opposite (lesser (opposite a) (opposite b)) ≡ greater a b
turned No No = refl
turned No Unknown = refl
turned No Yes = refl
turned Unknown No = refl
turned Unknown Unknown = refl
turned Unknown Yes = refl
turned Yes b = refl

pub Tells-greater : (full : Bool) (a b c d : Kleene) → Tells full a b → Tells full c d → Tells full (greater a c) (greater b d)
Tells-greater full a b c d first second =
    subst (λ v. Tells full v (greater b d)) (turned a c) (subst (λ v. Tells full (opposite (lesser (opposite a) (opposite c))) v) (turned b d)
    (Tells-opposite full _ _ (Tells-lesser full (opposite a) (opposite b) (opposite c) (opposite d) (Tells-opposite full a b first) (Tells-opposite full c d second))))

pub Tells-joined : (full : Bool) (junction : Junction) (a b c d : Kleene) → Tells full a b → Tells full c d → Tells full (joined junction a c) (joined junction b d)
Tells-joined full All a b c d first second = Tells-lesser full a b c d first second
Tells-joined full Any a b c d first second = Tells-greater full a b c d first second

at_number : (full : Bool) (env : List (Option ℕ)) (objects : List ℕ) (number : ℕ) → Agree full env objects → TellsObject full (slice_index_or env number (Some 0)) (slice_index_or objects number 0)
at_number full [] [] number h = refl
at_number full [] (object ∷ objects) number h = absurd h
at_number full (known ∷ env) [] number h = absurd h
at_number full (known ∷ env) (object ∷ objects) zero h = h.0
at_number full (known ∷ env) (object ∷ objects) (suc number) h = at_number full env objects number h.1

pub object_told : (full : Bool) (env : List (Option ℕ)) (objects : List ℕ) → Agree full env objects → (term : LTerm) → TellsObject full (known_object env term) (object_of objects term)
object_told full env objects agree (Object number) = refl
object_told full env objects agree (Variable number) = at_number full env objects number agree

objects_told : (full : Bool) (env : List (Option ℕ)) (objects : List ℕ) → Agree full env objects → (terms : List LTerm) →
    TellsObjects full (all_known (map (known_object env) terms)) (map (object_of objects) terms)
objects_told full env objects agree [] = refl
objects_told full env objects agree (term ∷ terms) = by (known_object env term) (object_told full env objects agree term) (objects_told full env objects agree terms)
  where
    rest : (known : ℕ) (others : Option (List ℕ)) → known ≡ object_of objects term → TellsObjects full others (map (object_of objects) terms) →
        TellsObjects full (option_map (λ more. known ∷ more) others) (object_of objects term ∷ map (object_of objects) terms)
    rest known None e h = h
    rest known (Some others) e h = λ i. e i ∷ h i

    by : (known : Option ℕ) → TellsObject full known (object_of objects term) → TellsObjects full (all_known (map (known_object env) terms)) (map (object_of objects) terms) →
        TellsObjects full (all_known (known ∷ map (known_object env) terms)) (object_of objects term ∷ map (object_of objects) terms)
    by None h others = h
    by (Some known) h others = rest known (all_known (map (known_object env) terms)) h others

module _ (task : LiftedTask) (full : Bool) where
  -- the value of a condition under some objects tells that under all of them
  abbrev TellsCondition : LCond → Type 0
  TellsCondition condition = (env : List (Option ℕ)) (objects : List ℕ) → Agree full env objects → Tells full (partial_value task env condition) (condition_value (open_value task) objects condition)

  static_told : (predicate : ℕ) (known : Option (List ℕ)) (objects : List ℕ) → TellsObjects full known objects →
      Tells full (static_if_known task predicate known) (static_value task (record { predicate = predicate; objects = objects }))
  static_told predicate None objects h = inr (refl, h)
  static_told predicate (Some known) objects h = inl (ap (λ (list : List ℕ). static_value task (record { predicate = predicate; objects = list })) h)

  atom_told : (atom : LAtom) (env : List (Option ℕ)) (objects : List ℕ) → Agree full env objects → Tells full (partial_atom task env atom) (open_value task (ground_atom objects atom))
  atom_told atom env objects agree = by (is_fluent task.predicates atom.predicate)
    where
      by : (fluent : Bool) → Tells full (if fluent then Unknown else static_if_known task atom.predicate (all_known (map (known_object env) atom.terms))) (if fluent then Unknown else static_value task (ground_atom objects atom))
      by true = inl refl
      by false = static_told atom.predicate (all_known (map (known_object env) atom.terms)) (map (object_of objects) atom.terms) (objects_told full env objects agree atom.terms)

  equal_told : (known other : Option ℕ) (object second : ℕ) → TellsObject full known object → TellsObject full other second → Tells full (partial_equal known other) (if object == second then Yes else No)
  equal_told None other object second h g = inr (refl, h)
  equal_told (Some known) None object second h g = inr (refl, g)
  equal_told (Some known) (Some other) object second h g = inl (λ i. if h i == g i then Yes else No)

  abbrev conditions : List ((condition : LCond) × TellsCondition condition) → List LCond
  conditions parts = map (λ e. e.0) parts

  parts_told : (junction : Junction) (env : List (Option ℕ)) (objects : List ℕ) → Agree full env objects → (parts : List ((condition : LCond) × TellsCondition condition)) (a b : Kleene) → Tells full a b →
      Tells full (fold (joined junction) a (map (λ (part : List (Option ℕ) → Kleene). part env) (map (λ condition around. partial_value task around condition) (conditions parts))))
      (fold (joined junction) b (map (λ (part : List ℕ → Kleene). part objects) (map (λ condition around. condition_value (open_value task) around condition) (conditions parts))))
  parts_told junction env objects agree [] a b h = h
  parts_told junction env objects agree (part ∷ parts) a b h = parts_told junction env objects agree parts _ _ (Tells-joined full junction a b _ _ h (part.1 env objects agree))

  ranges_told : (junction : Junction) (env : List (Option ℕ)) (objects : List ℕ) → Agree full env objects → (part : LCond) → TellsCondition part → (all : List (List ℕ)) (a b : Kleene) → Tells full a b →
      Tells full (fold (joined junction) a (map (λ more. partial_value task (env ++ map Some more) part) all)) (fold (joined junction) b (map (λ more. condition_value (open_value task) (objects ++ more) part) all))
  ranges_told junction env objects agree part told [] a b h = h
  ranges_told junction env objects agree part told (more ∷ all) a b h =
      ranges_told junction env objects agree part told all _ _ (Tells-joined full junction a b _ _ h (told (env ++ map Some more) (objects ++ more) (Agree-append full env objects more agree)))

  abbrev partial_layer : LCond-F LCond → List (Option ℕ) → Kleene
  partial_layer layer = partial_step task (map-LCond LCond (List (Option ℕ) → Kleene) (fold-LCond (List (Option ℕ) → Kleene) (partial_step task)) layer)

  abbrev whole_layer : LCond-F LCond → List ℕ → Kleene
  whole_layer layer = condition_step (open_value task) (map-LCond LCond (List ℕ → Kleene) (fold-LCond (List ℕ → Kleene) (condition_step (open_value task))) layer)

  layer_told : (layer : LCond-F ((condition : LCond) × TellsCondition condition)) (env : List (Option ℕ)) (objects : List ℕ) → Agree full env objects →
      Tells full (partial_layer (map-LCond ((condition : LCond) × TellsCondition condition) LCond (λ e. e.0) layer) env) (whole_layer (map-LCond ((condition : LCond) × TellsCondition condition) LCond (λ e. e.0) layer) objects)
  layer_told Truth env objects agree = inl refl
  layer_told (Holds atom) env objects agree = atom_told atom env objects agree
  layer_told (Equal term other) env objects agree = equal_told (known_object env term) (known_object env other) _ _ (object_told full env objects agree term) (object_told full env objects agree other)
  layer_told (And parts) env objects agree = parts_told All env objects agree parts.items Yes Yes (inl refl)
  layer_told (Or parts) env objects agree = parts_told Any env objects agree parts.items No No (inl refl)
  layer_told (Not part) env objects agree = Tells-opposite full _ _ (part.value.1 env objects agree)
  layer_told (Imply part other) env objects agree = Tells-greater full _ _ _ _ (Tells-opposite full _ _ (part.value.1 env objects agree)) (other.value.1 env objects agree)
  layer_told (Forall ranges part) env objects agree = ranges_told All env objects agree part.value.0 part.value.1 (tuples (objects_of ranges)) Yes Yes (inl refl)
  layer_told (Exists ranges part) env objects agree = ranges_told Any env objects agree part.value.0 part.value.1 (tuples (objects_of ranges)) No No (inl refl)

  pub told : (condition : LCond) → TellsCondition condition
  told = ind-LCond TellsCondition (λ x y is env objects agree.
      rw (fold-roll-LCond (List (Option ℕ) → Kleene) (partial_step task) x, fold-roll-LCond (List ℕ → Kleene) (condition_step (open_value task)) x)
      (let P : LCond-F LCond → Type 0 = λ z. Tells full (partial_layer z env) (whole_layer z objects) in subst P is (layer_told y env objects agree)))
