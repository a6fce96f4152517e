-- The value that a condition has by its form is its value, or Unknown.
use Rattle.std.proofs.Common.{◌≡◌, ◌≢◌, inl, inr, ℕ, Bool, true, false, List, [], ◌∷◌, ◌++◌, map, refl, sym, ap, subst, ◌∙◌, Option, Some}
use Rattle.std.specs.Prelude.{fold, if◌then◌else◌, slice_index_or}
use Rattle.std.specs.List.{flat_map}
use Rattle.fond_text.specs.declared.atom.Atom.{Atom}
use Rattle.fond_ast.specs.Ranges.{objects_of}
use Rattle.fond_ast.specs.declared.form.LCond.{LCond}
use Rattle.fond_ast.specs.declared.form.LCond.TheOpen.{LCond-F, Truth, Holds, Equal, And, Or, Not, Imply, Forall, Exists}
use Rattle.fond_ast.specs.declared.form.LCond.TheFolds.{fold-LCond, fold-roll-LCond, ind-LCond, map-LCond}
use Rattle.fond_ast.specs.Conditions.{object_of, tuples}
use Rattle.fond_task.specs.declared.form.Junction.{Junction}
use Rattle.fond_task.specs.declared.form.Junction.TheVariants.{All, Any}
use Rattle.fond_task.specs.declared.form.Kleene.{Kleene}
use Rattle.fond_task.specs.declared.form.Kleene.TheVariants.{No, Unknown, Yes}
use Rattle.fond_task.specs.Junctions.{joined, joined_all, neutral}
use Rattle.fond_join.specs.Fixed.{are_filled, AreBare, fixed_step, fixed_value, over}
use Rattle.fond_ast.specs.declared.task.LiftedTask.{LiftedTask}
use Rattle.fond_join.specs.Partial.{partial_step, partial_value}
use Rattle.fond_join.specs.Values.{condition_step, condition_value}
use Rattle.fond_join.proofs.Joined.{joined_first, joined_self}
use Rattle.fond_join.proofs.Sound.{Tells, Tells-greater, Tells-joined, Tells-opposite}

-- whether a list has an item
abbrev is_some_list : {X : Type 0} → List X → Bool
is_some_list [] = false
is_some_list (x ∷ xs) = true

some_mapped : {X Y : Type 0} (f : X → Y) (xs : List X) → is_some_list xs ≡ true → is_some_list (map f xs) ≡ true
some_mapped f [] h = h
some_mapped f (x ∷ xs) h = refl

some_before : {X : Type 0} (xs ys : List X) → is_some_list xs ≡ true → is_some_list (xs ++ ys) ≡ true
some_before [] ys h = absurd (cc (h))
some_before (x ∷ xs) ys h = refl

none_flat : {X Y : Type 0} (f : X → List Y) (xs : List X) → ((x : X) → f x ≡ []) → flat_map f xs ≡ []
none_flat f [] none = refl
none_flat f (x ∷ xs) none = ap (λ ys. ys ++ flat_map f xs) (none x) ∙ none_flat f xs none

-- there is a tuple if each range has an object, and there is none if some range has no object
some_tuples : (ranges : List (List ℕ)) → are_filled ranges ≡ true → is_some_list (tuples ranges) ≡ true
some_tuples [] h = refl
some_tuples ([] ∷ ranges) h = absurd (cc (h))
some_tuples ((object ∷ range) ∷ ranges) h =
    some_before (map (λ objects. object ∷ objects) (tuples ranges)) _ (some_mapped (λ objects. object ∷ objects) (tuples ranges) (some_tuples ranges h))

no_tuples : (ranges : List (List ℕ)) → are_filled ranges ≡ false → tuples ranges ≡ []
no_tuples [] h = absurd (cc (h))
no_tuples ([] ∷ ranges) h = refl
no_tuples ((object ∷ range) ∷ ranges) h =
    none_flat (λ object. map (λ objects. object ∷ objects) (tuples ranges)) (object ∷ range) (λ object. ap (map (λ objects. object ∷ objects)) (no_tuples ranges h))

module _ {X : Type 0} (junction : Junction) (a : Kleene) (of : X → Kleene) (each : (x : X) → Tells false a (of x)) where
  more_told : (xs : List X) (b : Kleene) → Tells false a b → Tells false a (fold (joined junction) b (map of xs))
  more_told [] b h = h
  more_told (x ∷ xs) b h = more_told xs (joined junction b (of x)) (subst (λ v. Tells false v (joined junction b (of x))) (joined_self junction a) (Tells-joined false junction a b a (of x) h (each x)))

  -- the value of each part is that of their junction
  all_told : (xs : List X) → is_some_list xs ≡ true → Tells false a (joined_all junction (map of xs))
  all_told [] some = absurd (cc (some))
  all_told (x ∷ xs) some = more_told xs (joined junction (neutral junction) (of x)) (subst (Tells false a) (sym (joined_first junction (of x))) (each x))

  -- the value of each part gives that of a quantifier
  over_told : (ranges : List (List ℕ)) (xs : List X) → (are_filled ranges ≡ true → is_some_list xs ≡ true) → (are_filled ranges ≡ false → xs ≡ []) → Tells false (over ranges junction a) (joined_all junction (map of xs))
  over_told ranges xs some none = by (are_filled ranges) refl
    where
      by : (b : Bool) → are_filled ranges ≡ b → Tells false (if b then a else neutral junction) (joined_all junction (map of xs))
      by true e = all_told xs (some e)
      by false e = inl (sym (ap (λ ys. joined_all junction (map of ys)) (none e)))

-- a value that is the same for all tuples, and not Unknown, gives that of a quantifier
pub over_is : (junction : Junction) (a : Kleene) (of : List ℕ → Kleene) → ((objects : List ℕ) → Tells false a (of objects)) → a ≢ Unknown → (ranges : List (List ℕ)) → over ranges junction a ≡ joined_all junction (map of (tuples ranges))
over_is junction a of each known ranges = by (over_told junction a of each ranges (tuples ranges) (some_tuples ranges) (no_tuples ranges))
  where
    open_neither : (junction : Junction) → neutral junction ≡ Unknown → ⊥
    open_neither All e = cc (e)
    open_neither Any e = cc (e)

    never : (b : Bool) → (if b then a else neutral junction) ≡ Unknown → ⊥
    never true e = known e
    never false e = open_neither junction e

    by : Tells false (over ranges junction a) (joined_all junction (map of (tuples ranges))) → over ranges junction a ≡ joined_all junction (map of (tuples ranges))
    by (inl same) = same
    by (inr unknown) = absurd (never (are_filled ranges) unknown.0)

module _ (bare : List Bool) (known : Atom → Kleene) (are_bare : AreBare known bare) where
  abbrev ToldByForm : LCond → Type 0
  ToldByForm condition = (objects : List ℕ) → Tells false (fixed_value bare condition) (condition_value known objects condition)

  holds_told : (predicate : ℕ) (objects : List ℕ) → Tells false (if slice_index_or bare predicate false then No else Unknown) (known (record { predicate = predicate; objects = objects }))
  holds_told predicate objects = by (slice_index_or bare predicate false) refl
    where
      by : (b : Bool) → slice_index_or bare predicate false ≡ b → Tells false (if b then No else Unknown) (known (record { predicate = predicate; objects = objects }))
      by true e = inl (sym (are_bare predicate objects e))
      by false e = inr (refl, refl)

  abbrev conditions : List ((condition : LCond) × ToldByForm condition) → List LCond
  conditions parts = map (λ e. e.0) parts

  parts_told : (junction : Junction) (objects : List ℕ) (parts : List ((condition : LCond) × ToldByForm condition)) (a b : Kleene) → Tells false a b →
      Tells false (fold (joined junction) a (map (fixed_value bare) (conditions parts)))
      (fold (joined junction) b (map (λ (part : List ℕ → Kleene). part objects) (map (λ condition around. condition_value known around condition) (conditions parts))))
  parts_told junction objects [] a b h = h
  parts_told junction objects (part ∷ parts) a b h = parts_told junction objects parts _ _ (Tells-joined false junction a b _ _ h (part.1 objects))

  abbrev fixed_layer : LCond-F LCond → Kleene
  fixed_layer layer = fixed_step bare (map-LCond LCond Kleene (fold-LCond Kleene (fixed_step bare)) layer)

  abbrev whole_layer : LCond-F LCond → List ℕ → Kleene
  whole_layer layer = condition_step known (map-LCond LCond (List ℕ → Kleene) (fold-LCond (List ℕ → Kleene) (condition_step known)) layer)

  layer_told : (layer : LCond-F ((condition : LCond) × ToldByForm condition)) (objects : List ℕ) →
      Tells false (fixed_layer (map-LCond ((condition : LCond) × ToldByForm condition) LCond (λ e. e.0) layer)) (whole_layer (map-LCond ((condition : LCond) × ToldByForm condition) LCond (λ e. e.0) layer) objects)
  layer_told Truth objects = inl refl
  layer_told (Holds atom) objects = holds_told atom.predicate (map (object_of objects) atom.terms)
  layer_told (Equal term other) objects = inr (refl, refl)
  layer_told (And parts) objects = parts_told All objects parts.items Yes Yes (inl refl)
  layer_told (Or parts) objects = parts_told Any objects parts.items No No (inl refl)
  layer_told (Not part) objects = Tells-opposite false _ _ (part.value.1 objects)
  layer_told (Imply part other) objects = Tells-greater false _ _ _ _ (Tells-opposite false _ _ (part.value.1 objects)) (other.value.1 objects)
  layer_told (Forall ranges part) objects =
      over_told All _ (λ more. condition_value known (objects ++ more) part.value.0) (λ more. part.value.1 (objects ++ more)) (objects_of ranges) (tuples (objects_of ranges)) (some_tuples (objects_of ranges)) (no_tuples (objects_of ranges))
  layer_told (Exists ranges part) objects =
      over_told Any _ (λ more. condition_value known (objects ++ more) part.value.0) (λ more. part.value.1 (objects ++ more)) (objects_of ranges) (tuples (objects_of ranges)) (some_tuples (objects_of ranges)) (no_tuples (objects_of ranges))

  pub told_by_form : (condition : LCond) → ToldByForm condition
  told_by_form = ind-LCond ToldByForm (λ x y is objects.
      rw (fold-roll-LCond Kleene (fixed_step bare) x, fold-roll-LCond (List ℕ → Kleene) (condition_step known) x)
      (let P : LCond-F LCond → Type 0 = λ z. Tells false (fixed_layer z) (whole_layer z objects) in subst P is (layer_told y objects)))

module _ (task : LiftedTask) where
  abbrev ToldOpen : LCond → Type 0
  ToldOpen condition = (env : List (Option ℕ)) → Tells false (fixed_value [] condition) (partial_value task env condition)

  abbrev open_conditions : List ((condition : LCond) × ToldOpen condition) → List LCond
  open_conditions parts = map (λ e. e.0) parts

  open_parts_told : (junction : Junction) (env : List (Option ℕ)) (parts : List ((condition : LCond) × ToldOpen condition)) (a b : Kleene) → Tells false a b →
      Tells false (fold (joined junction) a (map (fixed_value []) (open_conditions parts)))
      (fold (joined junction) b (map (λ (part : List (Option ℕ) → Kleene). part env) (map (λ condition around. partial_value task around condition) (open_conditions parts))))
  open_parts_told junction env [] a b h = h
  open_parts_told junction env (part ∷ parts) a b h = open_parts_told junction env parts _ _ (Tells-joined false junction a b _ _ h (part.1 env))

  abbrev open_layer : LCond-F LCond → Kleene
  open_layer layer = fixed_step [] (map-LCond LCond Kleene (fold-LCond Kleene (fixed_step [])) layer)

  abbrev partial_layer : LCond-F LCond → List (Option ℕ) → Kleene
  partial_layer layer = partial_step task (map-LCond LCond (List (Option ℕ) → Kleene) (fold-LCond (List (Option ℕ) → Kleene) (partial_step task)) layer)

  open_layer_told : (layer : LCond-F ((condition : LCond) × ToldOpen condition)) (env : List (Option ℕ)) →
      Tells false (open_layer (map-LCond ((condition : LCond) × ToldOpen condition) LCond (λ e. e.0) layer)) (partial_layer (map-LCond ((condition : LCond) × ToldOpen condition) LCond (λ e. e.0) layer) env)
  open_layer_told Truth env = inl refl
  open_layer_told (Holds atom) env = inr (refl, refl)
  open_layer_told (Equal term other) env = inr (refl, refl)
  open_layer_told (And parts) env = open_parts_told All env parts.items Yes Yes (inl refl)
  open_layer_told (Or parts) env = open_parts_told Any env parts.items No No (inl refl)
  open_layer_told (Not part) env = Tells-opposite false _ _ (part.value.1 env)
  open_layer_told (Imply part other) env = Tells-greater false _ _ _ _ (Tells-opposite false _ _ (part.value.1 env)) (other.value.1 env)
  open_layer_told (Forall ranges part) env =
      over_told All _ (λ more. partial_value task (env ++ map Some more) part.value.0) (λ more. part.value.1 (env ++ map Some more)) (objects_of ranges) (tuples (objects_of ranges)) (some_tuples (objects_of ranges)) (no_tuples (objects_of ranges))
  open_layer_told (Exists ranges part) env =
      over_told Any _ (λ more. partial_value task (env ++ map Some more) part.value.0) (λ more. part.value.1 (env ++ map Some more)) (objects_of ranges) (tuples (objects_of ranges)) (some_tuples (objects_of ranges)) (no_tuples (objects_of ranges))

  pub told_open : (condition : LCond) → ToldOpen condition
  told_open = ind-LCond ToldOpen (λ x y is env.
      rw (fold-roll-LCond Kleene (fixed_step []) x, fold-roll-LCond (List (Option ℕ) → Kleene) (partial_step task) x)
      (let P : LCond-F LCond → Type 0 = λ z. Tells false (open_layer z) (partial_layer z env) in subst P is (open_layer_told y env)))
