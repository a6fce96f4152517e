-- The completions in the order of the declarations are the tuples of the ranges.
use Rattle.std.proofs.Common.{◌≡◌, ℕ, zero, suc, ◌+◌, List, [], ◌∷◌, ◌++◌, Option, Some, None, true, map, length, refl, sym, ap, subst, ◌∙◌, get_or, replicate, set}
use Rattle.std.specs.Prelude.{filter, is_some}
use Rattle.std.specs.declared.alloc.Global.{Global}
use Rattle.std.specs.declared.rc.Rc.{Rc}
use Rattle.std.specs.List.{flat_map, list_all, range_with_len}
use Rattle.std.proofs.lemmas.List.{map-append, append_assoc, length-append, length-map}
use Rattle.std.proofs.lemmas.List.FromFn.{map-range_with_len_more}
use Rattle.fond_ast.specs.Ranges.{objects_of}
use Rattle.fond_ast.specs.declared.task.LSchema.{LSchema}
use Rattle.fond_ast.specs.declared.task.LiftedTask.{LiftedTask}
use Rattle.fond_ast.specs.Conditions.{tuples}
use Rattle.fond_join.specs.Kept.{is_kept, kept_args}
use Rattle.fond_join.specs.Search.{arguments, completions, IsOrder, kept_completions}
use Rattle.fond_join.proofs.Joined.{map_map, map_same}

arguments_own : (xs : List ℕ) → arguments (map Some xs ++ []) ≡ xs ++ []
arguments_own [] = refl
arguments_own (x ∷ xs) = ap (λ rest. x ∷ rest) (arguments_own xs)

all_given : (xs : List ℕ) → list_all (λ object. is_some object) (map Some xs ++ []) ≡ true
all_given [] = refl
all_given (x ∷ xs) = all_given xs

at_length : {X : Type 0} (ys : List X) (y d : X) (rest : List X) → get_or (ys ++ y ∷ rest) (length ys) d ≡ y
at_length [] y d rest = refl
at_length (z ∷ ys) y d rest = at_length ys y d rest

next_at : (xs : List ℕ) (rest : List (Option ℕ)) → get_or (map Some xs ++ None ∷ rest) (length xs) (Some 0) ≡ None
next_at [] rest = refl
next_at (x ∷ xs) rest = next_at xs rest

given_next : (xs : List ℕ) (object : ℕ) (rest : List (Option ℕ)) → set (map Some xs ++ None ∷ rest) (length xs) (Some object) ≡ map Some (xs ++ object ∷ []) ++ rest
given_next [] object rest = refl
given_next (x ∷ xs) object rest = ap (λ more. Some x ∷ more) (given_next xs object rest)

one_longer : (xs : List ℕ) (object : ℕ) → length xs + 1 ≡ length (xs ++ object ∷ [])
one_longer xs object = sym (length-append xs (object ∷ []))

-- the declared order is one for parameters without objects, after some that have one
order_after : (xs : List ℕ) (count : ℕ) → IsOrder (map Some xs ++ replicate count None) (range_with_len (length xs) count)
order_after xs zero = all_given xs
order_after xs (suc count) = (
  next_at xs (replicate count None),
  λ object.
      subst (λ env. IsOrder env (range_with_len (length xs + 1) count)) (sym (given_next xs object (replicate count None)))
      (subst (λ first. IsOrder (map Some (xs ++ object ∷ []) ++ replicate count None) (range_with_len first count)) (sym (one_longer xs object)) (order_after (xs ++ object ∷ []) count)),
)

pub declared_order : (count : ℕ) → IsOrder (replicate count None) (range_with_len 0 count)
declared_order count = order_after [] count

flat_same : {X Y Z W : Type 0} (f : Y → Z) (g : W → Z) (to : X → List Y) (other : X → List W) → ((x : X) → map f (to x) ≡ map g (other x)) → (xs : List X) → map f (flat_map to xs) ≡ map g (flat_map other xs)
flat_same f g to other each [] = refl
flat_same f g to other each (x ∷ xs) =
    map-append f (to x) (flat_map to xs) ∙ (λ i. each x i ++ flat_same f g to other each xs i) ∙ sym (map-append g (other x) (flat_map other xs))

tuples_after : (before rest : List (List ℕ)) (xs : List ℕ) → length xs ≡ length before →
    map arguments (completions (before ++ rest) (map Some xs ++ replicate (length rest) None) (range_with_len (length xs) (length rest))) ≡ map (λ objects. xs ++ objects) (tuples rest)
tuples_after before [] xs long = ap (λ objects. objects ∷ []) (arguments_own xs)
tuples_after before (range ∷ rest) xs long =
    let none = replicate {A = Option ℕ} (length rest) None in
    let inner = λ (object : ℕ). completions (before ++ range ∷ rest) (set (map Some xs ++ None ∷ none) (length xs) (Some object)) (range_with_len (length xs + 1) (length rest)) in
    let range_is : get_or (before ++ range ∷ rest) (length xs) [] ≡ range = ap (λ n. get_or (before ++ range ∷ rest) n []) long ∙ at_length before range [] rest in
    ap (λ objects. map arguments (flat_map inner objects)) range_is
    ∙ flat_same arguments (λ objects. xs ++ objects) inner (λ object. map (λ objects. object ∷ objects) (tuples rest)) (λ object.
    ap (λ ranges. map arguments (completions ranges (set (map Some xs ++ None ∷ none) (length xs) (Some object)) (range_with_len (length xs + 1) (length rest)))) (sym (append_assoc before (range ∷ []) rest))
    ∙ ap (λ env. map arguments (completions ((before ++ range ∷ []) ++ rest) env (range_with_len (length xs + 1) (length rest)))) (given_next xs object none)
    ∙ ap (λ first. map arguments (completions ((before ++ range ∷ []) ++ rest) (map Some (xs ++ object ∷ []) ++ none) (range_with_len first (length rest)))) (one_longer xs object)
    ∙ tuples_after (before ++ range ∷ []) rest (xs ++ object ∷ []) (sym (one_longer xs object) ∙ ap (λ n. n + 1) long ∙ sym (length-append before (range ∷ [])))
    ∙ map_same (λ objects. (xs ++ object ∷ []) ++ objects) (λ objects. xs ++ (object ∷ objects)) (λ objects. append_assoc xs (object ∷ []) objects) (tuples rest)
    ∙ sym (map_map (λ objects. xs ++ objects) (λ objects. object ∷ objects) (tuples rest))) range

same : {X : Type 0} (all : List X) → map (λ x. x) all ≡ all
same [] = refl
same (x ∷ all) = ap (λ rest. x ∷ rest) (same all)

pub declared_tuples : (ranges : List (List ℕ)) → map arguments (completions ranges (replicate (length ranges) None) (range_with_len 0 (length ranges))) ≡ tuples ranges
declared_tuples ranges = tuples_after [] ranges [] refl ∙ same (tuples ranges)

-- the kept completions in the order of the declarations are the kept lists of arguments
pub declared_kept : (task : LiftedTask) (schema : LSchema) (env : List (Option ℕ)) (order : List ℕ) → env ≡ replicate (length schema.ranges) None → order ≡ range_with_len 0 (length schema.ranges) →
    kept_completions task schema env order ≡ kept_args task schema
declared_kept task schema env order env_is order_is =
    let count = length-map schema.ranges (λ (range : Rc (List ℕ) Global). range.value) in
    (λ i. kept_completions task schema ((env_is ∙ ap (λ n. replicate n None) (sym count)) i) ((order_is ∙ ap (range_with_len 0) (sym count)) i))
    ∙ ap (filter (is_kept task schema)) (declared_tuples (objects_of schema.ranges))

-- one more number follows
pub numbers_more : (first count next : ℕ) → first + count ≡ next → range_with_len first (count + 1) ≡ range_with_len first count ++ next ∷ []
numbers_more first count next is = sym (same (range_with_len first (count + 1))) ∙ map-range_with_len_more (λ n. n) first count next is ∙ ap (λ all. all ++ next ∷ []) (same (range_with_len first count))
