-- Counting lists of objects and fluent atoms, up to a bound.
use Rattle.std.proofs.Common.{◌≡◌, ◌⊎◌, inl, inr, ℕ, zero, suc, ◌+◌, ◌*◌, ◌<◌, ◌≤◌, ◌∙◌, Bool, true, false, List, [], ◌∷◌, ◌++◌, Some, length, slice_get, map, drop, sym, ap, arith, length-append}
use Rattle.std.specs.Prelude.{min, if◌then◌else◌}
use Rattle.std.specs.List.{enumerate_from, flat_map}
use Rattle.std.proofs.lemmas.Bool.{cases_lt}
use Rattle.std.proofs.lemmas.List.{length-map, at_drop_more, append_assoc}
use Rattle.std.proofs.lemmas.Option.{slice_get_within, get_or_from_slice_get}
use Rattle.fond_text.specs.declared.atom.Atom.{Atom}
use Rattle.fond_ast.specs.Ranges.{objects_of}
use Rattle.fond_ast.specs.declared.task.LPredicate.{LPredicate}
use Rattle.fond_ast.specs.Conditions.{tuples}
use Rattle.fond_ground.specs.Atoms.{atoms_over}

-- an item of a list at an index, and the rest of the list
pub drop_item : {X : Type 0} (xs : List X) (i : ℕ) (x : X) → slice_get xs i ≡ Some x → drop i xs ≡ x ∷ drop (i + 1) xs
drop_item xs i x at = at_drop_more (λ rest. rest) xs i x (slice_get_within xs i x at) ∙ ap (λ y. y ∷ drop (i + 1) xs) (get_or_from_slice_get xs i x x at)

flat-length : (lists : ℕ → List (List ℕ)) (n : ℕ) (range : List ℕ) → ((object : ℕ) → length (lists object) ≡ n) → length (flat_map lists range) ≡ length range * n
flat-length lists n [] same = omega arith
flat-length lists n (object ∷ range) same =
    let here = same object in
    let rest = flat-length lists n range same in
    let whole = length-append (lists object) (flat_map lists range) in
    omega arith

-- a range multiplies the number of lists
pub tuples-length : (range : List ℕ) (ranges : List (List ℕ)) → length (tuples (range ∷ ranges)) ≡ length range * length (tuples ranges)
tuples-length range ranges = flat-length (λ object. map (λ objects. object ∷ objects) (tuples ranges)) (length (tuples ranges)) range (λ object. length-map (tuples ranges) (λ objects. object ∷ objects))

-- a capped product is multiplied once more
pub capped_product : (most a b t next : ℕ) → next ≡ min (a * b) most → min (next * t) most ≡ min (a * (b * t)) most
capped_product most a b zero next is = ap (λ n. min n most) (omega arith)
capped_product most a b (suc k) next is = by (cases_lt most (a * b))
  where
    by : (most < a * b) ⊎ (a * b ≤ most) → min (next * suc k) most ≡ min (a * (b * suc k)) most
    by (inl over) =
        let full : next ≡ most = omega (arith, is, over) in
        let product : a * (b * suc k) ≡ a * b + a * b * k = omega arith in
        ap (λ n. min (n * suc k) most) full ∙ (let grown : most * suc k ≡ most + most * k = omega arith in omega (arith, grown, product, over))
    by (inr within) =
        let same : next ≡ a * b = omega (arith, is, within) in
        ap (λ n. min (n * suc k) most) same ∙ ap (λ n. min n most) (omega arith)

-- what is left of the atoms of predicates from an index on
abbrev pub atoms_from : ℕ → List LPredicate → List Atom
atoms_from i predicates = flat_map (λ item. if item.1.fluent then atoms_over item.0 item.1.ranges else []) (enumerate_from i predicates)

pub atoms_next : (predicates : List LPredicate) (i : ℕ) (predicate : LPredicate) → slice_get predicates i ≡ Some predicate
    → atoms_from i (drop i predicates) ≡ (if predicate.fluent then atoms_over i predicate.ranges else []) ++ atoms_from (i + 1) (drop (i + 1) predicates)
atoms_next predicates i predicate at = ap (atoms_from i) (drop_item predicates i predicate at)

pub atoms_more : (predicates : List LPredicate) (i : ℕ) (predicate : LPredicate) (atoms next whole : List Atom) → slice_get predicates i ≡ Some predicate
    → next ≡ atoms ++ (if predicate.fluent then atoms_over i predicate.ranges else []) → atoms ++ atoms_from i (drop i predicates) ≡ whole → next ++ atoms_from (i + 1) (drop (i + 1) predicates) ≡ whole
atoms_more predicates i predicate atoms next whole at grown before =
    ap (λ list. list ++ atoms_from (i + 1) (drop (i + 1) predicates)) grown ∙ append_assoc atoms _ _ ∙ ap (λ list. atoms ++ list) (sym (atoms_next predicates i predicate at)) ∙ before

counted : (most count n rest here : ℕ) (fluent : Bool) (atoms : List Atom) → here ≡ (if fluent then min n most else 0) → length atoms ≡ n
    → min (min (count + here) most + rest) most ≡ min (count + (length (if fluent then atoms else []) + rest)) most
counted most count n rest here true atoms is long = omega (arith, is, long)
counted most count n rest here false atoms is long = omega (arith, is, long)

pub count_more : (most : ℕ) (predicates : List LPredicate) (i : ℕ) (predicate : LPredicate) (count here next whole : ℕ) → slice_get predicates i ≡ Some predicate
    → here ≡ (if predicate.fluent then min (length (tuples (objects_of predicate.ranges))) most else 0) → next ≡ min (count + here) most
    → min (count + length (atoms_from i (drop i predicates))) most ≡ whole → min (next + length (atoms_from (i + 1) (drop (i + 1) predicates))) most ≡ whole
count_more most predicates i predicate count here next whole at is grown before =
    let rest = atoms_from (i + 1) (drop (i + 1) predicates) in
    ap (λ n. min (n + length rest) most) grown
    ∙ counted most count (length (tuples (objects_of predicate.ranges))) (length rest) here predicate.fluent (atoms_over i predicate.ranges) is (length-map (tuples (objects_of predicate.ranges)) (λ objects. record { predicate = i; objects = objects }))
    ∙ ap (λ n. min (count + n) most) (sym (ap length (atoms_next predicates i predicate at) ∙ length-append (if predicate.fluent then atoms_over i predicate.ranges else []) rest)) ∙ before

-- one more item that is mapped
pub mapped_more : {X Y : Type 0} (f : X → Y) (xs : List X) (i : ℕ) (x : X) (made next whole : List Y) → slice_get xs i ≡ Some x → next ≡ made ++ f x ∷ [] → made ++ map f (drop i xs) ≡ whole → next ++ map f (drop (i + 1) xs) ≡ whole
mapped_more f xs i x made next whole at is before =
    ap (λ list. list ++ map f (drop (i + 1) xs)) is ∙ append_assoc made (f x ∷ []) (map f (drop (i + 1) xs)) ∙ ap (λ list. made ++ map f list) (sym (drop_item xs i x at)) ∙ before

-- one more item
pub items_more : {X : Type 0} (xs : List X) (i : ℕ) (x : X) (made next whole : List X) → slice_get xs i ≡ Some x → next ≡ made ++ x ∷ [] → made ++ drop i xs ≡ whole → next ++ drop (i + 1) xs ≡ whole
items_more xs i x made next whole at is before =
    ap (λ list. list ++ drop (i + 1) xs) is ∙ append_assoc made (x ∷ []) (drop (i + 1) xs) ∙ ap (λ list. made ++ list) (sym (drop_item xs i x at)) ∙ before
