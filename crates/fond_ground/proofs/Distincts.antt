-- Lists of objects, atoms and actions without repetition.
use Rattle.std.proofs.Common.{◌≡◌, inl, inr, ℕ, ◌+◌, ◌<◌, ◌≤◌, ◌∙◌, ◌&&◌, nat_lt, Bool, true, false, not, List, [], ◌∷◌, ◌++◌, length, map, filter, cond, refl, sym, ap, subst, arith}
use Rattle.std.specs.Prelude.{if◌then◌else◌}
use Rattle.std.specs.List.{AllZip, enumerate_from, flat_map, list_all, list_any}
use Rattle.std.specs.Str.{bytes_eq}
use Rattle.std.specs.Cmp.Lexicographic.{bytes_decides}
use Rattle.std.proofs.lemmas.Bool.Decides.{nat_tests}
use Rattle.fond_text.specs.Lists.{are_distinct_texts}
use Rattle.fond_text.specs.declared.atom.Atom.{Atom}
use Rattle.fond_text.specs.declared.atom.GroundAction.{GroundAction}
use Rattle.fond_ast.specs.Ranges.{objects_of, is_rising}
use Rattle.fond_ast.specs.Within.{are_ranges_within, is_schema_within, is_condition_within, is_effect_within}
use Rattle.fond_ast.specs.declared.task.LPredicate.{LPredicate}
use Rattle.fond_ast.specs.declared.task.LSchema.{LSchema}
use Rattle.fond_ast.specs.declared.task.LiftedTask.{LiftedTask}
use Rattle.fond_join.specs.Kept.{is_kept, kept_args}
use Rattle.fond_ast.specs.Conditions.{tuples}
use Rattle.fond_ast.proofs.Bools.{and-both, and-parts, or-cases}
use Rattle.fond_ast.proofs.Members.{Member, Member-cases, Member-map, Member-from_map, Member-from_flat_map}
use Rattle.fond_task.specs.Distinct.{action_numbers, are_distinct_acts, are_distinct_atoms, atom_numbers}
use Rattle.fond_task.specs.declared.task.Act.{Act}
use Rattle.fond_ground.specs.Atoms.{atoms_over, fluent_atoms}
use Rattle.fond_ground.specs.Grounds.{kept_actions, IsActOf}

-- no item occurs twice
abbrev pub Distinct : {X : Type 0} → List X → Type 0
Distinct [] = Unit {0}
Distinct (x ∷ xs) = (¬ Member xs x) × Distinct xs

member-text : (xs : List (List ℕ)) (x : List ℕ) → list_any (bytes_eq x) xs ≡ true → Member xs x
member-text [] x h = absurd (cc)
member-text (y ∷ xs) x h = elim (or-cases (bytes_eq x y) (list_any (bytes_eq x) xs) h) [ inl e ↦ inl ((bytes_decides x y).0 e) | inr m ↦ inr (member-text xs x m) ]

not-true : (b : Bool) → (¬ b ≡ true) → not b ≡ true
not-true true h = absurd (h refl)
not-true false h = refl

texts-distinct : (xs : List (List ℕ)) → Distinct xs → are_distinct_texts xs ≡ true
texts-distinct [] h = refl
texts-distinct (x ∷ xs) h = and-both (not (list_any (bytes_eq x) xs)) (are_distinct_texts xs) (not-true _ (λ e. h.0 (member-text xs x e))) (texts-distinct xs h.1)

distinct-map : {X Y : Type 0} (f : X → Y) → ((x y : X) → f x ≡ f y → x ≡ y) → (xs : List X) → Distinct xs → Distinct (map f xs)
distinct-map f same [] h = tt
distinct-map f same (x ∷ xs) h =
    (λ m. let other = Member-from_map f xs (f x) m in h.0 (subst (Member xs) (sym (same x other.0 other.2)) other.1), distinct-map f same xs h.1)

distinct-append : {X : Type 0} (xs ys : List X) → Distinct xs → Distinct ys → ((x : X) → Member xs x → Member ys x → ⊥) → Distinct (xs ++ ys)
distinct-append [] ys h k apart = k
distinct-append (x ∷ xs) ys h k apart =
    (λ m. elim (Member-cases xs ys x m) [ inl left ↦ h.0 left | inr right ↦ apart x (inl refl) right ], distinct-append xs ys h.1 k (λ y left right. apart y (inr left) right))

distinct-flat : {X Y K : Type 0} (f : X → List Y) (key : Y → K) (name : X → K) → ((x : X) (y : Y) → Member (f x) y → key y ≡ name x) → (xs : List X) → Distinct (map name xs) → ((x : X) → Member xs x → Distinct (f x)) → Distinct (flat_map f xs)
distinct-flat f key name keyed [] h each = tt
distinct-flat f key name keyed (x ∷ xs) h each =
    distinct-append (f x) (flat_map f xs) (each x (inl refl)) (distinct-flat f key name keyed xs h.1 (λ y m. each y (inr m)))
    (λ y left right.
    let other = Member-from_flat_map f xs y right in
    let same : name x ≡ name other.0 = sym (keyed x y left) ∙ keyed other.0 y other.2 in
    h.0 (subst (Member (map name xs)) (sym same) (Member-map name xs other.0 other.1)))

distinct-filter : {X : Type 0} (keep : X → Bool) (xs : List X) → Distinct xs → Distinct (filter keep xs)
distinct-filter keep [] h = tt
distinct-filter keep (x ∷ xs) h = by (keep x) (distinct-filter keep xs h.1)
  where
    kept : (xs : List _) (y : _) → Member (filter keep xs) y → Member xs y
    kept [] y m = m
    kept (z ∷ zs) y m = inner (keep z) m (kept zs y)
      where
        inner : (b : Bool) → Member (cond b (z ∷ filter keep zs) (filter keep zs)) y → (Member (filter keep zs) y → Member zs y) → Member (z ∷ zs) y
        inner true (inl e) rest = inl e
        inner true (inr m) rest = inr (rest m)
        inner false m rest = inr (rest m)

    by : (b : Bool) → Distinct (filter keep xs) → Distinct (cond b (x ∷ filter keep xs) (filter keep xs))
    by true rest = (λ m. h.0 (kept xs x m), rest)
    by false rest = rest

above : (x : ℕ) (xs : List ℕ) → is_rising (x ∷ xs) ≡ true → (y : ℕ) → Member xs y → x < y
above x [] rising y m = absurd m
above x (z ∷ zs) rising y (inl e) =
    let parts = and-parts (nat_lt x z) (is_rising (z ∷ zs)) rising in
    let lt = parts.0 in
    let less : x < z = grind (arith, nat_tests) in
    subst (λ n. x < n) (sym e) less
above x (z ∷ zs) rising y (inr m) =
    let parts = and-parts (nat_lt x z) (is_rising (z ∷ zs)) rising in
    let lt = parts.0 in
    let less : x < z = grind (arith, nat_tests) in
    let more = above z zs parts.1 y m in
    omega (arith, less, more)

tail_rising : (x : ℕ) (xs : List ℕ) → is_rising (x ∷ xs) ≡ true → is_rising xs ≡ true
tail_rising x [] rising = refl
tail_rising x (z ∷ zs) rising = (and-parts (nat_lt x z) (is_rising (z ∷ zs)) rising).1

rising-distinct : (xs : List ℕ) → is_rising xs ≡ true → Distinct xs
rising-distinct [] rising = tt
rising-distinct (x ∷ xs) rising = (λ m. let lt = above x xs rising x m in absurd (omega (arith, lt)), rising-distinct xs (tail_rising x xs rising))

abbrev head_of : List ℕ → ℕ
head_of [] = 0
head_of (x ∷ xs) = x

same-map : {X : Type 0} (xs : List X) → map (λ x. x) xs ≡ xs
same-map [] = refl
same-map (x ∷ xs) = ap (λ rest. x ∷ rest) (same-map xs)

tuples-distinct : (count : ℕ) (ranges : List (List ℕ)) → list_all (λ range. is_rising range && list_all (λ object. nat_lt object count) range) ranges ≡ true → Distinct (tuples ranges)
tuples-distinct count [] within = (λ m. m, tt)
tuples-distinct count (range ∷ ranges) within =
    let parts = and-parts (is_rising range && list_all (λ object. nat_lt object count) range) _ within in
    let rising = (and-parts (is_rising range) (list_all (λ object. nat_lt object count) range) parts.0).0 in
    let rest = tuples-distinct count ranges parts.1 in
    distinct-flat (λ object. map (λ objects. object ∷ objects) (tuples ranges)) head_of (λ object. object)
    (λ object objects m. let other = Member-from_map (λ some. object ∷ some) (tuples ranges) objects m in ap head_of other.2)
    range (subst Distinct (sym (same-map range)) (rising-distinct range rising))
    (λ object m. distinct-map (λ objects. object ∷ objects) (λ x y e. let same : x ≡ y = cc in same) (tuples ranges) rest)

numbers-above : {X : Type 0} (xs : List X) (from n : ℕ) → Member (map (λ item. item.0) (enumerate_from from xs)) n → from ≤ n
numbers-above [] from n m = absurd m
numbers-above (x ∷ xs) from n (inl e) = omega (arith, e)
numbers-above (x ∷ xs) from n (inr m) = let later = numbers-above xs (from + 1) n m in omega (arith, later)

numbers-distinct : {X : Type 0} (xs : List X) (from : ℕ) → Distinct (map (λ item. item.0) (enumerate_from from xs))
numbers-distinct [] from = tt
numbers-distinct (x ∷ xs) from = (λ m. let later = numbers-above xs (from + 1) from m in absurd (omega (arith, later)), numbers-distinct xs (from + 1))

item-passes : {X : Type 0} (test : X → Bool) (xs : List X) (from : ℕ) (item : ℕ × X) → list_all test xs ≡ true → Member (enumerate_from from xs) item → test item.1 ≡ true
item-passes test [] from item all m = absurd m
item-passes test (x ∷ xs) from item all (inl e) = ap (λ i. test i.1) e ∙ (and-parts (test x) (list_all test xs) all).0
item-passes test (x ∷ xs) from item all (inr m) = item-passes test xs (from + 1) item (and-parts (test x) (list_all test xs) all).1 m

over_fluent : (number : ℕ) (predicate : LPredicate) (b : Bool) (atom : Atom) → Member (if b then atoms_over number predicate.ranges else []) atom → atom.predicate ≡ number
over_fluent number predicate true atom m = let other = Member-from_map (λ objects. record { predicate = number; objects = objects }) (tuples (objects_of predicate.ranges)) atom m in ap (λ one. one.predicate) other.2
over_fluent number predicate false atom m = absurd m

distinct-if : {X : Type 0} (b : Bool) (xs : List X) → Distinct xs → Distinct (if b then xs else [])
distinct-if true xs h = h
distinct-if false xs h = tt

-- no fluent atom occurs twice
pub atoms-distinct : (task : LiftedTask) → are_distinct_atoms (fluent_atoms task) ≡ true
atoms-distinct task =
    let count = length task.objects in
    let one = distinct-flat (λ (item : ℕ × LPredicate). if item.1.fluent then atoms_over item.0 item.1.ranges else []) (λ (atom : Atom). atom.predicate) (λ item. item.0) (λ item atom m. over_fluent item.0 item.1 item.1.fluent atom m)
    (enumerate_from 0 task.predicates) (numbers-distinct task.predicates 0)
    (λ item m. distinct-if item.1.fluent (atoms_over item.0 item.1.ranges)
    (distinct-map (λ objects. record { predicate = item.0; objects = objects }) (λ x y e. ap (λ (atom : Atom). atom.objects) e) (tuples (objects_of item.1.ranges))
    (tuples-distinct count (objects_of item.1.ranges) (item-passes (λ predicate. are_ranges_within count predicate.ranges) task.predicates 0 item task.predicates_within m)))) in
    texts-distinct (map atom_numbers (fluent_atoms task))
    (distinct-map atom_numbers (λ x y e. let p : x.predicate ≡ y.predicate = cc in let o : x.objects ≡ y.objects = cc in λ i. record { predicate = p i; objects = o i }) (fluent_atoms task) one)

actions-distinct : (task : LiftedTask) → Distinct (map action_numbers (kept_actions task))
actions-distinct task =
    let count = length task.objects in
    let one = distinct-flat (λ (item : ℕ × LSchema). map (λ objects. record { schema = item.0; objects = objects }) (kept_args task item.1)) (λ (action : GroundAction). action.schema) (λ item. item.0)
    (λ item action m. let other = Member-from_map (λ objects. record { schema = item.0; objects = objects }) (kept_args task item.1) action m in ap (λ (one : GroundAction). one.schema) other.2)
    (enumerate_from 0 task.schemas) (numbers-distinct task.schemas 0)
    (λ item m. distinct-map (λ objects. record { schema = item.0; objects = objects }) (λ x y e. ap (λ (action : GroundAction). action.objects) e) (kept_args task item.1)
    (distinct-filter (is_kept task item.1) (tuples (objects_of item.1.ranges))
    (tuples-distinct count (objects_of item.1.ranges)
    (and-parts (are_ranges_within count item.1.ranges) _
    (and-parts (are_ranges_within count item.1.ranges && is_condition_within count task.predicates item.1.pre (objects_of item.1.ranges)) (is_effect_within count task.predicates item.1.effect (objects_of item.1.ranges))
    (item-passes (is_schema_within count task.predicates) task.schemas 0 item task.schemas_within m)).0).0))) in
    distinct-map action_numbers (λ x y e. let s : x.schema ≡ y.schema = cc in let o : x.objects ≡ y.objects = cc in λ i. record { schema = s i; objects = o i }) (kept_actions task) one

named : (task : LiftedTask) (actions : List GroundAction) (acts : List Act) → AllZip (IsActOf task) actions acts → map action_numbers actions ≡ map (λ act. action_numbers act.ground) acts
named task [] [] h = refl
named task [] (act ∷ acts) h = absurd h
named task (action ∷ actions) [] h = absurd h
named task (action ∷ actions) (act ∷ acts) h = let first = h.0.named in let rest = named task actions acts h.1 in λ i. action_numbers (sym first i) ∷ rest i

-- no two actions have the same name
pub acts-distinct : (task : LiftedTask) (acts : List Act) → AllZip (IsActOf task) (kept_actions task) acts → are_distinct_acts acts ≡ true
acts-distinct task acts are = ap are_distinct_texts (sym (named task (kept_actions task) acts are)) ∙ texts-distinct (map action_numbers (kept_actions task)) (actions-distinct task)
