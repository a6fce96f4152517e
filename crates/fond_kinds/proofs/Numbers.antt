-- The tables of types: the numbers of names, first declarations and parents.
use Rattle.std.proofs.Common.{◌≡◌, ◌≢◌, ◌⊎◌, ℕ, zero, suc, ◌+◌, ◌*◌, ◌<◌, ◌≤◌, ◌||◌, ◌&&◌, not, nat_lt, Bool, true, false, List, [], ◌∷◌, ◌++◌, Option, Some, None, length, get_or, slice_get, drop, replicate, cond, map, refl, sym, ap, ◌∙◌, subst, zero-add, append_assoc, inl, inr, arith}
use Rattle.std.specs.Prelude.{option_and_then, slice_index_or, slice_set, find, position, is_none, if◌then◌else◌}
use Rattle.std.specs.List.{list_any, flat_map, position_from}
use Rattle.std.proofs.lemmas.Iterator.Adapters.{position_from-zero}
use Rattle.std.specs.Option.{option_or, option_map_or}
use Rattle.std.specs.Str.{bytes_eq}
use Rattle.std.specs.Cmp.Lexicographic.{bytes_decides}
use Rattle.std.proofs.lemmas.Bool.{cases_eq, cases_order, lt-ltb}
use Rattle.std.proofs.lemmas.List.{get_or-set_same, get_or-set_other, length-set, get_or_past, get_or-replicate, length-replicate}
use Rattle.std.proofs.Math.ListN.{length-map}
use Rattle.std.proofs.lemmas.List.Sums.{list_all-from_AllPass}
use Rattle.std.proofs.lemmas.Grind.{common_steps}
use Rattle.std.proofs.lemmas.List.{at_drop_more}
use Rattle.std.proofs.lemmas.Option.{slice_get_within, get_or_from_slice_get, slice_get-get_or}
use Rattle.fond_ast.specs.declared.names.TypedName.{TypedName}
use Rattle.fond_store.specs.Texts.{number_beside}
use Rattle.fond_kinds.specs.Kinds.{root, only_kind, is_passed_over, declares, type_of, parent_of}
use Rattle.fond_kinds.specs.Parents.{are_within}
use Rattle.fond_kinds.specs.Tables.{type_names, number_of, put_first, firsts_with}
use Rattle.fond_kinds.proofs.Types.{number_within, same_name, known, some_is, or-true, root_number}

-- the names of a declaration among all names of types
pub names_at : (types : List TypedName) (i : ℕ) (declared : TypedName) → slice_get types i ≡ Some declared
    → (slice_get (flat_map (λ one. one.name ∷ only_kind one ∷ []) types) (2 * i) ≡ Some declared.name) × (slice_get (flat_map (λ one. one.name ∷ only_kind one ∷ []) types) (2 * i + 1) ≡ Some (only_kind declared))
names_at [] i declared is = cc
names_at (one ∷ types) zero declared is = let same : one ≡ declared = cc in (ap (λ z. Some z.name) same, ap (λ z. Some (only_kind z)) same)
names_at (one ∷ types) (suc i) declared is =
    let later = names_at types i declared is in
    let first : 2 * suc i ≡ suc (suc (2 * i)) = omega arith in
    let second : 2 * suc i + 1 ≡ suc (suc (2 * i + 1)) = omega arith in
    (ap (λ n. slice_get (flat_map (λ one. one.name ∷ only_kind one ∷ []) (one ∷ types)) n) first ∙ later.0, ap (λ n. slice_get (flat_map (λ one. one.name ∷ only_kind one ∷ []) (one ∷ types)) n) second ∙ later.1)

pub name_at : (types : List TypedName) (i : ℕ) (declared : TypedName) → slice_get types i ≡ Some declared → slice_get (type_names types) (2 * i + 1) ≡ Some declared.name
name_at types i declared is = let next : 2 * i + 1 ≡ suc (2 * i) = omega arith in ap (λ n. slice_get (type_names types) n) next ∙ (names_at types i declared is).0

pub kind_at : (types : List TypedName) (i : ℕ) (declared : TypedName) → slice_get types i ≡ Some declared → slice_get (type_names types) (2 * i + 1 + 1) ≡ Some (only_kind declared)
kind_at types i declared is = let next : 2 * i + 1 + 1 ≡ suc (2 * i + 1) = omega arith in ap (λ n. slice_get (type_names types) n) next ∙ (names_at types i declared is).1

pub names_long : (types : List TypedName) → length (type_names types) ≡ 2 * length types + 1
names_long [] = refl
names_long (one ∷ types) = let later : length (type_names types) ≡ 2 * length types + 1 = names_long types in omega (arith, later)

-- the first index of a declaration of a type, among those from an index on
abbrev pub first_from : List TypedName → ℕ → List ℕ → Option ℕ
first_from types i name = position_from (declares name) i (drop i types)

-- the indexes of the first declarations before an index, together with the rest, are those of all
pub record AreFirsts (types : List TypedName) (firsts : List (Option ℕ)) (i : ℕ) : Type 0 where
  pub over : length firsts ≡ length (type_names types)
  pub whole : (name : List ℕ) (number : ℕ) → number_of types name ≡ Some number → option_or (slice_index_or firsts number None) (first_from types i name) ≡ first_from types 0 name

pub drop_at : {X : Type 0} (xs : List X) (i : ℕ) (x : X) → slice_get xs i ≡ Some x → drop i xs ≡ x ∷ drop (i + 1) xs
drop_at xs i x at = at_drop_more (λ rest. rest) xs i x (slice_get_within xs i x at) ∙ ap (λ y. y ∷ drop (i + 1) xs) (get_or_from_slice_get xs i x x at)

-- a list that is made element by element goes on with the image of the next element
pub map_next : {X Y : Type 0} (f : X → Y) (made next all : List Y) (xs : List X) (i : ℕ) (d : X) (y : Y) → i < length xs → y ≡ f (get_or xs i d) → next ≡ made ++ y ∷ [] →
    made ++ map f (drop i xs) ≡ all → next ++ map f (drop (i + 1) xs) ≡ all
map_next f made next all xs i d y within image pushed before =
    ap (λ l. l ++ map f (drop (i + 1) xs)) (pushed ∙ ap (λ z. made ++ z ∷ []) image) ∙ append_assoc made (f (get_or xs i d) ∷ []) (map f (drop (i + 1) xs))
    ∙ ap (λ l. made ++ l) (sym (at_drop_more (map f) xs i d within)) ∙ before

bool_cases : (b : Bool) → (b ≡ true) ⊎ (b ≡ false)
bool_cases true = inl refl
bool_cases false = inr refl

none_or_some : {X : Type 0} (o : Option X) → (o ≡ None) ⊎ ((x : X) × (o ≡ Some x))
none_or_some None = inl refl
none_or_some (Some x) = inr (x, refl)

module _ (types : List TypedName) (numbers : List (List ℕ × ℕ)) (numbered : (name : List ℕ) → number_beside numbers name ≡ number_of types name) where
  and-false : (b : Bool) → (b && false) ≡ false
  and-false true = refl
  and-false false = refl

  and-true : (b : Bool) → (b && true) ≡ b
  and-true true = refl
  and-true false = refl

  module _ (firsts : List (Option ℕ)) (i : ℕ) (declared : TypedName) (is : slice_get types i ≡ Some declared) (are : AreFirsts types firsts i) where
    rest_is : (name : List ℕ) → first_from types i name ≡ cond (declares name declared) (Some i) (first_from types (i + 1) name)
    rest_is name = ap (position_from (declares name) i) (drop_at types i declared is)

    passes : (name : List ℕ) → declares name declared ≡ false → first_from types i name ≡ first_from types (i + 1) name
    passes name off = rest_is name ∙ ap (λ b. cond b (Some i) (first_from types (i + 1) name)) off

    takes : (name : List ℕ) → declares name declared ≡ true → first_from types i name ≡ Some i
    takes name on = rest_is name ∙ ap (λ b. cond b (Some i) (first_from types (i + 1) name)) on

    passed : is_passed_over declared ≡ true → AreFirsts types firsts (i + 1)
    passed over = record {
      over = are.over;
      whole = λ name number known.
          let off : declares name declared ≡ false = ap (λ b. bytes_eq declared.name name && not b) over ∙ and-false (bytes_eq declared.name name) in
          ap (λ o. option_or (slice_index_or firsts number None) o) (sym (passes name off)) ∙ are.whole name number known;
    }

    module _ (on : is_passed_over declared ≡ false) (number : ℕ) (known : number_of types declared.name ≡ Some number) where
      its : declares declared.name declared ≡ true
      its = ap (λ b. bytes_eq declared.name declared.name && not b) on ∙ and-true (bytes_eq declared.name declared.name) ∙ (bytes_decides declared.name declared.name).1 refl

      others : (name : List ℕ) (other : ℕ) → number_of types name ≡ Some other → other ≢ number → declares name declared ≡ false
      others name other other_known differ = elim (bool_cases (bytes_eq declared.name name)) [
        | inl same ↦
            let equal : declared.name ≡ name = (bytes_decides declared.name name).0 same in
            let clash : Some other ≡ Some number = sym other_known ∙ ap (number_of types) (sym equal) ∙ known in
            let is_same : other ≡ number = cc in absurd (differ is_same)
        | inr off ↦ ap (λ b. b && not (is_passed_over declared)) off
      ]

      -- an earlier declaration stays the first
      kept : (at : ℕ) → slice_index_or firsts number None ≡ Some at → AreFirsts types firsts (i + 1)
      kept at there = record {
        over = are.over;
        whole = λ name other other_known. elim (cases_eq other number) [
          | inl same ↦
              let first : slice_index_or firsts other None ≡ Some at = ap (λ n. slice_index_or firsts n None) same ∙ there in
              ap (λ o. option_or o (first_from types (i + 1) name)) first ∙ sym (ap (λ o. option_or o (first_from types i name)) first) ∙ are.whole name other other_known
          | inr differ ↦ ap (λ o. option_or (slice_index_or firsts other None) o) (sym (passes name (others name other other_known differ))) ∙ are.whole name other other_known
        ];
      }

      -- the declaration becomes the first
      put : slice_index_or firsts number None ≡ None → AreFirsts types (slice_set firsts number (Some i)) (i + 1)
      put none = record {
        over = length-set firsts number (Some i) ∙ are.over;
        whole = λ name other other_known. elim (cases_eq other number) [
          | inl same ↦
              let first : slice_index_or (slice_set firsts number (Some i)) other None ≡ Some i = ap (λ n. slice_index_or (slice_set firsts number (Some i)) n None) same ∙ get_or-set_same firsts number (Some i) None inside in
              let equal : name ≡ declared.name = same_name types name declared.name number (other_known ∙ ap (λ n. Some n) same) known in
              let before : first_from types i name ≡ Some i = takes name (subst (λ z. declares z declared ≡ true) (sym equal) its) in
              let empty : slice_index_or firsts other None ≡ None = ap (λ n. slice_index_or firsts n None) same ∙ none in
              ap (λ o. option_or o (first_from types (i + 1) name)) first ∙ sym before ∙ sym (ap (λ o. option_or o (first_from types i name)) empty) ∙ are.whole name other other_known
          | inr differ ↦
              ap (λ o. option_or o (first_from types (i + 1) name)) (get_or-set_other firsts number other (Some i) None differ)
              ∙ ap (λ o. option_or (slice_index_or firsts other None) o) (sym (passes name (others name other other_known differ))) ∙ are.whole name other other_known
        ];
      }
        where
          inside : number < length firsts
          inside = let low : number < length (type_names types) = number_within types declared.name number known in let same : length firsts ≡ length (type_names types) = are.over in omega arith

-- some item passes a test that an item passes
pub any_at : {X : Type 0} (p : X → Bool) (xs : List X) (i : ℕ) (x : X) → slice_get xs i ≡ Some x → p x ≡ true → list_any p xs ≡ true
any_at p [] i x is pass = cc
any_at p (y ∷ ys) zero x is pass = let same : y ≡ x = cc in ap (λ b. b || list_any p ys) (ap p same ∙ pass)
any_at p (y ∷ ys) (suc i) x is pass = ap (λ b. p y || b) (any_at p ys i x is pass) ∙ or-true (p y)

-- a declared type has a number
pub declared_numbered : (types : List TypedName) (i : ℕ) (declared : TypedName) → slice_get types i ≡ Some declared → (number : ℕ) × (number_of types declared.name ≡ Some number)
declared_numbered types i declared is =
    let itself : bytes_eq declared.name declared.name ≡ true = (bytes_decides declared.name declared.name).1 refl in
    let any = any_at (λ one. bytes_eq one.name declared.name || bytes_eq (only_kind one) declared.name) types i declared is (ap (λ b. b || bytes_eq (only_kind declared) declared.name) itself) in
    some_is (number_of types declared.name) (known types declared.name ∙ ap (λ b. bytes_eq declared.name root || b) any ∙ or-true (bytes_eq declared.name root))

-- one more declaration is looked at
pub firsts_more : (types : List TypedName) (numbers : List (List ℕ × ℕ)) (firsts : List (Option ℕ)) (i : ℕ) (declared : TypedName) → ((name : List ℕ) → number_beside numbers name ≡ number_of types name) → slice_get types i ≡ Some declared
    → AreFirsts types firsts i → AreFirsts types (firsts_with numbers firsts declared i) (i + 1)
firsts_more types numbers firsts i declared numbered is are = by (is_passed_over declared) refl
  where
    has : (number : ℕ) × (number_of types declared.name ≡ Some number)
    has = declared_numbered types i declared is

    inside : nat_lt has.0 (length firsts) ≡ true
    inside = let low : has.0 < length (type_names types) = number_within types declared.name has.0 has.1 in let same : length firsts ≡ length (type_names types) = are.over in lt-ltb has.0 (length firsts) (omega arith)

    placed : put_first firsts i (number_beside numbers declared.name) ≡ (if is_none (slice_index_or firsts has.0 None) then slice_set firsts has.0 (Some i) else firsts)
    placed = ap (put_first firsts i) (numbered declared.name ∙ has.1) ∙ ap (λ b. if b && is_none (slice_index_or firsts has.0 None) then slice_set firsts has.0 (Some i) else firsts) inside

    by : (b : Bool) → is_passed_over declared ≡ b → AreFirsts types (firsts_with numbers firsts declared i) (i + 1)
    by true on = subst (λ z. AreFirsts types z (i + 1)) (sym (ap (λ b. if b then firsts else put_first firsts i (number_beside numbers declared.name)) on)) (passed types numbers numbered firsts i declared is are on)
    by false off =
        subst (λ z. AreFirsts types z (i + 1)) (sym (ap (λ b. if b then firsts else put_first firsts i (number_beside numbers declared.name)) off ∙ placed)) (elim (none_or_some (slice_index_or firsts has.0 None)) [
          | inl none ↦ subst (λ z. AreFirsts types z (i + 1)) (sym (ap (λ o. if is_none o then slice_set firsts has.0 (Some i) else firsts) none)) (put types numbers numbered firsts i declared is are off has.0 has.1 none)
          | inr found ↦ subst (λ z. AreFirsts types z (i + 1)) (sym (ap (λ o. if is_none o then slice_set firsts has.0 (Some i) else firsts) found.1)) (kept types numbers numbered firsts i declared is are off has.0 has.1 found.0 found.1)
        ])

abbrev no_index : Option ℕ
no_index = None

-- before any declaration there is none
nothing : (n number : ℕ) → slice_index_or (replicate n (no_index)) number None ≡ no_index
nothing n number = elim (cases_order number n) [
  | inl same ↦ past (omega arith)
  | inr rest ↦ elim rest [ inl low ↦ get_or-replicate n number no_index None low | inr late ↦ past (omega arith) ]
]
  where
    past : n ≤ number → slice_index_or (replicate n no_index) number None ≡ no_index
    past late = let long : length (replicate n no_index) ≤ number = rw length-replicate late in get_or_past (replicate n no_index) number None long

pub firsts_none : (types : List TypedName) (firsts : List (Option ℕ)) → firsts ≡ replicate (2 * length types + 1) None → AreFirsts types firsts 0
firsts_none types firsts empty = record {
  over = ap length empty ∙ length-replicate (2 * length types + 1) None ∙ sym (names_long types);
  whole = λ name number known. ap (λ o. option_or o (first_from types 0 name)) (ap (λ z. slice_index_or z number None) empty ∙ nothing (2 * length types + 1) number);
}

-- after the last declaration each type has its first one
pub firsts_all : (types : List TypedName) (firsts : List (Option ℕ)) (i : ℕ) → length types ≤ i → AreFirsts types firsts i → (name : List ℕ) (number : ℕ) → number_of types name ≡ Some number → slice_index_or firsts number None ≡ position (declares name) types
firsts_all types firsts i end are name number known =
    let none : drop i types ≡ [] = grind (arith, common_steps) in
    sym (or_nothing (slice_index_or firsts number None)) ∙ sym (ap (λ rest. option_or (slice_index_or firsts number None) (position_from (declares name) i rest)) none) ∙ are.whole name number known
    ∙ sym (position_from-zero (declares name) types)
  where
    or_nothing : (first : Option ℕ) → option_or first None ≡ first
    or_nothing None = refl
    or_nothing (Some declared) = refl

-- what is found is at the first index
module _ {X : Type 0} (p : X → Bool) (all : List X) where
  found_from : (xs : List X) (i : ℕ) → ((k : ℕ) → slice_get all (i + k) ≡ slice_get xs k) → option_and_then (λ k. slice_get all k) (position_from p i xs) ≡ find p xs
  found_from [] i at = refl
  found_from (x ∷ xs) i at =
      let first : slice_get all i ≡ Some x = ap (slice_get all) (omega arith) ∙ at zero in
      by x xs i first (p x) (found_from xs (i + 1) (λ k. ap (slice_get all) (omega arith) ∙ at (suc k)))
    where
      by : (x : X) (xs : List X) (i : ℕ) → slice_get all i ≡ Some x → (b : Bool) → option_and_then (λ k. slice_get all k) (position_from p (i + 1) xs) ≡ find p xs
          → option_and_then (λ k. slice_get all k) (cond b (Some i) (position_from p (i + 1) xs)) ≡ cond b (Some x) (find p xs)
      by x xs i first true later = first
      by x xs i first false later = later

  pub find_at : option_and_then (λ k. slice_get all k) (position p all) ≡ find p all
  find_at = ap (λ o. option_and_then (λ k. slice_get all k) o) (position_from-zero p all) ∙ found_from all 0 (λ k. ap (slice_get all) (zero-add k))

-- the number of the parent in a first declaration
abbrev pub parent_number : List TypedName → List (List ℕ × ℕ) → Option ℕ → Option ℕ
parent_number types numbers first = option_map_or (λ declared. number_beside numbers (only_kind declared)) (option_and_then (λ at. slice_get types at) first) (Some 0)

-- the parents by number are the numbers of the parents
pub parents_ascend : (types : List TypedName) (numbers : List (List ℕ × ℕ)) (firsts : List (Option ℕ)) → ((name : List ℕ) → number_beside numbers name ≡ number_of types name)
    → ((name : List ℕ) (number : ℕ) → number_of types name ≡ Some number → slice_index_or firsts number None ≡ position (declares name) types)
    → (name : List ℕ) (number : ℕ) → number_of types name ≡ Some number → parent_number types numbers (slice_index_or firsts number None) ≡ number_of types (parent_of types name)
parents_ascend types numbers firsts numbered declared name number known =
    ap (λ o. option_map_or (λ one. number_beside numbers (only_kind one)) o (Some 0)) (ap (λ o. option_and_then (λ at. slice_get types at) o) (declared name number known) ∙ find_at (declares name) types) ∙ by (type_of types name)
  where
    by : (o : Option TypedName) → option_map_or (λ one. number_beside numbers (only_kind one)) o (Some 0) ≡ number_of types (option_map_or only_kind o root)
    by None = sym (root_number types)
    by (Some one) = numbered (only_kind one)

-- the number of a parent is one of the numbers of types
parent_low : (types : List TypedName) (numbers : List (List ℕ × ℕ)) → ((name : List ℕ) → number_beside numbers name ≡ number_of types name) → (o : Option TypedName) (m : ℕ)
    → option_map_or (λ one. number_beside numbers (only_kind one)) o (Some 0) ≡ Some m → m < length (type_names types)
parent_low types numbers numbered None m is = number_within types root m (root_number types ∙ is)
parent_low types numbers numbered (Some one) m is = number_within types (only_kind one) m (sym (numbered (only_kind one)) ∙ is)

-- what is mapped at an index of a list
pub map_at : {A B : Type 0} (of : A → B) (xs : List A) (k : ℕ) (d : B) (e : A) → k < length xs → get_or (map of xs) k d ≡ of (get_or xs k e)
map_at of [] k d e low = absurd (omega arith)
map_at of (x ∷ xs) zero d e low = refl
map_at of (x ∷ xs) (suc k) d e low = map_at of xs k d e (omega arith)

-- each parent is one of the numbers
pub parents_within : (types : List TypedName) (numbers : List (List ℕ × ℕ)) (firsts : List (Option ℕ)) → ((name : List ℕ) → number_beside numbers name ≡ number_of types name) → length firsts ≡ length (type_names types)
    → (parents : List (Option ℕ)) → parents ≡ map (parent_number types numbers) firsts → are_within parents ≡ true
parents_within types numbers firsts numbered long parents all = list_all-from_AllPass (λ parent. option_map_or (λ number. nat_lt number (length parents)) parent true) parents (λ k d within. by k d within (get_or parents k d) refl)
  where
    by : (k : ℕ) (d : Option ℕ) → k < length parents → (o : Option ℕ) → get_or parents k d ≡ o → option_map_or (λ number. nat_lt number (length parents)) o true ≡ true
    by k d within None is = refl
    by k d within (Some m) is =
        let same : get_or parents k None ≡ get_or parents k d = get_or_from_slice_get parents k (get_or parents k d) None (slice_get-get_or parents k d within) in
        let same_long : length parents ≡ length firsts = ap length all ∙ rw length-map refl in
        let inside : k < length firsts = omega arith in
        let its : parent_number types numbers (get_or firsts k None) ≡ Some m = sym (map_at (parent_number types numbers) firsts k None None inside) ∙ ap (λ z. get_or z k None) (sym all) ∙ same ∙ is in
        let low : m < length (type_names types) = parent_low types numbers numbered (option_and_then (λ at. slice_get types at) (get_or firsts k None)) m its in
        let count : length parents ≡ length firsts = ap length all ∙ rw length-map refl in
        lt-ltb m (length parents) (omega arith)
