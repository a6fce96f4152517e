-- What terms over numbers stand for.
use Rattle.std.proofs.Common.{◌≡◌, ◌⊎◌, inl, inr, ℕ, zero, suc, ◌+◌, ◌<◌, ◌≤◌, ◌^◌, ◌&&◌, ◌||◌, nat_lt, not, Bool, true, false, cond, ltb, List, [], ◌∷◌, ◌++◌, Option, Some, None, is_some, find, position, map, length, slice_get, slice_index_or, refl, sym, ap, ◌∙◌, arith, length-append}
use Rattle.std.specs.Prelude.{◌==◌, if◌then◌else◌, option_map}
use Rattle.std.specs.List.{list_any, list_all, position_or_len}
use Rattle.std.specs.Option.{option_map_or, option_or}
use Rattle.std.specs.Str.{bytes_eq}
use Rattle.std.specs.Cmp.Lexicographic.{nat_list_eq_equiv}
use Rattle.std.proofs.lemmas.Bool.Decides.{nat_tests}
use Rattle.std.proofs.lemmas.List.Folds.{find-append, list_all-append}
use Rattle.fond_ast.specs.Ranges.{is_among as among_range}
use Rattle.fond_ast.specs.Read.{has_one_kind}
use Rattle.fond_ast.specs.Within.{term_objects, is_term_within, fits_range}
use Rattle.fond_ast.specs.declared.form.LTerm.{LTerm}
use Rattle.fond_ast.specs.declared.form.LTerm.TheVariants.{Object, Variable}
use Rattle.fond_ast.specs.declared.names.Kind.{Kind}
use Rattle.fond_ast.specs.declared.names.Term.{Term}
use Rattle.fond_ast.specs.declared.names.TypedName.{TypedName}
use Rattle.fond_kinds.specs.Kinds.{root, first_kind, are_types}
use Rattle.fond_text.specs.declared.code.TheConstants.{LONGEST_TEXT}
use Rattle.fond_names.specs.Faults.{declaration_of}
use Rattle.fond_types.specs.Kept.{is_of, range_by}
use Rattle.fond_types.specs.Meanings.{meanings, ranges_around, are_typed, are_typed_around, has_root}
use Rattle.fond_names.specs.Names.{Declarations, is_among, all_objects, first_of, objects_declared, firsts}
use Rattle.fond_types.specs.Resolves.{is_number_of, is_term, placed_or, variable_number}
use Rattle.fond_names.specs.Same.{kind_names}
use Rattle.fond_names.specs.Sites.{Scope, variables_of, variable_of}
use Rattle.fond_types.specs.Sound.{is_fitting}
use Rattle.fond_names.specs.Subtypes.{is_above, links_of, is_subtype, is_below_some, are_misfits}
use Rattle.fond_names.proofs.Differs.{same_text}
use Rattle.fond_types.proofs.Firsts.{find-firsts, item_of_number}
use Rattle.fond_names.proofs.Lookups.{found_at, found_none}
use Rattle.fond_names.proofs.Members.{and_parts, and_both, or_left, or_cases}
use Rattle.fond_types.proofs.RangeLemmas.{found_passes, got_some, length-names, range_named}
use Rattle.fond_types.proofs.Subsets.{numbers_within, number_among, of_fitting}

-- something is found if and only if some item passes
pub some_found : {X : Type 0} (p : X → Bool) (xs : List X) → is_some (find p xs) ≡ list_any p xs
some_found p [] = refl
some_found p (x ∷ xs) = by (p x) (some_found p xs)
  where
    by : (b : Bool) → is_some (find p xs) ≡ list_any p xs → is_some (cond b (Some x) (find p xs)) ≡ (b || list_any p xs)
    by true later = refl
    by false later = later

pub among_names : {X : Type 0} (name : X → List ℕ) (xs : List X) (wanted : List ℕ) → is_among (map name xs) wanted ≡ list_any (λ x. bytes_eq (name x) wanted) xs
among_names name [] wanted = refl
among_names name (x ∷ xs) wanted = λ i. nat_list_eq_equiv.symm wanted (name x) i || among_names name xs wanted i

-- a name has a first item if and only if it is the name of one of the first items
pub first_among : {X : Type 0} (name : X → List ℕ) (xs : List X) (wanted : List ℕ) → is_some (find (λ x. bytes_eq (name x) wanted) xs) ≡ is_among (map name (firsts name xs)) wanted
first_among name xs wanted =
    ap (λ found. is_some found) (sym (find-firsts name wanted xs)) ∙ some_found (λ x. bytes_eq (name x) wanted) (firsts name xs) ∙ sym (among_names name (firsts name xs) wanted)

-- a variable without a number is not declared
pub no_variable : (around : Scope) (name : List ℕ) → variable_number around name ≡ None → variable_of around name ≡ None
no_variable [] name e = refl
no_variable (names ∷ outer) name e = by (position (λ (declared : TypedName). bytes_eq declared.name name) names) refl e (no_variable outer name)
  where
    by : (found : Option ℕ) → position (λ (declared : TypedName). bytes_eq declared.name name) names ≡ found → placed_or found (length (variables_of outer)) (variable_number outer name) ≡ None → (variable_number outer name ≡ None → variable_of outer name ≡ None) → variable_of (names ∷ outer) name ≡ None
    by (Some at) is e later = cc
    by None is e later =
        find-append (λ (declared : TypedName). bytes_eq declared.name name) names (variables_of outer)
        ∙ ap (λ first. option_or first (variable_of outer name)) (sym (found_none (λ (declared : TypedName). bytes_eq declared.name name) names is)) ∙ later e

get_after : {X : Type 0} (xs ys : List X) (at : ℕ) → slice_get (xs ++ ys) (length xs + at) ≡ slice_get ys at
get_after [] ys at = let none : 0 + at ≡ at = omega arith in ap (slice_get ys) none
get_after (x ∷ xs) ys at = let more : suc (length xs) + at ≡ suc (length xs + at) = omega arith in ap (slice_get ((x ∷ xs) ++ ys)) more ∙ get_after xs ys at

get_before : {X : Type 0} (xs ys : List X) (at : ℕ) → at < length xs → slice_get (xs ++ ys) at ≡ slice_get xs at
get_before [] ys at low = absurd (omega (arith, low))
get_before (x ∷ xs) ys zero low = refl
get_before (x ∷ xs) ys (suc at) low = get_before xs ys at (omega (arith, low))

get_mapped : {X Y : Type 0} (f : X → Y) (xs : List X) (at : ℕ) → slice_get (map f xs) at ≡ option_map f (slice_get xs at)
get_mapped f [] at = refl
get_mapped f (x ∷ xs) zero = refl
get_mapped f (x ∷ xs) (suc at) = get_mapped f xs at

length_mapped : {X Y : Type 0} (f : X → Y) (xs : List X) → length (map f xs) ≡ length xs
length_mapped f [] = refl
length_mapped f (x ∷ xs) = ap suc (length_mapped f xs)

placed : (found : Option ℕ) (count : ℕ) (other : Option ℕ) (number : ℕ) → placed_or found count other ≡ Some number → ((at : ℕ) × (found ≡ Some at) × (number ≡ count + at)) ⊎ (other ≡ Some number)
placed None count other number e = inr e
placed (Some at) count other number e = inl (at, refl, cc)

-- a position is below the length
position_low : {X : Type 0} (p : X → Bool) (xs : List X) (at : ℕ) → position p xs ≡ Some at → at < length xs
position_low p xs at is = by (ltb (position_or_len p xs) (length xs)) refl is
  where
    by : (b : Bool) → ltb (position_or_len p xs) (length xs) ≡ b → cond b (Some (position_or_len p xs)) None ≡ Some at → at < length xs
    by true low e = let same : position_or_len p xs ≡ at = cc in grind (arith, nat_tests)
    by false low e = cc

no_hole : {X : Type 0} (p : X → Bool) (xs : List X) (at : ℕ) → position p xs ≡ Some at → slice_get xs at ≡ None → ⊥
no_hole p xs at is none =
    let some = got_some xs at (position_low p xs at is) in
    let other : Some some.0 ≡ None = sym some.1 ∙ none in cc (other)

-- the number of a variable is below the number of variables
number_low : (around : Scope) (name : List ℕ) (number : ℕ) → variable_number around name ≡ Some number → number < length (variables_of around)
number_low [] name number e = cc
number_low (names ∷ outer) name number e =
    let all = length-append names (variables_of outer) in
    elim (placed (position (λ (declared : TypedName). bytes_eq declared.name name) names) (length (variables_of outer)) (variable_number outer name) number e) [
      | inl here ↦ (let low = position_low (λ (declared : TypedName). bytes_eq declared.name name) names here.0 here.1 in let place = here.2 in omega (arith, all, low, place))
      | inr later ↦ (let low = number_low outer name number later in omega (arith, all, low))
    ]

module _ (range : List Kind → List ℕ) where
  -- each variable around a place has a range
  pub ranges_counted : (around : Scope) → length (ranges_around range around) ≡ length (variables_of around)
  ranges_counted [] = refl
  ranges_counted (names ∷ outer) =
      let one = ranges_counted outer in
      let two = length-append (ranges_around range outer) (map (λ (name : TypedName). range name.kinds) names) in
      let three = length_mapped (λ (name : TypedName). range name.kinds) names in
      let four = length-append names (variables_of outer) in
      omega (arith, one, two, three, four)

  -- the range at the number of a variable is that of its declaration
  pub range_at : (around : Scope) (name : List ℕ) (number : ℕ) → variable_number around name ≡ Some number → slice_get (ranges_around range around) number ≡ option_map (λ declared. range declared.kinds) (variable_of around name)
  range_at [] name number e = cc
  range_at (names ∷ outer) name number e = by (position (λ (declared : TypedName). bytes_eq declared.name name) names) refl e (range_at outer name number)
    where
      whole : variable_of (names ∷ outer) name ≡ option_or (first_of names name) (variable_of outer name)
      whole = find-append (λ (declared : TypedName). bytes_eq declared.name name) names (variables_of outer)

      here : (at : ℕ) → position (λ (declared : TypedName). bytes_eq declared.name name) names ≡ Some at → (found : Option TypedName) → slice_get names at ≡ found → option_map (λ (declared : TypedName). range declared.kinds) found ≡ option_map (λ (declared : TypedName). range declared.kinds) (variable_of (names ∷ outer) name)
      here at is None got = absurd (no_hole (λ (declared : TypedName). bytes_eq declared.name name) names at is got)
      here at is (Some declared) got =
          ap (λ found. option_map (λ (one : TypedName). range one.kinds) found) (ap (λ first. option_or first (variable_of outer name)) (found_at (λ (one : TypedName). bytes_eq one.name name) names at declared is got) ∙ sym whole)

      by : (found : Option ℕ) → position (λ (declared : TypedName). bytes_eq declared.name name) names ≡ found → placed_or found (length (variables_of outer)) (variable_number outer name) ≡ Some number →
          (variable_number outer name ≡ Some number → slice_get (ranges_around range outer) number ≡ option_map (λ declared. range declared.kinds) (variable_of outer name)) →
          slice_get (ranges_around range outer ++ map (λ (declared : TypedName). range declared.kinds) names) number ≡ option_map (λ declared. range declared.kinds) (variable_of (names ∷ outer) name)
      by (Some at) is e later =
          let same : length (variables_of outer) + at ≡ number = cc in
          let counted = ranges_counted outer in
          let place : number ≡ length (ranges_around range outer) + at = omega (arith, same, counted) in
          ap (slice_get (ranges_around range outer ++ map (λ (declared : TypedName). range declared.kinds) names)) place
          ∙ get_after (ranges_around range outer) (map (λ (declared : TypedName). range declared.kinds) names) at ∙ get_mapped (λ (declared : TypedName). range declared.kinds) names at
          ∙ here at is (slice_get names at) refl
      by None is e later =
          let none = sym (found_none (λ (declared : TypedName). bytes_eq declared.name name) names is) in
          let got = later e in
          let counted = ranges_counted outer in
          let low = number_low outer name number e in
          get_before (ranges_around range outer) (map (λ (declared : TypedName). range declared.kinds) names) number (omega (arith, counted, low))
          ∙ got ∙ ap (λ found. option_map (λ (one : TypedName). range one.kinds) found) (sym (whole ∙ ap (λ first. option_or first (variable_of outer name)) none))

same_from_test : (one other : ℕ) → (one == other) ≡ true → one ≡ other
same_from_test one other e = grind (arith, nat_tests)

-- an object with one type is of that type
of_own : (types : List TypedName) (object : TypedName) → has_one_kind object ≡ true → is_of types (kind_names object.kinds) object ≡ true
of_own types object one = by object.kinds refl (grind (arith, nat_tests, one))
  where
    by : (kinds : List Kind) → object.kinds ≡ kinds → length kinds ≡ 1 → list_any (is_subtype types (first_kind kinds)) (kind_names kinds) ≡ true
    by [] is e = cc
    by (kind ∷ kinds) is e =
        or_left (is_subtype types kind.name kind.name) (list_any (is_subtype types kind.name) (kind_names kinds))
        (or_left (bytes_eq kind.name kind.name || is_above (length (links_of types kind.name)) (links_of types kind.name) kind.name kind.name) (bytes_eq kind.name root) (or_left (bytes_eq kind.name kind.name) (is_above (length (links_of types kind.name)) (links_of types kind.name) kind.name kind.name) (same_text kind.name)))

-- the objects for which a term may stand are among those of its declaration
pub record StandsFor (count : ℕ) (around : List (List ℕ)) (number : LTerm) (range : List ℕ) : Type 0 where
  pub objects : List ℕ
  pub has : term_objects count around number ≡ Some objects
  pub within : list_all (among_range range) objects ≡ true

module _ (files : Declarations) (around : Scope) (term : Term) (declared : TypedName) (known : declaration_of files around term ≡ Some declared) where
  stands_object : (number : ℕ) → is_term (meanings files) around term (Object number) ≡ true → StandsFor (length (objects_declared files)) (ranges_around (meanings files).range around) (Object number) ((meanings files).range declared.kinds)
  stands_object number is =
      let objects = objects_declared files in
      let both = and_parts (not term.variable) (is_number_of (meanings files).objects term.name number) is in
      let own = and_parts (nat_lt number (length (meanings files).objects)) (bytes_eq (slice_index_or (meanings files).objects number []) term.name) both.1 in
      let constant : term.variable ≡ false = not_true term.variable both.0 in
      let first : first_of (all_objects files) term.name ≡ Some declared = sym (ap (λ b. if b then variable_of around term.name else first_of (all_objects files) term.name) constant) ∙ known in
      let low : number < length (meanings files).objects = grind (arith, nat_tests, own.0) in
      let got : slice_get objects number ≡ Some declared = item_of_number (λ (one : TypedName). one.name) (all_objects files) number term.name low own.1 ∙ first in
      let counted = length-names (λ (one : TypedName). one.name) objects in
      let inside : nat_lt number (length objects) ≡ true = grind (arith, nat_tests, low, counted) in
      let one : has_one_kind declared ≡ true =
      found_passes (λ (other : TypedName). bytes_eq other.name term.name) has_one_kind (all_objects files) declared first
      (list_all-append has_one_kind files.domain.constants files.problem.objects ∙ and_both (list_all has_one_kind files.domain.constants) (list_all has_one_kind files.problem.objects) files.domain.one_kind files.problem.one_kind) in
      let zero_more : 0 + number ≡ number = omega arith in
      let among : among_range (range_by files (kind_names declared.kinds)) number ≡ true =
      ap (among_range (range_by files (kind_names declared.kinds))) (sym zero_more) ∙ number_among files.domain.kinds (kind_names declared.kinds) 0 objects number declared got (of_own files.domain.kinds declared one) in
      record {
        objects = number ∷ [];
        has = ap (λ b. if b then Some (number ∷ []) else None) inside;
        within = and_both (among_range ((meanings files).range declared.kinds) number) true (ap (λ range. among_range range number) (range_named files declared.kinds) ∙ among) refl;
      }
    where
      not_true : (b : Bool) → not b ≡ true → b ≡ false
      not_true true e = sym e
      not_true false e = refl

  stands_variable : (number : ℕ) → is_term (meanings files) around term (Variable number) ≡ true → StandsFor (length (objects_declared files)) (ranges_around (meanings files).range around) (Variable number) ((meanings files).range declared.kinds)
  stands_variable number is =
      let both = and_parts term.variable (option_map_or (λ other. other == number) (variable_number around term.name) false) is in
      let here : variable_of around term.name ≡ Some declared = sym (ap (λ b. if b then variable_of around term.name else first_of (all_objects files) term.name) both.0) ∙ known in
      let numbered : variable_number around term.name ≡ Some number = some_same (variable_number around term.name) both.1 in
      let range = (meanings files).range declared.kinds in
      record {
        objects = range;
        has = range_at (meanings files).range around term.name number numbered ∙ ap (λ found. option_map (λ (one : TypedName). (meanings files).range one.kinds) found) here;
        within =
            ap (λ some. list_all (among_range some) some) (range_named files declared.kinds)
            ∙ numbers_within files.domain.kinds (kind_names declared.kinds) (kind_names declared.kinds) 0 (objects_declared files) (λ object of. of);
      }
    where
      some_same : (found : Option ℕ) → option_map_or (λ other. other == number) found false ≡ true → found ≡ Some number
      some_same None e = cc
      some_same (Some other) e = ap (λ n. Some n) (same_from_test other number e)

  pub stands_for : (number : LTerm) → is_term (meanings files) around term number ≡ true → StandsFor (length (objects_declared files)) (ranges_around (meanings files).range around) number ((meanings files).range declared.kinds)
  stands_for (Object number) is = stands_object number is
  stands_for (Variable number) is = stands_variable number is

among_all : (range : List ℕ) (wider : List ℕ) (number : ℕ) → list_all (among_range wider) range ≡ true → among_range range number ≡ true → among_range wider number ≡ true
among_all [] wider number all is = cc
among_all (other ∷ range) wider number all is =
    let both = and_parts (among_range wider other) (list_all (among_range wider) range) all in
    elim (or_cases (other == number) (among_range range number) is) [
      | inl same ↦ ap (among_range wider) (sym (same_from_test other number same)) ∙ both.0
      | inr later ↦ among_all range wider number both.1 later
    ]

all_through : (range wider objects : List ℕ) → list_all (among_range wider) range ≡ true → list_all (among_range range) objects ≡ true → list_all (among_range wider) objects ≡ true
all_through range wider [] all is = refl
all_through range wider (object ∷ objects) all is =
    let both = and_parts (among_range range object) (list_all (among_range range) objects) is in
    and_both (among_range wider object) (list_all (among_range wider) objects) (among_all range wider object all both.0) (all_through range wider objects all both.1)

-- the types of the declaration of a term are declared
pub typed_term : (files : Declarations) (around : Scope) (term : Term) (declared : TypedName) → declaration_of files around term ≡ Some declared → are_typed files.domain.kinds (all_objects files) ≡ true → are_typed_around files.domain.kinds around ≡ true →
    are_types files.domain.kinds declared.kinds ≡ true
typed_term files around term declared known objects lists = by term.variable refl
  where
    flat : (some : Scope) → are_typed_around files.domain.kinds some ≡ true → list_all (λ (one : TypedName). are_types files.domain.kinds one.kinds) (variables_of some) ≡ true
    flat [] e = refl
    flat (names ∷ outer) e =
        let both = and_parts (are_typed files.domain.kinds names) (are_typed_around files.domain.kinds outer) e in
        list_all-append (λ (one : TypedName). are_types files.domain.kinds one.kinds) names (variables_of outer) ∙ and_both (are_typed files.domain.kinds names) (list_all (λ (one : TypedName). are_types files.domain.kinds one.kinds) (variables_of outer)) both.0 (flat outer both.1)

    by : (b : Bool) → term.variable ≡ b → are_types files.domain.kinds declared.kinds ≡ true
    by true is =
        found_passes (λ (one : TypedName). bytes_eq one.name term.name) (λ (one : TypedName). are_types files.domain.kinds one.kinds) (variables_of around) declared
        (sym (ap (λ b. if b then variable_of around term.name else first_of (all_objects files) term.name) is) ∙ known) (flat around lists)
    by false is =
        found_passes (λ (one : TypedName). bytes_eq one.name term.name) (λ (one : TypedName). are_types files.domain.kinds one.kinds) (all_objects files) declared
        (sym (ap (λ b. if b then variable_of around term.name else first_of (all_objects files) term.name) is) ∙ known) objects

not_bad : (a b f : Bool) → a ≡ true → b ≡ true → not (a && b && not f) ≡ true → f ≡ true
not_bad true true true p q e = refl
not_bad true true false p q e = e
not_bad true false f p q e = cc
not_bad false b f p q e = cc

-- an argument over numbers fits the range of its parameter
pub record FitsParameter (files : Declarations) (around : Scope) (parameter : TypedName) (number : LTerm) : Type 0 where
  pub inside : is_some (term_objects (length (objects_declared files)) (ranges_around (meanings files).range around) number) ≡ true
  pub fits : fits_range (length (objects_declared files)) (ranges_around (meanings files).range around) ((meanings files).range parameter.kinds) number ≡ true

pub argument_fits : (files : Declarations) (around : Scope) (parameter : TypedName) (term : Term) (number : LTerm) → has_root files.domain.kinds ≡ true → are_typed files.domain.kinds (all_objects files) ≡ true → are_typed_around files.domain.kinds around ≡ true →
    are_types files.domain.kinds parameter.kinds ≡ true → is_fitting files around parameter term ≡ true → is_term (meanings files) around term number ≡ true → FitsParameter files around parameter number
argument_fits files around parameter term number rooted objects lists typed fitting is = by (declaration_of files around term) refl fitting
  where
    by : (found : Option TypedName) → declaration_of files around term ≡ found → option_map_or (λ (declared : TypedName). not (are_misfits files.domain.kinds declared.kinds parameter.kinds)) found false ≡ true → FitsParameter files around parameter number
    by None none e = cc
    by (Some declared) known e =
        let stands = stands_for files around term declared known number is in
        let own = typed_term files around term declared known objects lists in
        let fit : list_all (λ (kind : Kind). is_below_some files.domain.kinds kind.name parameter.kinds) declared.kinds ≡ true = not_bad (are_types files.domain.kinds declared.kinds) (are_types files.domain.kinds parameter.kinds) (list_all (λ (kind : Kind). is_below_some files.domain.kinds kind.name parameter.kinds) declared.kinds) own typed e in
        let wider : list_all (among_range (range_by files (kind_names parameter.kinds))) (range_by files (kind_names declared.kinds)) ≡ true =
        numbers_within files.domain.kinds (kind_names declared.kinds) (kind_names parameter.kinds) 0 (objects_declared files) (λ object of. of_fitting files.domain.kinds rooted object declared.kinds parameter.kinds fit of) in
        let part : list_all (among_range ((meanings files).range parameter.kinds)) ((meanings files).range declared.kinds) ≡ true = (λ i. list_all (among_range (range_named files parameter.kinds i)) (range_named files declared.kinds i)) ∙ wider in
        record {
          inside = ap (λ found. is_some found) stands.has;
          fits = ap (λ found. option_map_or (list_all (among_range ((meanings files).range parameter.kinds))) found false) stands.has ∙ all_through ((meanings files).range declared.kinds) ((meanings files).range parameter.kinds) stands.objects part stands.within;
        }

-- a declared term over numbers is within
pub term_within : (files : Declarations) (around : Scope) (term : Term) (number : LTerm) → is_some (declaration_of files around term) ≡ true → is_term (meanings files) around term number ≡ true → length (variables_of around) ≤ LONGEST_TEXT →
    is_term_within (length (objects_declared files)) (ranges_around (meanings files).range around) number ≡ true
term_within files around term number known is few = by (declaration_of files around term) refl known
  where
    by : (found : Option TypedName) → declaration_of files around term ≡ found → is_some found ≡ true → is_term_within (length (objects_declared files)) (ranges_around (meanings files).range around) number ≡ true
    by None none e = cc
    by (Some declared) some e =
        let stands = stands_for files around term declared some number is in
        let counted = ranges_counted (meanings files).range around in
        let low : length (ranges_around (meanings files).range around) < 2 ^ 32 = omega (arith, few, counted) in
        and_both (nat_lt (length (ranges_around (meanings files).range around)) (2 ^ 32)) _ (grind (arith, nat_tests, low)) (ap (λ found. is_some found) stands.has)
