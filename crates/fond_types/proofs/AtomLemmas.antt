-- Sound atoms over numbers.
use Rattle.std.proofs.Common.{◌≡◌, ℕ, zero, suc, ◌<◌, ◌≤◌, ◌^◌, ◌&&◌, nat_lt, not, cond, Bool, true, false, List, [], ◌∷◌, Option, Some, None, is_some, find, map, length, slice_get, slice_index_or, refl, sym, ap, ◌∙◌, arith}
use Rattle.std.specs.List.{list_all}
use Rattle.std.specs.Option.{option_map_or}
use Rattle.std.specs.Str.{bytes_eq}
use Rattle.std.specs.Cmp.Lexicographic.{bytes_decides}
use Rattle.std.proofs.lemmas.Bool.Decides.{nat_tests}
use Rattle.fond_text.specs.Bools.{is_same}
use Rattle.fond_text.specs.Lists.{each_passes}
use Rattle.fond_text.specs.declared.code.TheConstants.{LONGEST_TEXT}
use Rattle.fond_ast.specs.Ranges.{RangeList, objects_of}
use Rattle.fond_ast.specs.Within.{is_term_within, fits_range, is_atom_within, is_fluent}
use Rattle.fond_ast.specs.declared.files.Declared.{Declared}
use Rattle.fond_ast.specs.declared.form.LAtom.{LAtom}
use Rattle.fond_ast.specs.declared.form.LTerm.{LTerm}
use Rattle.fond_ast.specs.declared.names.Kind.{Kind}
use Rattle.fond_ast.specs.declared.names.ReadAtom.{ReadAtom}
use Rattle.fond_ast.specs.declared.names.Term.{Term}
use Rattle.fond_ast.specs.declared.names.TypedName.{TypedName}
use Rattle.fond_ast.specs.declared.task.LPredicate.{LPredicate}
use Rattle.fond_kinds.specs.Kinds.{are_types}
use Rattle.fond_types.specs.Context.{is_predicate, are_predicates}
use Rattle.fond_names.specs.Faults.{declaration_of}
use Rattle.fond_types.specs.Meanings.{meanings, ranges_around, are_typed, are_typed_around, has_root}
use Rattle.fond_names.specs.Names.{Declarations, all_objects, objects_declared, predicate_of, predicates_declared}
use Rattle.fond_types.specs.Resolves.{is_number_of, is_term, is_atom, are_ranges}
use Rattle.fond_names.specs.Sites.{Scope, AnAtom, variables_of}
use Rattle.fond_types.specs.Sound.{is_known, is_fitting, is_sound, is_mentioned}
use Rattle.fond_names.specs.Subtypes.{are_misfits}
use Rattle.fond_types.proofs.Firsts.{item_of_number}
use Rattle.fond_names.proofs.Members.{and_parts, and_both}
use Rattle.fond_types.proofs.RangeLemmas.{found_passes}
use Rattle.fond_types.proofs.TermLemmas.{ranges_counted, argument_fits}

-- the arguments of a sound atom are declared
pub arguments_known : (files : Declarations) (around : Scope) (parameters : List TypedName) (terms : List Term) → each_passes (map (is_fitting files around) parameters) terms ≡ true → list_all (is_known files around) terms ≡ true
arguments_known files around [] [] e = refl
arguments_known files around [] (term ∷ terms) e = cc
arguments_known files around (parameter ∷ parameters) [] e = cc
arguments_known files around (parameter ∷ parameters) (term ∷ terms) e =
    let both = and_parts (is_fitting files around parameter term) (each_passes (map (is_fitting files around) parameters) terms) e in
    and_both (is_known files around term) (list_all (is_known files around) terms) (by (declaration_of files around term) both.0) (arguments_known files around parameters terms both.1)
  where
    by : (found : Option TypedName) → option_map_or (λ (declared : TypedName). not (are_misfits files.domain.kinds declared.kinds parameter.kinds)) found false ≡ true → is_some found ≡ true
    by None h = cc
    by (Some declared) h = refl

sound_by : (files : Declarations) (around : Scope) (atom : ReadAtom) (found : Option Declared) → predicate_of files.domain atom.name ≡ found → is_sound files (AnAtom around atom) ≡ true →
    (declared : Declared) × (predicate_of files.domain atom.name ≡ Some declared) × (each_passes (map (is_fitting files around) declared.parameters) atom.terms ≡ true)
sound_by files around atom None none e =
    let other : false ≡ true = sym (ap (λ found. option_map_or (λ (predicate : Declared). each_passes (map (is_fitting files around) predicate.parameters) atom.terms) found false) none) ∙ e in absurd (cc (other))
sound_by files around atom (Some declared) is e =
    (declared, is, sym (ap (λ found. option_map_or (λ (predicate : Declared). each_passes (map (is_fitting files around) predicate.parameters) atom.terms) found false) is) ∙ e)

-- a sound atom has a declared predicate, and its arguments fit
pub sound_atom : (files : Declarations) (around : Scope) (atom : ReadAtom) → is_sound files (AnAtom around atom) ≡ true →
    (declared : Declared) × (predicate_of files.domain atom.name ≡ Some declared) × (each_passes (map (is_fitting files around) declared.parameters) atom.terms ≡ true)
sound_atom files around atom e = sound_by files around atom (predicate_of files.domain atom.name) refl e

pub atom_known : (files : Declarations) (around : Scope) (atom : ReadAtom) → is_sound files (AnAtom around atom) ≡ true → list_all (is_known files around) atom.terms ≡ true
atom_known files around atom e = let sound = sound_atom files around atom e in arguments_known files around sound.0.parameters atom.terms sound.2

-- the item that passes the test of a form at the same index
pub passes_at : {A N : Type 0} (test : A → N → Bool) (forms : List A) (items : List N) (i : ℕ) (form : A) → each_passes (map test forms) items ≡ true → slice_get forms i ≡ Some form → (item : N) × (slice_get items i ≡ Some item) × (test form item ≡ true)
passes_at test [] items i form all got = cc
passes_at test (f ∷ forms) [] i form all got = cc
passes_at test (f ∷ forms) (item ∷ items) zero form all got =
    let same : f ≡ form = cc in (item, refl, ap (λ one. test one item) (sym same) ∙ (and_parts (test f item) (each_passes (map test forms) items) all).0)
passes_at test (f ∷ forms) (item ∷ items) (suc i) form all got = passes_at test forms items i form (and_parts (test f item) (each_passes (map test forms) items) all).1 got

ranges_are : (range : List Kind → List ℕ) (names : List TypedName) (ranges : List (List ℕ)) → each_passes (map (λ (name : TypedName). bytes_eq (range name.kinds)) names) ranges ≡ true → ranges ≡ map (λ (name : TypedName). range name.kinds) names
ranges_are range [] [] e = refl
ranges_are range [] (r ∷ ranges) e = cc
ranges_are range (name ∷ names) [] e = cc
ranges_are range (name ∷ names) (r ∷ ranges) e =
    let both = and_parts (bytes_eq (range name.kinds) r) (each_passes (map (λ (one : TypedName). bytes_eq (range one.kinds)) names) ranges) e in
    λ i. sym ((bytes_decides (range name.kinds) r).0 both.0) i ∷ ranges_are range names ranges both.1 i

-- the ranges of variables are those of their types
pub are_ranges_of : (files : Declarations) (names : List TypedName) (ranges : RangeList) → are_ranges (meanings files) names ranges ≡ true → objects_of ranges ≡ map (λ (name : TypedName). (meanings files).range name.kinds) names
are_ranges_of files names ranges e = ranges_are (meanings files).range names (objects_of ranges) e

-- what is found passes
pub found_itself : {X : Type 0} (p : X → Bool) (xs : List X) (x : X) → find p xs ≡ Some x → p x ≡ true
found_itself p [] x e = cc
found_itself p (y ∷ xs) x e = by (p y) refl e (found_itself p xs x)
  where
    by : (b : Bool) → p y ≡ b → cond b (Some y) (find p xs) ≡ Some x → (find p xs ≡ Some x → p x ≡ true) → p x ≡ true
    by true is e later = let same : y ≡ x = cc in ap p (sym same) ∙ is
    by false is e later = later e

pub same_bools : (a b : Bool) → is_same a b ≡ true → a ≡ b
same_bools true b e = sym e
same_bools false true e = cc
same_bools false false e = refl

module _ (files : Declarations) (around : Scope) (predicates : List LPredicate) (rooted : has_root files.domain.kinds ≡ true) (objects_typed : are_typed files.domain.kinds (all_objects files) ≡ true)
    (parameters_typed : list_all (λ (declared : Declared). are_typed files.domain.kinds declared.parameters) files.domain.predicates ≡ true) (resolved : are_predicates files predicates ≡ true) (lists_typed : are_typed_around files.domain.kinds around ≡ true) where
  -- arguments fit the ranges of the parameters
  pub arguments_fit : (parameters : List TypedName) (terms : List Term) (numbers : List LTerm) → are_typed files.domain.kinds parameters ≡ true → each_passes (map (is_fitting files around) parameters) terms ≡ true → each_passes (map (is_term (meanings files) around) terms) numbers ≡ true →
      each_passes (map (fits_range (length (objects_declared files)) (ranges_around (meanings files).range around)) (map (λ (name : TypedName). (meanings files).range name.kinds) parameters)) numbers ≡ true
  arguments_fit [] [] [] t f n = refl
  arguments_fit [] [] (number ∷ numbers) t f n = cc
  arguments_fit [] (term ∷ terms) numbers t f n = cc
  arguments_fit (parameter ∷ parameters) [] numbers t f n = cc
  arguments_fit (parameter ∷ parameters) (term ∷ terms) [] t f n = cc
  arguments_fit (parameter ∷ parameters) (term ∷ terms) (number ∷ numbers) t f n =
      let typed = and_parts (are_types files.domain.kinds parameter.kinds) (are_typed files.domain.kinds parameters) t in
      let fit = and_parts (is_fitting files around parameter term) (each_passes (map (is_fitting files around) parameters) terms) f in
      let numbered = and_parts (is_term (meanings files) around term number) (each_passes (map (is_term (meanings files) around) terms) numbers) n in
      and_both (fits_range (length (objects_declared files)) (ranges_around (meanings files).range around) ((meanings files).range parameter.kinds) number) _
      (argument_fits files around parameter term number rooted objects_typed lists_typed typed.0 fit.0 numbered.0).fits (arguments_fit parameters terms numbers typed.1 fit.1 numbered.1)

  -- arguments name something
  pub arguments_inside : length (variables_of around) ≤ LONGEST_TEXT → (parameters : List TypedName) (terms : List Term) (numbers : List LTerm) → are_typed files.domain.kinds parameters ≡ true → each_passes (map (is_fitting files around) parameters) terms ≡ true → each_passes (map (is_term (meanings files) around) terms) numbers ≡ true →
      list_all (is_term_within (length (objects_declared files)) (ranges_around (meanings files).range around)) numbers ≡ true
  arguments_inside few [] [] [] t f n = refl
  arguments_inside few [] [] (number ∷ numbers) t f n = cc
  arguments_inside few [] (term ∷ terms) numbers t f n = cc
  arguments_inside few (parameter ∷ parameters) [] numbers t f n = cc
  arguments_inside few (parameter ∷ parameters) (term ∷ terms) [] t f n = cc
  arguments_inside few (parameter ∷ parameters) (term ∷ terms) (number ∷ numbers) t f n =
      let typed = and_parts (are_types files.domain.kinds parameter.kinds) (are_typed files.domain.kinds parameters) t in
      let fit = and_parts (is_fitting files around parameter term) (each_passes (map (is_fitting files around) parameters) terms) f in
      let numbered = and_parts (is_term (meanings files) around term number) (each_passes (map (is_term (meanings files) around) terms) numbers) n in
      let counted = ranges_counted (meanings files).range around in
      let low : length (ranges_around (meanings files).range around) < 2 ^ 32 = omega (arith, few, counted) in
      and_both (is_term_within (length (objects_declared files)) (ranges_around (meanings files).range around) number) _
      (and_both (nat_lt (length (ranges_around (meanings files).range around)) (2 ^ 32)) _ (grind (arith, nat_tests, low)) (argument_fits files around parameter term number rooted objects_typed lists_typed typed.0 fit.0 numbered.0).inside)
      (arguments_inside few parameters terms numbers typed.1 fit.1 numbered.1)

  -- the predicate over numbers of an atom
  pub record HasPredicate (atom : ReadAtom) (number : ℕ) : Type 0 where
    pub declared : Declared
    pub named : predicate_of files.domain atom.name ≡ Some declared
    pub predicate : LPredicate
    pub has : slice_get predicates number ≡ Some predicate
    pub ranges : objects_of predicate.ranges ≡ map (λ (name : TypedName). (meanings files).range name.kinds) declared.parameters
    pub fluent : predicate.fluent ≡ is_mentioned files.domain declared.name
    pub own : declared.name ≡ atom.name
    pub typed : are_typed files.domain.kinds declared.parameters ≡ true

  pub atom_predicate : (atom : ReadAtom) (number : ℕ) (declared : Declared) → predicate_of files.domain atom.name ≡ Some declared → is_number_of (meanings files).predicates atom.name number ≡ true → HasPredicate atom number
  atom_predicate atom number declared named is =
      let both = and_parts (nat_lt number (length (meanings files).predicates)) (bytes_eq (slice_index_or (meanings files).predicates number []) atom.name) is in
      let low : number < length (meanings files).predicates = grind (arith, nat_tests, both.0) in
      let got : slice_get (predicates_declared files.domain) number ≡ Some declared = item_of_number (λ (one : Declared). one.name) files.domain.predicates number atom.name low both.1 ∙ named in
      let item = passes_at (is_predicate files) (predicates_declared files.domain) predicates number declared resolved got in
      let tests = and_parts (bytes_eq item.0.name declared.name && are_ranges (meanings files) declared.parameters item.0.ranges) (is_same item.0.fluent (is_mentioned files.domain declared.name)) item.2 in
      let first = and_parts (bytes_eq item.0.name declared.name) (are_ranges (meanings files) declared.parameters item.0.ranges) tests.0 in
      record {
        declared = declared;
        named = named;
        predicate = item.0;
        has = item.1;
        ranges = are_ranges_of files declared.parameters item.0.ranges first.1;
        fluent = same_bools item.0.fluent (is_mentioned files.domain declared.name) tests.1;
        own = (bytes_decides declared.name atom.name).0 (found_itself (λ (one : Declared). bytes_eq one.name atom.name) files.domain.predicates declared named);
        typed = found_passes (λ (one : Declared). bytes_eq one.name atom.name) (λ (one : Declared). are_typed files.domain.kinds one.parameters) files.domain.predicates declared named parameters_typed;
      }

  -- a sound atom over numbers is within
  pub atom_within : (atom : ReadAtom) (number : LAtom) → is_sound files (AnAtom around atom) ≡ true → length (variables_of around) ≤ LONGEST_TEXT → is_atom (meanings files) around atom number ≡ true →
      is_atom_within (length (objects_declared files)) predicates number (ranges_around (meanings files).range around) ≡ true
  unfolding sound_atom atom_predicate
  atom_within atom number sound few is =
      let both = and_parts (is_number_of (meanings files).predicates atom.name number.predicate) (each_passes (map (is_term (meanings files) around) atom.terms) number.terms) is in
      let fit = sound_atom files around atom sound in
      let one = atom_predicate atom number.predicate fit.0 fit.1 both.0 in
      let ranges : List (List ℕ) = ranges_around (meanings files).range around in
      and_both (list_all (is_term_within (length (objects_declared files)) ranges) number.terms) _
      (arguments_inside few fit.0.parameters atom.terms number.terms one.typed fit.2 both.1)
      (ap (λ found. option_map_or (λ (predicate : LPredicate). each_passes (map (fits_range (length (objects_declared files)) ranges) (objects_of predicate.ranges)) number.terms) found false) one.has
      ∙ ap (λ some. each_passes (map (fits_range (length (objects_declared files)) ranges) some) number.terms) one.ranges ∙ arguments_fit fit.0.parameters atom.terms number.terms one.typed fit.2 both.1)

  -- the predicate of a sound atom is fluent if and only if some effect has a literal of it
  pub atom_fluent : (atom : ReadAtom) (number : LAtom) → is_sound files (AnAtom around atom) ≡ true → is_atom (meanings files) around atom number ≡ true → is_fluent predicates number.predicate ≡ is_mentioned files.domain atom.name
  atom_fluent atom number sound is =
      let both = and_parts (is_number_of (meanings files).predicates atom.name number.predicate) (each_passes (map (is_term (meanings files) around) atom.terms) number.terms) is in
      let fit = sound_atom files around atom sound in
      let one = atom_predicate atom number.predicate fit.0 fit.1 both.0 in
      ap (λ found. option_map_or (λ (predicate : LPredicate). predicate.fluent) found false) one.has ∙ one.fluent ∙ ap (is_mentioned files.domain) one.own
