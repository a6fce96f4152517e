-- Patterns over numbers are within their schemas.
use Rattle.std.proofs.Common.{◌≡◌, ◌⊎◌, inl, inr, ℕ, ◌&&◌, nat_eq, nat_lt, not, cond, Bool, true, false, List, [], ◌∷◌, Option, Some, filter, find, map, length, Contains, slice_get, get_or, refl, sym, ap, ◌∙◌, arith}
use Rattle.std.specs.List.{AllZip, list_all, list_any}
use Rattle.std.specs.Option.{option_map_or}
use Rattle.std.specs.Str.{bytes_eq}
use Rattle.std.specs.Cmp.Lexicographic.{bytes_decides}
use Rattle.std.proofs.lemmas.Bool.Decides.{nat_tests}
use Rattle.std.proofs.lemmas.List.{length-map}
use Rattle.std.proofs.lemmas.List.Quantifiers.{position-Some}
use Rattle.std.proofs.lemmas.Option.{slice_get-get_or}
use Rattle.fond_text.specs.Lists.{are_distinct_texts, each_passes}
use Rattle.fond_ast.specs.Patterns.{are_patterns_within, is_pattern_term_within, is_pattern_within, is_variable}
use Rattle.fond_ast.specs.Ranges.{objects_of}
use Rattle.fond_ast.specs.declared.files.Pattern.{Pattern}
use Rattle.fond_ast.specs.declared.files.Schema.{Schema}
use Rattle.fond_ast.specs.declared.form.LTerm.{LTerm}
use Rattle.fond_ast.specs.declared.form.LTerm.TheVariants.{Object, Variable}
use Rattle.fond_ast.specs.declared.names.Term.{Term}
use Rattle.fond_ast.specs.declared.names.TypedName.{TypedName}
use Rattle.fond_ast.specs.declared.task.LSchema.{LSchema}
use Rattle.fond_names.specs.Names.{Declarations, objects_declared}
use Rattle.fond_names.specs.Unknown.{is_sound_term}
use Rattle.fond_names.proofs.Members.{and_parts, and_both, here, there, here_or_there, some_from}
use Rattle.fond_types.specs.Meanings.{meanings}
use Rattle.fond_types.specs.Patterns.{first_place, is_sound_pattern}
use Rattle.fond_types.specs.Resolves.{IsResolvedSchema, is_pattern, is_pattern_term, is_number_of}
use Rattle.fond_types.proofs.AtomLemmas.{are_ranges_of, passes_at}
use Rattle.fond_types.proofs.FilingLemmas.{passes_counted}
use Rattle.fond_types.proofs.RangeLemmas.{length-names}
use Rattle.fond_types.proofs.SoundLemmas.{contains_mapped}

-- items that pass tests pass another one that each of the tests implies
all_passed : {A N : Type 0} (test : A → N → Bool) (other : N → Bool) (forms : List A) (items : List N) → ((form : A) (item : N) → test form item ≡ true → other item ≡ true) → each_passes (map test forms) items ≡ true →
    list_all other items ≡ true
all_passed test other [] [] so all = refl
all_passed test other [] (item ∷ items) so all = cc
all_passed test other (form ∷ forms) [] so all = cc
all_passed test other (form ∷ forms) (item ∷ items) so all =
    let both = and_parts (test form item) (each_passes (map test forms) items) all in
    and_both (other item) (list_all other items) (so form item both.0) (all_passed test other forms items so both.1)

found_is : (found : Option ℕ) (number : ℕ) → option_map_or (λ at. nat_eq at number) found false ≡ true → found ≡ Some number
found_is (Some at) number e = let same : at ≡ number = grind (arith, nat_tests, e) in ap (λ n. Some n) same
found_is found number e = cc

module _ (files : Declarations) where
  abbrev count : ℕ
  count = length (objects_declared files)

  module _ (terms : List Term) (numbers : List LTerm) (are : each_passes (map (is_pattern_term (meanings files) terms) terms) numbers ≡ true) where
    -- the term over numbers of a variable that has a first place is the variable of that number
    is_leader : (term : Term) (name : List ℕ) (number : ℕ) (one : LTerm) → first_place terms name ≡ Some number → term.variable ≡ true → term.name ≡ name → is_pattern_term (meanings files) terms term one ≡ true → is_variable number one ≡ true
    is_leader term name number (Object other) first variable named is =
        let never : false ≡ true = ap (λ b. not b) (sym variable) ∙ (and_parts (not term.variable) (is_number_of (meanings files).objects term.name other) is).0 in cc (never)
    is_leader term name number (Variable other) first variable named is =
        let place = found_is (first_place terms term.name) other (and_parts term.variable (option_map_or (λ at. nat_eq at other) (first_place terms term.name) false) is).1 in
        let equal : Some other ≡ Some number = sym place ∙ ap (first_place terms) named ∙ first in
        let same : other ≡ number = cc (equal) in
        grind (arith, nat_tests, same)

    -- a variable stands at its first place
    leads : (term : Term) (number : ℕ) → first_place terms term.name ≡ Some number → option_map_or (is_variable number) (slice_get numbers number) false ≡ true
    leads term number first =
        let at = position-Some (λ (other : Term). other.variable && bytes_eq other.name term.name) terms number term first in
        let there = get_or terms number term in
        let both = and_parts there.variable (bytes_eq there.name term.name) at.1 in
        let found = passes_at (is_pattern_term (meanings files) terms) terms numbers number there are (slice_get-get_or terms number term at.0) in
        ap (λ one. option_map_or (is_variable number) one false) found.1
        ∙ is_leader there term.name number found.0 first both.0 ((bytes_decides there.name term.name).0 both.1) found.2

    term_within : (term : Term) (number : LTerm) → is_pattern_term (meanings files) terms term number ≡ true → is_pattern_term_within count numbers number ≡ true
    term_within term (Object number) is =
        let low = (and_parts (nat_lt number (length (meanings files).objects)) _ (and_parts (not term.variable) (is_number_of (meanings files).objects term.name number) is).1).0 in
        ap (nat_lt number) (sym (length-names (λ (one : TypedName). one.name) (objects_declared files))) ∙ low
    term_within term (Variable number) is =
        leads term number (found_is (first_place terms term.name) number (and_parts term.variable (option_map_or (λ at. nat_eq at number) (first_place terms term.name) false) is).1)

  -- a pattern over numbers that has a term for each place is within
  pattern_within : (pattern : Pattern) (places : ℕ) (numbers : List LTerm) → length pattern.terms ≡ places → is_pattern (meanings files) pattern numbers ≡ true → is_pattern_within count places numbers ≡ true
  pattern_within pattern places numbers long is =
      let counted : length numbers ≡ places = passes_counted (is_pattern_term (meanings files) pattern.terms) pattern.terms numbers is ∙ long in
      and_both (nat_eq (length numbers) places) (list_all (is_pattern_term_within count numbers) numbers) (grind (arith, nat_tests, counted))
      (all_passed (is_pattern_term (meanings files) pattern.terms) (is_pattern_term_within count numbers) pattern.terms numbers (term_within pattern.terms numbers is) is)

  -- a pattern that names a schema names no other one of distinct names
  found_own : (schemas : List Schema) (schema : Schema) (name : List ℕ) → are_distinct_texts (map (λ (one : Schema). one.name) schemas) ≡ true → Contains schemas schema → schema.name ≡ name → find (λ (one : Schema). bytes_eq one.name name) schemas ≡ Some schema
  found_own [] schema name distinct within named = let low = within.1 in absurd (omega (arith, low))
  found_own (one ∷ schemas) schema name distinct within named = by (bytes_eq one.name name) refl (here_or_there one schemas schema within) (λ later. found_own schemas schema name apart.1 later named)
    where
      apart : (not (list_any (bytes_eq one.name) (map (λ (other : Schema). other.name) schemas)) ≡ true) × (are_distinct_texts (map (λ (other : Schema). other.name) schemas) ≡ true)
      apart = and_parts (not (list_any (bytes_eq one.name) (map (λ (other : Schema). other.name) schemas))) (are_distinct_texts (map (λ (other : Schema). other.name) schemas)) distinct

      by : (b : Bool) → bytes_eq one.name name ≡ b → (one ≡ schema) ⊎ Contains schemas schema → (Contains schemas schema → find (λ (other : Schema). bytes_eq other.name name) schemas ≡ Some schema) → cond b (Some one) (find (λ (other : Schema). bytes_eq other.name name) schemas) ≡ Some schema
      by true e (inl same) rest = ap (λ x. Some x) same
      by true e (inr later) rest =
          let twice = some_from (bytes_eq one.name) (map (λ (other : Schema). other.name) schemas) schema.name (contains_mapped (λ (other : Schema). other.name) schemas schema later)
          ((bytes_decides one.name schema.name).1 ((bytes_decides one.name name).0 e ∙ sym named)) in
          let never : false ≡ true = ap (λ b. not b) (sym twice) ∙ apart.0 in cc (never)
      by false e (inl same) rest =
          let never : false ≡ true = sym e ∙ (bytes_decides one.name name).1 (ap (λ (other : Schema). other.name) same ∙ named) in cc (never)
      by false e (inr later) rest = rest later

  module _ (distinct : are_distinct_texts (map (λ (one : Schema). one.name) files.domain.schemas) ≡ true) (schema : Schema) (within : Contains files.domain.schemas schema) where
    -- a sound pattern that names a schema has a term for each of its parameters
    as_many : (pattern : Pattern) → is_sound_pattern files pattern ≡ true → bytes_eq pattern.schema.name schema.name ≡ true → length pattern.terms ≡ length schema.parameters
    as_many pattern sound names =
        let named = sym ((bytes_decides pattern.schema.name schema.name).0 names) in
        let first = (and_parts (option_map_or (λ (one : Schema). nat_eq (length pattern.terms) (length one.parameters)) (find (λ (one : Schema). bytes_eq one.name pattern.schema.name) files.domain.schemas) false)
        (list_all (is_sound_term files) pattern.terms) sound).0 in
        let equal : nat_eq (length pattern.terms) (length schema.parameters) ≡ true =
        sym (ap (λ found. option_map_or (λ (one : Schema). nat_eq (length pattern.terms) (length one.parameters)) found false) (found_own files.domain.schemas schema pattern.schema.name distinct within named)) ∙ first in
        grind (arith, nat_tests, equal)

    abbrev own : List Pattern → List Pattern
    own patterns = filter (λ (pattern : Pattern). bytes_eq pattern.schema.name schema.name) patterns

    -- the patterns over numbers of a schema are within
    each_within : (patterns : List Pattern) (items : List (List LTerm)) → list_all (is_sound_pattern files) patterns ≡ true → each_passes (map (is_pattern (meanings files)) (own patterns)) items ≡ true →
        list_all (is_pattern_within count (length schema.parameters)) items ≡ true
    each_within [] [] sound are = refl
    each_within [] (item ∷ items) sound are = cc
    each_within (pattern ∷ patterns) items sound are = by (bytes_eq pattern.schema.name schema.name) refl items are (λ some. each_within patterns some both.1)
      where
        both : (is_sound_pattern files pattern ≡ true) × (list_all (is_sound_pattern files) patterns ≡ true)
        both = and_parts (is_sound_pattern files pattern) (list_all (is_sound_pattern files) patterns) sound

        by : (b : Bool) → bytes_eq pattern.schema.name schema.name ≡ b → (some : List (List LTerm)) → each_passes (map (is_pattern (meanings files)) (cond b (pattern ∷ own patterns) (own patterns))) some ≡ true →
            ((left : List (List LTerm)) → each_passes (map (is_pattern (meanings files)) (own patterns)) left ≡ true → list_all (is_pattern_within count (length schema.parameters)) left ≡ true) →
            list_all (is_pattern_within count (length schema.parameters)) some ≡ true
        by false e some passes rest = rest some passes
        by true e [] passes rest = cc
        by true e (item ∷ some) passes rest =
            let parts = and_parts (is_pattern (meanings files) pattern item) (each_passes (map (is_pattern (meanings files)) (own patterns)) some) passes in
            and_both (is_pattern_within count (length schema.parameters) item) (list_all (is_pattern_within count (length schema.parameters)) some)
            (pattern_within pattern (length schema.parameters) item (as_many pattern both.0 e) parts.0) (rest some parts.1)

    schema_within : (number : LSchema) → list_all (is_sound_pattern files) files.side.patterns ≡ true → IsResolvedSchema (meanings files) files.side schema number → are_patterns_within count number ≡ true
    schema_within number sound is =
        let counted : length (objects_of number.ranges) ≡ length number.ranges = simp length-map in
        let long : length number.ranges ≡ length schema.parameters =
        sym counted ∙ ap length (are_ranges_of files schema.parameters number.ranges is.ranges) ∙ simp length-map in
        ap (λ places. list_all (is_pattern_within count places) number.patterns) long ∙ each_within files.side.patterns number.patterns sound is.patterns

  -- the patterns over numbers of all schemas are within
  pub patterns_within : are_distinct_texts (map (λ (one : Schema). one.name) files.domain.schemas) ≡ true → list_all (is_sound_pattern files) files.side.patterns ≡ true → (schemas : List Schema) (numbers : List LSchema) →
      ((schema : Schema) → Contains schemas schema → Contains files.domain.schemas schema) → AllZip (IsResolvedSchema (meanings files) files.side) schemas numbers → list_all (are_patterns_within count) numbers ≡ true
  patterns_within distinct sound [] [] inside all = refl
  patterns_within distinct sound [] (number ∷ numbers) inside all = absurd all
  patterns_within distinct sound (schema ∷ schemas) [] inside all = absurd all
  patterns_within distinct sound (schema ∷ schemas) (number ∷ numbers) inside all =
      and_both (are_patterns_within count number) (list_all (are_patterns_within count) numbers)
      (schema_within distinct schema (inside schema (here schema schemas)) number sound all.0)
      (patterns_within distinct sound schemas numbers (λ one c. inside one (there schema schemas one c)) all.1)
