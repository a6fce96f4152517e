-- Patterns of clean files are sound, and what is known of a sound pattern.
use Rattle.std.proofs.Common.{◌≡◌, inl, inr, ◌<◌, ◌≤◌, ◌^◌, ◌||◌, nat_eq, nat_le, Bool, true, false, List, [], ◌∷◌, Option, Some, None, is_some, map, length, Contains, refl, sym, ap, ◌∙◌, subst, arith}
use Rattle.std.specs.List.{list_all}
use Rattle.std.specs.Option.{option_map_or}
use Rattle.std.specs.Str.{bytes_eq}
use Rattle.std.proofs.lemmas.Bool.Decides.{nat_tests}
use Rattle.std.proofs.lemmas.List.Elements.{Contains-append_right}
use Rattle.fond_ast.specs.Read.{has_few_variables, schema_variables}
use Rattle.fond_ast.specs.declared.files.Pattern.{Pattern}
use Rattle.fond_ast.specs.declared.files.Schema.{Schema}
use Rattle.fond_ast.specs.declared.names.Term.{Term}
use Rattle.fond_ast.specs.declared.names.TypedName.{TypedName}
use Rattle.fond_text.specs.Faults.{IsClean}
use Rattle.fond_text.specs.declared.code.TheConstants.{LONGEST_TEXT, UNKNOWN_SCHEMA, UNKNOWN_TERM, WRONG_ARITY}
use Rattle.fond_text.specs.declared.place.FileKind.TheVariants as kind
use Rattle.fond_names.specs.Faults.{StandsInNames}
use Rattle.fond_names.specs.Names.{Declarations, is_among, all_objects, first_of, schema_of, schema_names}
use Rattle.fond_names.proofs.Members.{and_parts, and_both, all_from, here, there, here_or_there, or_right}
use Rattle.fond_types.proofs.RangeLemmas.{found_passes}
use Rattle.fond_types.proofs.TermLemmas.{some_found, among_names}
use Rattle.fond_names.specs.Unknown.{is_sound_term}
use Rattle.fond_types.specs.Patterns.{is_sound_pattern}

pub contains_mapped : {X Y : Type 0} (f : X → Y) (xs : List X) (x : X) → Contains xs x → Contains (map f xs) (f x)
contains_mapped f [] x within = let low = within.1 in absurd (omega (arith, low))
contains_mapped {X} {Y} f (y ∷ xs) x within =
    elim (here_or_there y xs x within) [
      | inl same ↦ subst (λ (one : X). Contains (map f (y ∷ xs)) (f one)) same (here (f y) (map f xs))
      | inr later ↦ there (f y) (map f xs) (f x) (contains_mapped f xs x later)
    ]

module _ (files : Declarations) (clean : IsClean (StandsInNames files kind.Side)) where
  module _ (pattern : Pattern) (within : Contains files.side.patterns pattern) where
    known_schema : is_some (schema_of files.domain pattern.schema.name) ≡ true
    known_schema =
        some_found (λ (schema : Schema). bytes_eq schema.name pattern.schema.name) files.domain.schemas
        ∙ sym (among_names (λ (schema : Schema). schema.name) files.domain.schemas pattern.schema.name) ∙ by (is_among (schema_names files.domain) pattern.schema.name) refl
      where
        by : (b : Bool) → is_among (schema_names files.domain) pattern.schema.name ≡ b → b ≡ true
        by true e = refl
        by false e =
            let leaf = Contains-append_right files.side.names (map (λ (one : Pattern). one.schema) files.side.patterns) pattern.schema (contains_mapped (λ (one : Pattern). one.schema) files.side.patterns pattern within) in
            absurd (clean pattern.schema.place UNKNOWN_SCHEMA (inl (pattern.schema, leaf, e, refl, refl)))

    counted : option_map_or (λ (schema : Schema). nat_eq (length pattern.terms) (length schema.parameters)) (schema_of files.domain pattern.schema.name) false ≡ true
    counted = by (schema_of files.domain pattern.schema.name) refl
      where
        as_many : (schema : Schema) → schema_of files.domain pattern.schema.name ≡ Some schema → (b : Bool) → nat_eq (length pattern.terms) (length schema.parameters) ≡ b → b ≡ true
        as_many schema some true e = refl
        as_many schema some false e =
            absurd (clean pattern.place WRONG_ARITY (inr (pattern, within, inl (schema, some, (λ same. let again : nat_eq (length pattern.terms) (length schema.parameters) ≡ true = grind (arith, nat_tests, same) in let never : false ≡ true = sym e ∙ again in cc (never)), refl, refl))))

        by : (found : Option Schema) → schema_of files.domain pattern.schema.name ≡ found → option_map_or (λ (schema : Schema). nat_eq (length pattern.terms) (length schema.parameters)) (schema_of files.domain pattern.schema.name) false ≡ true
        by None none = let never : false ≡ true = sym (ap (λ found. is_some found) none) ∙ known_schema in absurd (cc (never))
        by (Some schema) some =
            ap (λ found. option_map_or (λ (one : Schema). nat_eq (length pattern.terms) (length one.parameters)) found false) some ∙ as_many schema some (nat_eq (length pattern.terms) (length schema.parameters)) refl

    term_sound : (term : Term) → Contains pattern.terms term → is_sound_term files term ≡ true
    term_sound term inside = by term.variable refl (first_of (all_objects files) term.name) refl
      where
        by : (b : Bool) → term.variable ≡ b → (found : Option TypedName) → first_of (all_objects files) term.name ≡ found → (term.variable || is_some (first_of (all_objects files) term.name)) ≡ true
        by true e found is = ap (λ b. b || is_some (first_of (all_objects files) term.name)) e
        by false e None none = absurd (clean term.place UNKNOWN_TERM (inr (pattern, within, inr (term, inside, e, none, refl, refl))))
        by false e (Some declared) some = or_right term.variable (is_some (first_of (all_objects files) term.name)) (ap (λ found. is_some found) some)

  -- patterns without a fault of names are sound
  pub sound_if_clean : list_all (is_sound_pattern files) files.side.patterns ≡ true
  sound_if_clean =
      all_from (is_sound_pattern files) files.side.patterns (λ pattern within.
      and_both _ (list_all (is_sound_term files) pattern.terms) (counted pattern within) (all_from (is_sound_term files) pattern.terms (term_sound pattern within)))

module _ (files : Declarations) (pattern : Pattern) (sound : is_sound_pattern files pattern ≡ true) where
  parts : (option_map_or (λ (schema : Schema). nat_eq (length pattern.terms) (length schema.parameters)) (schema_of files.domain pattern.schema.name) false ≡ true) × (list_all (is_sound_term files) pattern.terms ≡ true)
  parts = and_parts (option_map_or (λ (schema : Schema). nat_eq (length pattern.terms) (length schema.parameters)) (schema_of files.domain pattern.schema.name) false) (list_all (is_sound_term files) pattern.terms) sound

  pub sound_terms : list_all (is_sound_term files) pattern.terms ≡ true
  sound_terms = parts.1

  -- a sound pattern names a schema
  pub names_schema : schema_of files.domain pattern.schema.name ≡ None → ⊥
  names_schema none =
      let never : false ≡ true = sym (ap (λ found. option_map_or (λ (schema : Schema). nat_eq (length pattern.terms) (length schema.parameters)) found false) none) ∙ parts.0 in cc (never)

  -- a sound pattern has few terms
  pub few_terms : length pattern.terms < 2 ^ 32
  few_terms = by (schema_of files.domain pattern.schema.name) refl
    where
      by : (found : Option Schema) → schema_of files.domain pattern.schema.name ≡ found → length pattern.terms < 2 ^ 32
      by None none = absurd (names_schema none)
      by (Some schema) some =
          let counted : nat_eq (length pattern.terms) (length schema.parameters) ≡ true = sym (ap (λ found. option_map_or (λ (one : Schema). nat_eq (length pattern.terms) (length one.parameters)) found false) some) ∙ parts.0 in
          let same : length pattern.terms ≡ length schema.parameters = grind (arith, nat_tests, counted) in
          let few : nat_le (schema_variables schema) LONGEST_TEXT ≡ true = found_passes (λ (one : Schema). bytes_eq one.name pattern.schema.name) has_few_variables files.domain.schemas schema some files.domain.few_variables in
          let low : schema_variables schema ≤ LONGEST_TEXT = grind (arith, nat_tests, few) in
          omega (arith, same, low)
