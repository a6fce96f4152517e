-- Clean declarations, and the facts of a task.
use Rattle.std.proofs.Common.{◌≡◌, inl, inr, ℕ, ◌&&◌, ◌||◌, not, cond, Bool, true, false, List, [], ◌∷◌, ◌++◌, Option, Some, None, find, map, length, Contains, refl, sym, ap, ◌∙◌, subst, append_assoc}
use Rattle.std.specs.List.{AllZip, list_all, list_any}
use Rattle.std.specs.Option.{option_map_or}
use Rattle.std.specs.Str.{bytes_eq}
use Rattle.std.specs.Cmp.Lexicographic.{bytes_decides, nat_list_eq_equiv}
use Rattle.std.proofs.lemmas.List.{map-append}
use Rattle.std.proofs.lemmas.List.Folds.{list_any-append}
use Rattle.fond_text.specs.Faults.{IsClean}
use Rattle.fond_text.specs.Lists.{each_passes, are_distinct_texts}
use Rattle.fond_text.specs.declared.code.TheConstants.{TYPE_CYCLE, REPEATED_NAME}
use Rattle.fond_ast.specs.Within.{are_ranges_within}
use Rattle.fond_ast.specs.declared.files.Declared.{Declared}
use Rattle.fond_ast.specs.declared.files.Schema.{Schema}
use Rattle.fond_ast.specs.declared.files.Side.{Side}
use Rattle.fond_ast.specs.declared.names.TypedName.{TypedName}
use Rattle.fond_ast.specs.declared.task.LPredicate.{LPredicate}
use Rattle.fond_ast.specs.declared.task.LSchema.{LSchema}
use Rattle.fond_kinds.specs.Faults.{StandsInKinds}
use Rattle.fond_kinds.specs.Kinds.{root, only_kind, is_passed_over, type_of}
use Rattle.fond_text.specs.Bools.{is_same}
use Rattle.fond_types.specs.Context.{is_predicate}
use Rattle.fond_names.specs.Faults.{IsRepeatedSchema}
use Rattle.fond_types.specs.Meanings.{meanings, has_root}
use Rattle.fond_names.specs.Names.{Declarations, is_among, objects_declared}
use Rattle.fond_types.specs.Resolves.{Meanings, are_ranges, IsResolvedPredicate, IsResolvedSchema}
use Rattle.fond_types.specs.Sound.{is_mentioned}
use Rattle.fond_types.proofs.AtomLemmas.{found_itself, same_bools}
use Rattle.fond_names.proofs.Differs.{same_text}
use Rattle.fond_names.proofs.Members.{and_parts, and_both, here, there, or_left, or_right}
use Rattle.fond_types.proofs.WithinLemmas.{ranges_within}

found_contained : {X : Type 0} (p : X → Bool) (xs : List X) (x : X) → find p xs ≡ Some x → Contains xs x
found_contained p [] x e = cc
found_contained p (y ∷ xs) x e = by (p y) e (found_contained p xs x)
  where
    by : (b : Bool) → cond b (Some y) (find p xs) ≡ Some x → (find p xs ≡ Some x → Contains xs x) → Contains (y ∷ xs) x
    by true e later = let same : y ≡ x = cc in subst (λ one. Contains (y ∷ xs) one) same (here y xs)
    by false e later = there y xs x (later e)

-- without a cycle `object` has no other parent
pub rooted_if_clean : (types : List TypedName) → IsClean (StandsInKinds types) → has_root types ≡ true
rooted_if_clean types clean = by (type_of types root) refl
  where
    same : (declared : TypedName) → type_of types root ≡ Some declared → (b : Bool) → bytes_eq (only_kind declared) root ≡ b → b ≡ true
    same declared is true e = refl
    same declared is false e =
        let own = and_parts (bytes_eq declared.name root) (not (is_passed_over declared)) (found_itself (λ (one : TypedName). bytes_eq one.name root && not (is_passed_over one)) types declared is) in
        absurd (clean declared.place TYPE_CYCLE (inl (
          declared,
          inr (
            found_contained (λ (one : TypedName). bytes_eq one.name root && not (is_passed_over one)) types declared is,
            (bytes_decides declared.name root).0 own.0,
            λ kind. let other : false ≡ true = sym e ∙ (bytes_decides (only_kind declared) root).1 kind in cc (other),
          ),
          refl,
          refl,
        )))

    by : (found : Option TypedName) → type_of types root ≡ found → has_root types ≡ true
    by None none = ap (λ found. bytes_eq (option_map_or only_kind found root) root) none ∙ same_text root
    by (Some declared) is = ap (λ found. bytes_eq (option_map_or only_kind found root) root) is ∙ same declared is (bytes_eq (only_kind declared) root) refl

module _ (files : Declarations) where
  -- predicates that pass the test are the declared ones
  pub resolved_predicates : (declared : List Declared) (numbers : List LPredicate) → each_passes (map (is_predicate files) declared) numbers ≡ true → AllZip (IsResolvedPredicate (meanings files) files.domain.schemas) declared numbers
  resolved_predicates [] [] e = tt
  resolved_predicates [] (number ∷ numbers) e = cc
  resolved_predicates (one ∷ declared) [] e = cc
  resolved_predicates (one ∷ declared) (number ∷ numbers) e =
      let both = and_parts (is_predicate files one number) (each_passes (map (is_predicate files) declared) numbers) e in
      let tests = and_parts (bytes_eq number.name one.name && are_ranges (meanings files) one.parameters number.ranges) (is_same number.fluent (is_mentioned files.domain one.name)) both.0 in
      let first = and_parts (bytes_eq number.name one.name) (are_ranges (meanings files) one.parameters number.ranges) tests.0 in (
        record {
          named = (bytes_decides number.name one.name).0 first.0;
          ranges = first.1;
          fluent = same_bools number.fluent (is_mentioned files.domain one.name) tests.1;
        },
        resolved_predicates declared numbers both.1,
      )

  pub predicate_names : (declared : List Declared) (numbers : List LPredicate) → AllZip (IsResolvedPredicate (meanings files) files.domain.schemas) declared numbers → map (λ (number : LPredicate). number.name) numbers ≡ map (λ (one : Declared). one.name) declared
  predicate_names [] [] all = refl
  predicate_names [] (number ∷ numbers) all = absurd all
  predicate_names (one ∷ declared) [] all = absurd all
  predicate_names (one ∷ declared) (number ∷ numbers) all = λ i. all.0.named i ∷ predicate_names declared numbers all.1 i

  pub predicates_rise : (declared : List Declared) (numbers : List LPredicate) → AllZip (IsResolvedPredicate (meanings files) files.domain.schemas) declared numbers → list_all (λ (number : LPredicate). are_ranges_within (length (objects_declared files)) number.ranges) numbers ≡ true
  predicates_rise [] [] all = refl
  predicates_rise [] (number ∷ numbers) all = absurd all
  predicates_rise (one ∷ declared) [] all = absurd all
  predicates_rise (one ∷ declared) (number ∷ numbers) all =
      and_both (are_ranges_within (length (objects_declared files)) number.ranges) _ (ranges_within files one.parameters number.ranges all.0.ranges) (predicates_rise declared numbers all.1)

pub numbered_names : (all : Meanings) (side : Side) (schemas : List Schema) (numbers : List LSchema) → AllZip (IsResolvedSchema all side) schemas numbers → map (λ (number : LSchema). number.name) numbers ≡ map (λ (schema : Schema). schema.name) schemas
numbered_names all side [] [] zip = refl
numbered_names all side [] (number ∷ numbers) zip = absurd zip
numbered_names all side (schema ∷ schemas) [] zip = absurd zip
numbered_names all side (schema ∷ schemas) (number ∷ numbers) zip = λ i. zip.0.named i ∷ numbered_names all side schemas numbers zip.1 i

-- a list cut at an item that has a name
record HasName (name : List ℕ) (schemas : List Schema) : Type 0 where
  pub before : List Schema
  pub item : Schema
  pub after : List Schema
  pub split : schemas ≡ before ++ item ∷ after
  pub same : bytes_eq name item.name ≡ true

has_name : (name : List ℕ) (schemas : List Schema) → list_any (bytes_eq name) (map (λ (schema : Schema). schema.name) schemas) ≡ true → HasName name schemas
has_name name [] e = cc
has_name name (schema ∷ schemas) e = by (bytes_eq name schema.name) refl e (has_name name schemas)
  where
    by : (b : Bool) → bytes_eq name schema.name ≡ b → (b || list_any (bytes_eq name) (map (λ (one : Schema). one.name) schemas)) ≡ true → (list_any (bytes_eq name) (map (λ (one : Schema). one.name) schemas) ≡ true → HasName name schemas) → HasName name (schema ∷ schemas)
    by true same h later = record { before = []; item = schema; after = schemas; split = refl; same = same }
    by false differs h later = let rest = later h in record { before = schema ∷ rest.before; item = rest.item; after = rest.after; split = ap (λ some. schema ∷ some) rest.split; same = rest.same }

distinct_after : (before schemas : List Schema) → IsClean (IsRepeatedSchema (before ++ schemas)) → are_distinct_texts (map (λ (schema : Schema). schema.name) schemas) ≡ true
distinct_after before [] clean = refl
distinct_after before (schema ∷ schemas) clean =
    and_both (not (list_any (bytes_eq schema.name) (map (λ (one : Schema). one.name) schemas))) (are_distinct_texts (map (λ (one : Schema). one.name) schemas))
    (by (list_any (bytes_eq schema.name) (map (λ (one : Schema). one.name) schemas)) refl)
    (distinct_after (before ++ schema ∷ []) schemas (subst (λ (all : List Schema). IsClean (IsRepeatedSchema all)) (sym (append_assoc before (schema ∷ []) schemas)) clean))
  where
    by : (b : Bool) → list_any (bytes_eq schema.name) (map (λ (one : Schema). one.name) schemas) ≡ b → not b ≡ true
    by false e = refl
    by true e =
        let cut = has_name schema.name schemas e in
        let among : is_among (map (λ (one : Schema). one.name) (before ++ schema ∷ cut.before)) cut.item.name ≡ true =
        ap (λ names. list_any (bytes_eq cut.item.name) names) (map-append (λ (one : Schema). one.name) before (schema ∷ cut.before))
        ∙ list_any-append (bytes_eq cut.item.name) (map (λ (one : Schema). one.name) before) (map (λ (one : Schema). one.name) (schema ∷ cut.before))
        ∙ or_right (list_any (bytes_eq cut.item.name) (map (λ (one : Schema). one.name) before)) _ (or_left (bytes_eq cut.item.name schema.name) _ (nat_list_eq_equiv.symm cut.item.name schema.name ∙ cut.same)) in
        absurd (clean cut.item.place REPEATED_NAME (
          record {
            before = before ++ schema ∷ cut.before;
            item = cut.item;
            after = cut.after;
            split = ap (λ some. before ++ schema ∷ some) cut.split ∙ sym (append_assoc before (schema ∷ cut.before) (cut.item ∷ cut.after));
            has = (among, refl);
          },
          refl,
        ))

-- schemas without a repeated name have distinct names
pub distinct_schemas : (schemas : List Schema) → IsClean (IsRepeatedSchema schemas) → are_distinct_texts (map (λ (schema : Schema). schema.name) schemas) ≡ true
distinct_schemas schemas clean = distinct_after [] schemas clean
