-- Patterns over numbers, filed by schema.
use Rattle.std.proofs.Common.{◌≡◌, ℕ, zero, suc, ◌+◌, ◌<◌, ◌||◌, not, Bool, true, false, cond, List, [], ◌∷◌, ◌++◌, Option, Some, None, IfSome, map, filter, position, length, drop, slice_get, get_or, refl, sym, ap, ◌∙◌, arith, append-nil, length-drop}
use Rattle.std.proofs.Math.ListN.{set}
use Rattle.std.specs.List.{list_any}
use Rattle.std.specs.Str.{bytes_eq}
use Rattle.std.specs.Cmp.Lexicographic.{bytes_decides, nat_list_eq_equiv}
use Rattle.std.proofs.lemmas.List.{map-append}
use Rattle.std.proofs.lemmas.List.Elements.{filter-append}
use Rattle.fond_ast.specs.declared.files.Pattern.{Pattern}
use Rattle.fond_ast.specs.declared.files.Schema.{Schema}
use Rattle.fond_ast.specs.declared.form.LTerm.{LTerm}
use Rattle.fond_text.specs.Lists.{are_distinct_texts, each_passes}
use Rattle.fond_names.proofs.Differs.{next_left}
use Rattle.fond_names.proofs.Lookups.{found_at}
use Rattle.fond_names.proofs.Members.{and_parts, and_both, or_left, or_right}
use Rattle.fond_names.specs.Names.{is_among}
use Rattle.fond_types.proofs.AtomLemmas.{found_itself}
use Rattle.fond_types.proofs.Passing.{passes_more}
use Rattle.fond_types.specs.Patterns.{are_patterns}
use Rattle.fond_types.specs.Resolves.{Meanings, is_pattern}

abbrev name_of : Schema → List ℕ
name_of schema = schema.name

is_not : (b : Bool) → not b ≡ true → b ≡ false
is_not true e = sym e
is_not false e = refl

module _ (meanings : Meanings) (patterns : List Pattern) (pattern : Pattern) where
  abbrev before : Schema → List (List LTerm) → Bool
  before schema = are_patterns meanings patterns schema.name

  abbrev after : Schema → List (List LTerm) → Bool
  after schema = are_patterns meanings (patterns ++ pattern ∷ []) schema.name

  abbrev named : Schema → List Pattern → List Pattern
  named schema some = filter (λ (one : Pattern). bytes_eq one.schema.name schema.name) some

  named_more : (schema : Schema) (b : Bool) → bytes_eq pattern.schema.name schema.name ≡ b → named schema (patterns ++ pattern ∷ []) ≡ named schema patterns ++ cond b (pattern ∷ []) []
  named_more schema b is =
      filter-append (λ (one : Pattern). bytes_eq one.schema.name schema.name) patterns (pattern ∷ []) ∙ ap (λ own. named schema patterns ++ cond own (pattern ∷ []) []) is

  -- a schema of another name keeps its patterns
  passed_over : (schema : Schema) (numbers : List (List LTerm)) → bytes_eq pattern.schema.name schema.name ≡ false → before schema numbers ≡ true → after schema numbers ≡ true
  passed_over schema numbers other is =
      ap (λ some. each_passes (map (is_pattern meanings) some) numbers) (named_more schema false other ∙ append-nil (named schema patterns)) ∙ is

  -- the schema that the pattern names has one more
  put_last : (schema : Schema) (numbers : List (List LTerm)) (number : List LTerm) → bytes_eq pattern.schema.name schema.name ≡ true → before schema numbers ≡ true → is_pattern meanings pattern number ≡ true →
      after schema (numbers ++ number ∷ []) ≡ true
  put_last schema numbers number own is one =
      ap (λ tests. each_passes tests (numbers ++ number ∷ [])) (ap (map (is_pattern meanings)) (named_more schema true own) ∙ map-append (is_pattern meanings) (named schema patterns) (pattern ∷ []))
      ∙ passes_more (map (is_pattern meanings) (named schema patterns)) numbers (is_pattern meanings pattern) number is one

  -- schemas of other names keep their patterns
  others_passed : (schemas : List Schema) (filed : List (List (List LTerm))) → is_among (map name_of schemas) pattern.schema.name ≡ false → each_passes (map before schemas) filed ≡ true → each_passes (map after schemas) filed ≡ true
  others_passed [] [] none is = refl
  others_passed [] (numbers ∷ filed) none is = cc
  others_passed (schema ∷ schemas) [] none is = cc
  others_passed (schema ∷ schemas) (numbers ∷ filed) none is =
      let both = and_parts (before schema numbers) (each_passes (map before schemas) filed) is in
      let neither = apart (bytes_eq pattern.schema.name schema.name) (is_among (map name_of schemas) pattern.schema.name) none in
      and_both (after schema numbers) (each_passes (map after schemas) filed) (passed_over schema numbers neither.0 both.0) (others_passed schemas filed neither.1 both.1)
    where
      apart : (a b : Bool) → (a || b) ≡ false → (a ≡ false) × (b ≡ false)
      apart true b e = cc
      apart false b e = (refl, e)

  among_got : (schemas : List Schema) (at : ℕ) (text : List ℕ) → at < length schemas → IfSome (slice_get schemas at) (λ schema. bytes_eq schema.name pattern.schema.name ≡ true) → text ≡ pattern.schema.name → list_any (bytes_eq text) (map name_of schemas) ≡ true
  among_got [] at text low own same = absurd (omega (arith, low))
  among_got (schema ∷ schemas) zero text low own same =
      or_left (bytes_eq text schema.name) (list_any (bytes_eq text) (map name_of schemas)) ((bytes_decides text schema.name).1 (same ∙ sym ((bytes_decides schema.name pattern.schema.name).0 own)))
  among_got (schema ∷ schemas) (suc at) text low own same =
      or_right (bytes_eq text schema.name) (list_any (bytes_eq text) (map name_of schemas)) (among_got schemas at text (omega (arith, low)) own same)

  -- the pattern is put last in the list of its schema
  pub filed_more : (schemas : List Schema) (filed : List (List (List LTerm))) (at : ℕ) (number : List LTerm) (none : List (List LTerm)) → are_distinct_texts (map name_of schemas) ≡ true → at < length schemas →
      IfSome (slice_get schemas at) (λ schema. bytes_eq schema.name pattern.schema.name ≡ true) → is_pattern meanings pattern number ≡ true → each_passes (map before schemas) filed ≡ true →
      each_passes (map after schemas) (set filed at (get_or filed at none ++ number ∷ [])) ≡ true
  filed_more [] filed at number none distinct low own one is = absurd (omega (arith, low))
  filed_more (schema ∷ schemas) [] at number none distinct low own one is = cc
  filed_more (schema ∷ schemas) (numbers ∷ filed) zero number none distinct low own one is =
      let both = and_parts (before schema numbers) (each_passes (map before schemas) filed) is in
      let fresh = is_not (list_any (bytes_eq schema.name) (map name_of schemas)) (and_parts (not (list_any (bytes_eq schema.name) (map name_of schemas))) (are_distinct_texts (map name_of schemas)) distinct).0 in
      let same = (bytes_decides schema.name pattern.schema.name).0 own in
      and_both (after schema (numbers ++ number ∷ [])) (each_passes (map after schemas) filed) (put_last schema numbers number (nat_list_eq_equiv.symm pattern.schema.name schema.name ∙ own) both.0 one)
      (others_passed schemas filed (ap (λ (text : List ℕ). list_any (bytes_eq text) (map name_of schemas)) (sym same) ∙ fresh) both.1)
  filed_more (schema ∷ schemas) (numbers ∷ filed) (suc at) number none distinct low own one is =
      let both = and_parts (before schema numbers) (each_passes (map before schemas) filed) is in
      let apart = and_parts (not (list_any (bytes_eq schema.name) (map name_of schemas))) (are_distinct_texts (map name_of schemas)) distinct in
      and_both (after schema numbers) _ (passed_over schema numbers (other (bytes_eq pattern.schema.name schema.name) refl (is_not (list_any (bytes_eq schema.name) (map name_of schemas)) apart.0)) both.0)
      (filed_more schemas filed at number none apart.1 (omega (arith, low)) own one both.1)
    where
      other : (b : Bool) → bytes_eq pattern.schema.name schema.name ≡ b → list_any (bytes_eq schema.name) (map name_of schemas) ≡ false → b ≡ false
      other false e fresh = refl
      other true e fresh =
          let again = among_got schemas at schema.name (omega (arith, low)) own (sym ((bytes_decides pattern.schema.name schema.name).0 e)) in
          let never : true ≡ false = sym again ∙ fresh in never

-- the item at a first position passes
pub position_passes : {X : Type 0} (p : X → Bool) (xs : List X) (at : ℕ) → position p xs ≡ Some at → IfSome (slice_get xs at) (λ x. p x ≡ true)
position_passes p xs at is = by (slice_get xs at) refl
  where
    by : (found : Option _) → slice_get xs at ≡ found → IfSome found (λ x. p x ≡ true)
    by None none = tt
    by (Some x) got = found_itself p xs x (sym (found_at p xs at x is got))

module _ {A N : Type 0} (test : A → N → Bool) (forms : List A) (i : ℕ) (form : A) (got : slice_get forms i ≡ Some form) where
  -- there is an item for the next form
  pub item_left : (items : List N) → each_passes (map test (drop i forms)) (drop i items) ≡ true → i < length items
  item_left items all = by (drop i items) refl
    where
      by : (left : List N) → drop i items ≡ left → i < length items
      by [] none =
          let never : false ≡ true = sym (λ k. each_passes (map test (next_left forms i form got k)) (none k)) ∙ all in cc (never)
      by (item ∷ left) some = let long = ap length some in let short = length-drop i items in omega (arith, long, short)

  -- the next item passes the test of the next form, and so do those after it
  pub passes_taken : (items more : List N) (item : N) → drop i items ≡ item ∷ drop (i + 1) more → each_passes (map test (drop i forms)) (drop i items) ≡ true →
      (test form item ≡ true) × (each_passes (map test (drop (i + 1) forms)) (drop (i + 1) more) ≡ true)
  passes_taken items more item is all =
      and_parts (test form item) (each_passes (map test (drop (i + 1) forms)) (drop (i + 1) more)) (sym (λ k. each_passes (map test (next_left forms i form got k)) (is k)) ∙ all)

-- there are as many items as forms
pub passes_counted : {A N : Type 0} (test : A → N → Bool) (forms : List A) (items : List N) → each_passes (map test forms) items ≡ true → length items ≡ length forms
passes_counted test [] [] all = refl
passes_counted test [] (item ∷ items) all = cc
passes_counted test (form ∷ forms) [] all = cc
passes_counted test (form ∷ forms) (item ∷ items) all = ap suc (passes_counted test forms items (and_parts (test form item) (each_passes (map test forms) items) all).1)
