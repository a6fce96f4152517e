-- What is written has one number: names, terms, atoms and ranges.
use Rattle.std.proofs.Common.{◌≡◌, ℕ, zero, suc, ◌<◌, ◌∙◌, nat_lt, Bool, true, false, not, List, [], ◌∷◌, Option, Some, None, length, map, slice_index_or, refl, sym, ap, arith}
use Rattle.std.specs.Prelude.{◌==◌}
use Rattle.std.specs.List.{list_any}
use Rattle.std.specs.Option.{option_map_or}
use Rattle.std.specs.Str.{bytes_eq}
use Rattle.std.specs.Cmp.Lexicographic.{bytes_decides}
use Rattle.std.proofs.lemmas.Bool.Decides.{nat_tests}
use Rattle.fond_text.specs.Lists.{each_passes, are_distinct_texts}
use Rattle.fond_text.specs.declared.atom.Atom.{Atom}
use Rattle.fond_ast.specs.Ranges.{RangeList, objects_of}
use Rattle.fond_ast.specs.declared.names.ReadAtom.{ReadAtom}
use Rattle.fond_ast.specs.declared.names.Term.{Term}
use Rattle.fond_ast.specs.declared.names.TypedName.{TypedName}
use Rattle.fond_ast.specs.declared.form.LAtom.{LAtom}
use Rattle.fond_ast.specs.declared.form.LTerm.{LTerm}
use Rattle.fond_ast.specs.declared.form.LTerm.TheVariants.{Object, Variable}
use Rattle.fond_types.specs.Resolves.{Meanings, is_number_of, is_term, is_atom, is_ground_atom, are_ranges, variable_number}
use Rattle.fond_names.specs.Sites.{Scope}
use Rattle.fond_names.proofs.Members.{and_parts, or_left, or_right}

-- a text with an index is one of the texts
any_at : (text : List ℕ) (texts : List (List ℕ)) (i : ℕ) → i < length texts → text ≡ slice_index_or texts i [] → list_any (bytes_eq text) texts ≡ true
any_at text [] i low e = absurd (omega (arith, low))
any_at text (first ∷ texts) zero low e = or_left (bytes_eq text first) (list_any (bytes_eq text) texts) ((bytes_decides text first).1 e)
any_at text (first ∷ texts) (suc i) low e = or_right (bytes_eq text first) (list_any (bytes_eq text) texts) (any_at text texts i (omega (arith, low)) e)

-- a text that is none of the texts is at no index
not_any : (text : List ℕ) (texts : List (List ℕ)) (i : ℕ) → not (list_any (bytes_eq text) texts) ≡ true → i < length texts → text ≡ slice_index_or texts i [] → ⊥
not_any text texts i none low e = let clash : false ≡ true = sym (ap not (any_at text texts i low e)) ∙ none in cc (clash)

-- a text has one index among distinct texts
one_index : (texts : List (List ℕ)) (i j : ℕ) → are_distinct_texts texts ≡ true → i < length texts → j < length texts → slice_index_or texts i [] ≡ slice_index_or texts j [] → i ≡ j
one_index [] i j distinct low below e = absurd (omega (arith, low))
one_index (first ∷ texts) zero zero distinct low below e = refl
one_index (first ∷ texts) zero (suc j) distinct low below e = absurd (not_any first texts j (and_parts (not (list_any (bytes_eq first) texts)) (are_distinct_texts texts) distinct).0 (omega (arith, below)) e)
one_index (first ∷ texts) (suc i) zero distinct low below e = absurd (not_any first texts i (and_parts (not (list_any (bytes_eq first) texts)) (are_distinct_texts texts) distinct).0 (omega (arith, low)) (sym e))
one_index (first ∷ texts) (suc i) (suc j) distinct low below e =
    ap (λ n. suc n) (one_index texts i j (and_parts (not (list_any (bytes_eq first) texts)) (are_distinct_texts texts) distinct).1 (omega (arith, low)) (omega (arith, below)) e)

-- a name has one number
pub one_number : (names : List (List ℕ)) (name : List ℕ) (one other : ℕ) → are_distinct_texts names ≡ true → is_number_of names name one ≡ true → is_number_of names name other ≡ true → one ≡ other
one_number names name one other distinct h k =
    let first = and_parts (nat_lt one (length names)) (bytes_eq (slice_index_or names one []) name) h in
    let second = and_parts (nat_lt other (length names)) (bytes_eq (slice_index_or names other []) name) k in
    let is = first.0 in
    let also = second.0 in
    let low : one < length names = grind (arith, nat_tests, is) in
    let below : other < length names = grind (arith, nat_tests, also) in
    one_index names one other distinct low below ((bytes_decides (slice_index_or names one []) name).0 first.1 ∙ sym ((bytes_decides (slice_index_or names other []) name).0 second.1))

-- lists whose items pass the same tests are one list if each test passes on one item
pub one_list : {X A : Type 0} (test : X → A → Bool) → ((x : X) (one other : A) → test x one ≡ true → test x other ≡ true → one ≡ other) →
    (forms : List X) (items others : List A) → each_passes (map test forms) items ≡ true → each_passes (map test forms) others ≡ true → items ≡ others
one_list test same [] [] [] h k = refl
one_list test same [] [] (other ∷ others) h k = cc
one_list test same [] (item ∷ items) others h k = cc
one_list test same (form ∷ forms) [] others h k = cc
one_list test same (form ∷ forms) (item ∷ items) [] h k = cc
one_list test same (form ∷ forms) (item ∷ items) (other ∷ others) h k =
    let first = and_parts (test form item) (each_passes (map test forms) items) h in
    let second = and_parts (test form other) (each_passes (map test forms) others) k in
    λ i. same form item other first.0 second.0 i ∷ one_list test same forms items others first.1 second.1 i

-- variables have one list of the objects of their ranges
pub one_range : (meanings : Meanings) (names : List TypedName) (ranges others : RangeList) → are_ranges meanings names ranges ≡ true → are_ranges meanings names others ≡ true → objects_of ranges ≡ objects_of others
one_range meanings names ranges others =
    one_list (λ (name : TypedName). bytes_eq (meanings.range name.kinds)) (λ name one other h k. sym ((bytes_decides (meanings.range name.kinds) one).0 h) ∙ (bytes_decides (meanings.range name.kinds) other).0 k) names (objects_of ranges) (objects_of others)

-- the number that an option has is one
pub only_some : (found : Option ℕ) (one other : ℕ) → option_map_or (λ n. n == one) found false ≡ true → option_map_or (λ n. n == other) found false ≡ true → one ≡ other
only_some None one other h k = cc
only_some (Some n) one other h k = grind (arith, nat_tests, h, k)

-- a test does not pass and fail
pub not_both : (b : Bool) → not b ≡ true → b ≡ true → ⊥
not_both true h k = let clash : false ≡ true = h in cc (clash)
not_both false h k = cc

module _ (meanings : Meanings) (predicates : are_distinct_texts meanings.predicates ≡ true) (objects : are_distinct_texts meanings.objects ≡ true) where
  -- a term has one number
  pub one_term : (around : Scope) (term : Term) (one other : LTerm) → is_term meanings around term one ≡ true → is_term meanings around term other ≡ true → one ≡ other
  one_term around term (Object one) (Object other) h k =
      ap (λ n. Object n) (one_number meanings.objects term.name one other objects (and_parts (not term.variable) (is_number_of meanings.objects term.name one) h).1 (and_parts (not term.variable) (is_number_of meanings.objects term.name other) k).1)
  one_term around term (Object one) (Variable other) h k =
      absurd (not_both term.variable (and_parts (not term.variable) (is_number_of meanings.objects term.name one) h).0 (and_parts term.variable (option_map_or (λ n. n == other) (variable_number around term.name) false) k).0)
  one_term around term (Variable one) (Object other) h k =
      absurd (not_both term.variable (and_parts (not term.variable) (is_number_of meanings.objects term.name other) k).0 (and_parts term.variable (option_map_or (λ n. n == one) (variable_number around term.name) false) h).0)
  one_term around term (Variable one) (Variable other) h k =
      ap (λ n. Variable n) (only_some (variable_number around term.name) one other (and_parts term.variable (option_map_or (λ n. n == one) (variable_number around term.name) false) h).1
      (and_parts term.variable (option_map_or (λ n. n == other) (variable_number around term.name) false) k).1)

  -- an atom has one atom over numbers
  pub one_atom : (around : Scope) (atom : ReadAtom) (one other : LAtom) → is_atom meanings around atom one ≡ true → is_atom meanings around atom other ≡ true → one ≡ other
  one_atom around atom one other h k =
      let first = and_parts (is_number_of meanings.predicates atom.name one.predicate) (each_passes (map (is_term meanings around) atom.terms) one.terms) h in
      let second = and_parts (is_number_of meanings.predicates atom.name other.predicate) (each_passes (map (is_term meanings around) atom.terms) other.terms) k in
      let number = one_number meanings.predicates atom.name one.predicate other.predicate predicates first.0 second.0 in
      let terms = one_list (is_term meanings around) (one_term around) atom.terms one.terms other.terms first.1 second.1 in
      λ i. record { predicate = number i; terms = terms i }

  -- an atom without variables has one ground atom
  pub one_ground : (atom : ReadAtom) (one other : Atom) → is_ground_atom meanings atom one ≡ true → is_ground_atom meanings atom other ≡ true → one ≡ other
  one_ground atom one other h k =
      let first = and_parts (is_number_of meanings.predicates atom.name one.predicate) (each_passes (map (λ (term : Term). is_number_of meanings.objects term.name) atom.terms) one.objects) h in
      let second = and_parts (is_number_of meanings.predicates atom.name other.predicate) (each_passes (map (λ (term : Term). is_number_of meanings.objects term.name) atom.terms) other.objects) k in
      let number = one_number meanings.predicates atom.name one.predicate other.predicate predicates first.0 second.0 in
      let same = one_list (λ (term : Term). is_number_of meanings.objects term.name) (λ term one other. one_number meanings.objects term.name one other objects) atom.terms one.objects other.objects first.1 second.1 in
      λ i. record { predicate = number i; objects = same i }

  -- atoms without variables have one list of ground atoms
  pub one_ground_list : (atoms : List ReadAtom) (items others : List Atom) → each_passes (map (is_ground_atom meanings) atoms) items ≡ true → each_passes (map (is_ground_atom meanings) atoms) others ≡ true → items ≡ others
  one_ground_list = one_list (is_ground_atom meanings) one_ground
