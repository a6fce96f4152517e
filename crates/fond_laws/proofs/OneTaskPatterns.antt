-- A written pattern has one pattern over numbers.
use Rattle.std.proofs.Common.{◌≡◌, ℕ, true, false, not, List, Option, map, position, ap}
use Rattle.std.specs.Prelude.{◌==◌, ◌&&◌}
use Rattle.std.specs.Option.{option_map_or}
use Rattle.std.specs.Str.{bytes_eq}
use Rattle.fond_text.specs.Lists.{each_passes, are_distinct_texts}
use Rattle.fond_ast.specs.declared.files.Pattern.{Pattern}
use Rattle.fond_ast.specs.declared.names.Term.{Term}
use Rattle.fond_ast.specs.declared.form.LTerm.{LTerm}
use Rattle.fond_ast.specs.declared.form.LTerm.TheVariants.{Object, Variable}
use Rattle.fond_types.specs.Resolves.{Meanings, is_number_of, is_pattern, is_pattern_term}
use Rattle.fond_names.proofs.Members.{and_parts}
use Rattle.fond_laws.proofs.OneTaskNumbers.{not_both, one_list, one_number, only_some}

module _ (meanings : Meanings) (objects : are_distinct_texts meanings.objects ≡ true) where
  -- the position where a variable occurs first
  abbrev first_of : List Term → Term → Option ℕ
  first_of terms term = position (λ (other : Term). other.variable && bytes_eq other.name term.name) terms

  -- a term of a pattern has one number
  one_pattern_term : (terms : List Term) (term : Term) (one other : LTerm) → is_pattern_term meanings terms term one ≡ true → is_pattern_term meanings terms term other ≡ true → one ≡ other
  one_pattern_term terms term (Object one) (Object other) h k =
      ap (λ n. Object n) (one_number meanings.objects term.name one other objects (and_parts (not term.variable) (is_number_of meanings.objects term.name one) h).1 (and_parts (not term.variable) (is_number_of meanings.objects term.name other) k).1)
  one_pattern_term terms term (Object one) (Variable other) h k =
      absurd (not_both term.variable (and_parts (not term.variable) (is_number_of meanings.objects term.name one) h).0 (and_parts term.variable (option_map_or (λ n. n == other) (first_of terms term) false) k).0)
  one_pattern_term terms term (Variable one) (Object other) h k =
      absurd (not_both term.variable (and_parts (not term.variable) (is_number_of meanings.objects term.name other) k).0 (and_parts term.variable (option_map_or (λ n. n == one) (first_of terms term) false) h).0)
  one_pattern_term terms term (Variable one) (Variable other) h k =
      ap (λ n. Variable n) (only_some (first_of terms term) one other (and_parts term.variable (option_map_or (λ n. n == one) (first_of terms term) false) h).1
      (and_parts term.variable (option_map_or (λ n. n == other) (first_of terms term) false) k).1)

  -- a pattern has one pattern over numbers
  one_pattern : (pattern : Pattern) (one other : List LTerm) → is_pattern meanings pattern one ≡ true → is_pattern meanings pattern other ≡ true → one ≡ other
  one_pattern pattern = one_list (is_pattern_term meanings pattern.terms) (one_pattern_term pattern.terms) pattern.terms

  -- patterns have one list of patterns over numbers
  pub one_patterns : (patterns : List Pattern) (items others : List (List LTerm)) → each_passes (map (is_pattern meanings) patterns) items ≡ true → each_passes (map (is_pattern meanings) patterns) others ≡ true → items ≡ others
  one_patterns = one_list (is_pattern meanings) one_pattern
