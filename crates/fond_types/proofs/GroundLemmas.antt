-- Atoms without variables over numbers.
use Rattle.std.proofs.Common.{◌≡◌, ℕ, ◌+◌, nat_lt, not, cond, Bool, true, false, List, [], ◌∷◌, ◌++◌, Option, Some, None, filter, map, take, slice_get, refl, ap, ◌∙◌, append-nil}
use Rattle.std.specs.Prelude.{if◌then◌else◌}
use Rattle.std.specs.List.{list_all}
use Rattle.std.specs.Option.{option_map_or}
use Rattle.std.proofs.lemmas.List.{map-append}
use Rattle.std.proofs.lemmas.List.Elements.{filter-append}
use Rattle.fond_text.specs.Lists.{each_passes}
use Rattle.fond_ast.specs.Ranges.{objects_of, is_among}
use Rattle.fond_ast.specs.Within.{fits_range, is_term_within, is_atom_within}
use Rattle.fond_ast.specs.declared.files.InitAtom.{InitAtom}
use Rattle.fond_ast.specs.declared.form.LAtom.{LAtom}
use Rattle.fond_ast.specs.declared.form.LTerm.{LTerm}
use Rattle.fond_ast.specs.declared.form.LTerm.TheVariants.{Object, Variable}
use Rattle.fond_ast.specs.declared.names.Term.{Term}
use Rattle.fond_ast.specs.declared.task.LPredicate.{LPredicate}
use Rattle.fond_types.specs.Ground.{objects_in}
use Rattle.fond_types.specs.Resolves.{Meanings, is_number_of, is_term, positive}
use Rattle.fond_names.proofs.Among.{next_taken}
use Rattle.fond_names.proofs.Members.{and_parts, and_both}

-- the terms of an atom outside all lists are objects
pub ground_terms : (meanings : Meanings) (terms : List Term) (numbers : List LTerm) → each_passes (map (is_term meanings []) terms) numbers ≡ true → each_passes (map (λ (term : Term). is_number_of meanings.objects term.name) terms) (objects_in numbers) ≡ true
ground_terms meanings [] [] e = refl
ground_terms meanings [] (number ∷ numbers) e = cc
ground_terms meanings (term ∷ terms) [] e = cc
ground_terms meanings (term ∷ terms) (Object number ∷ numbers) e =
    let both = and_parts (is_term meanings [] term (Object number)) (each_passes (map (is_term meanings []) terms) numbers) e in
    and_both (is_number_of meanings.objects term.name number) _ (and_parts (not term.variable) (is_number_of meanings.objects term.name number) both.0).1 (ground_terms meanings terms numbers both.1)
ground_terms meanings (term ∷ terms) (Variable number ∷ numbers) e =
    let both = and_parts (is_term meanings [] term (Variable number)) (each_passes (map (is_term meanings []) terms) numbers) e in
    let none : false ≡ true = (and_parts term.variable false both.0).1 in absurd (cc (none))

fits_object : (count : ℕ) (range : List ℕ) (number : ℕ) → fits_range count [] range (Object number) ≡ true → is_among range number ≡ true
fits_object count range number e = by (nat_lt number count) e
  where
    by : (b : Bool) → option_map_or (list_all (is_among range)) (if b then Some (number ∷ []) else None) false ≡ true → is_among range number ≡ true
    by true h = (and_parts (is_among range number) true h).0
    by false h = cc

ground_fits : (count : ℕ) (ranges : List (List ℕ)) (numbers : List LTerm) → each_passes (map (fits_range count []) ranges) numbers ≡ true → each_passes (map is_among ranges) (objects_in numbers) ≡ true
ground_fits count [] [] e = refl
ground_fits count [] (number ∷ numbers) e = cc
ground_fits count (range ∷ ranges) [] e = cc
ground_fits count (range ∷ ranges) (Object number ∷ numbers) e =
    let both = and_parts (fits_range count [] range (Object number)) (each_passes (map (fits_range count []) ranges) numbers) e in
    and_both (is_among range number) _ (fits_object count range number both.0) (ground_fits count ranges numbers both.1)
ground_fits count (range ∷ ranges) (Variable number ∷ numbers) e = cc

-- an atom outside all lists that is within is within as a ground atom
pub ground_within : (count : ℕ) (predicates : List LPredicate) (number : LAtom) → is_atom_within count predicates number [] ≡ true →
    option_map_or (λ (predicate : LPredicate). each_passes (map is_among (objects_of predicate.ranges)) (objects_in number.terms)) (slice_get predicates number.predicate) false ≡ true
ground_within count predicates number e =
    by (slice_get predicates number.predicate)
    (and_parts (list_all (is_term_within count []) number.terms) (option_map_or (λ (predicate : LPredicate). each_passes (map (fits_range count []) (objects_of predicate.ranges)) number.terms) (slice_get predicates number.predicate) false) e).1
  where
    by : (found : Option LPredicate) → option_map_or (λ (predicate : LPredicate). each_passes (map (fits_range count []) (objects_of predicate.ranges)) number.terms) found false ≡ true →
        option_map_or (λ (predicate : LPredicate). each_passes (map is_among (objects_of predicate.ranges)) (objects_in number.terms)) found false ≡ true
    by None h = cc
    by (Some predicate) h = ground_fits count (objects_of predicate.ranges) number.terms h

positive_more : (initial : List InitAtom) (one : InitAtom) → positive (initial ++ one ∷ []) ≡ positive initial ++ positive (one ∷ [])
positive_more initial one = ap (map (λ some. some.atom)) (filter-append (λ some. some.positive) initial (one ∷ [])) ∙ map-append (λ some. some.atom) (filter (λ some. some.positive) initial) (filter (λ some. some.positive) (one ∷ []))

module _ (init : List InitAtom) (i : ℕ) (one : InitAtom) (got : slice_get init i ≡ Some one) where
  -- the next initial atom, which is not negated
  pub positive_put : one.positive ≡ true → positive (take (i + 1) init) ≡ positive (take i init) ++ one.atom ∷ []
  positive_put is = ap positive (next_taken init i one got) ∙ positive_more (take i init) one ∙ ap (λ b. positive (take i init) ++ map (λ (some : InitAtom). some.atom) (cond b (one ∷ []) [])) is

  -- the next initial atom, which is negated
  pub positive_passed : one.positive ≡ false → positive (take (i + 1) init) ≡ positive (take i init)
  positive_passed is =
      ap positive (next_taken init i one got) ∙ positive_more (take i init) one ∙ ap (λ b. positive (take i init) ++ map (λ (some : InitAtom). some.atom) (cond b (one ∷ []) [])) is ∙ append-nil (positive (take i init))
