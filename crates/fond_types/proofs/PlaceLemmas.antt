-- The first places of the variables of a pattern, and its terms over numbers.
use Rattle.std.proofs.Common.{◌≡◌, ℕ, zero, suc, ◌+◌, ◌≤◌, ◌&&◌, Bool, true, cond, List, [], ◌∷◌, Option, Some, None, IfSome, is_some, length, drop, slice_get, sym, ap, ◌∙◌, subst, arith}
use Rattle.std.specs.List.{list_any, position_from}
use Rattle.std.specs.Option.{option_or}
use Rattle.std.specs.Str.{bytes_eq}
use Rattle.std.proofs.lemmas.Grind.{common_steps}
use Rattle.std.proofs.lemmas.Iterator.Adapters.{position_from-zero}
use Rattle.fond_ast.specs.declared.names.Term.{Term}
use Rattle.fond_kinds.proofs.Types.{some_position}
use Rattle.fond_store.proofs.Entries.{or_none}
use Rattle.fond_store.proofs.Firsts.{or_later}
use Rattle.fond_store.specs.Texts.{number_beside}
use Rattle.fond_names.proofs.Differs.{next_left, same_text}
use Rattle.fond_names.proofs.Members.{or_left, or_right}
use Rattle.fond_types.specs.Patterns.{first_place, HasPlaces, InsertsVariable}

-- whether a term is this variable
abbrev pub is_variable : List ℕ → Term → Bool
is_variable name term = term.variable && bytes_eq term.name name

module _ (terms : List Term) where
  -- the first place of a variable among the terms from an index on
  abbrev pub place_from : ℕ → List ℕ → Option ℕ
  place_from i name = position_from (is_variable name) i (drop i terms)

  -- the items have the first place of each variable among the terms before an index: together with the rest they give each first place
  abbrev pub HasSome : List (List ℕ × ℕ) → ℕ → Type 0
  HasSome items i = (name : List ℕ) → option_or (number_beside items name) (place_from i name) ≡ place_from 0 name

  next_place : (i : ℕ) (term : Term) → slice_get terms i ≡ Some term → (name : List ℕ) → place_from i name ≡ cond (is_variable name term) (Some i) (place_from (i + 1) name)
  next_place i term got name = ap (position_from (is_variable name) i) (next_left terms i term got)

  -- the next term is inserted if it is a variable
  pub some_more : (items more : List (List ℕ × ℕ)) (i : ℕ) (term : Term) → slice_get terms i ≡ Some term → InsertsVariable items term i more → HasSome items i → HasSome more (i + 1)
  some_more items more i term got grown has name =
      ap (λ found. option_or found (place_from (i + 1) name)) (grown name)
      ∙ or_later (number_beside items name) (is_variable name term) i (place_from (i + 1) name)
      ∙ ap (option_or (number_beside items name)) (sym (next_place i term got name)) ∙ has name

  -- after the last term the items have the first place of each variable
  pub some_all : (items : List (List ℕ × ℕ)) (i : ℕ) → length terms ≤ i → HasSome items i → HasPlaces terms items
  some_all items i end has name =
      let none : drop i terms ≡ [] = grind (arith, common_steps) in
      sym (or_none (number_beside items name)) ∙ sym (ap (λ left. option_or (number_beside items name) (position_from (is_variable name) i left)) none)
      ∙ has name ∙ sym (position_from-zero (is_variable name) terms)

any_got : {X : Type 0} (p : X → Bool) (xs : List X) (i : ℕ) (x : X) → slice_get xs i ≡ Some x → p x ≡ true → list_any p xs ≡ true
any_got p [] i x got passes = cc
any_got p (y ∷ xs) zero x got passes = let same : y ≡ x = cc in or_left (p y) (list_any p xs) (ap p same ∙ passes)
any_got p (y ∷ xs) (suc i) x got passes = or_right (p y) (list_any p xs) (any_got p xs i x got passes)

-- a variable among the terms has a first place
pub has_place : (terms : List Term) (i : ℕ) (term : Term) → slice_get terms i ≡ Some term → term.variable ≡ true → is_some (first_place terms term.name) ≡ true
has_place terms i term got variable =
    some_position (is_variable term.name) terms
    ∙ any_got (is_variable term.name) terms i term got (ap (λ b. b && bytes_eq term.name term.name) variable ∙ same_text term.name)

-- what holds of the item at an index holds of what is there, and the other way round
pub if_got : {X : Type 0} (P : X → Type 0) (found : Option X) (x : X) → found ≡ Some x → P x → IfSome found P
if_got P None x got holds = tt
if_got P (Some y) x got holds = let same : x ≡ y = cc in subst P same holds

pub got_if : {X : Type 0} (P : X → Type 0) (found : Option X) (x : X) → found ≡ Some x → IfSome found P → P x
got_if P None x got holds = cc
got_if P (Some y) x got holds = let same : y ≡ x = cc in subst P same holds
