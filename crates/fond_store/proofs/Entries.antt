-- The entries of a map whose keys are lists, as lists with numbers.
use Rattle.std.proofs.Common.{◌≡◌, ◌∙◌, ℕ, Bool, true, false, List, [], ◌∷◌, refl, sym, ap, Option, Some, None, map, is_some, true≢false, Vec, Global}
use Rattle.std.specs.Prelude.{if◌then◌else◌}
use Rattle.std.specs.Option.{option_or}
use Rattle.std.specs.Cmp.{IsEquivalence}
use Rattle.std.specs.Cmp.Lexicographic.{pointwise}
use Rattle.std.proofs.lemmas.Cmp.{lists_equiv}
use Rattle.std.specs.Map.{lookup, KeepsOthers}
use Rattle.fond_store.specs.Texts.{number_by, Inserts}

-- an option that is not `Some` is `None`
pub not_some : (found : Option ℕ) → is_some found ≡ false → found ≡ None
not_some None h = refl
not_some (Some number) h = absurd (true≢false h)

-- a first number or none is the first number
pub or_none : (first : Option ℕ) → option_or first None ≡ first
or_none None = refl
or_none (Some number) = refl

-- a first number that is there is the first
some_first : (first : Option ℕ) (number : ℕ) → is_some first ≡ true → option_or first (Some number) ≡ first
some_first None number there = absurd (true≢false (sym there))
some_first (Some kept) number there = refl

module _ {X : Type 0} {same : X → X → Bool} (laws : IsEquivalence same) where
  -- whether two lists are the same
  abbrev alike : List X → List X → Bool
  alike = pointwise same

  -- the lists and numbers of the entries
  abbrev pub shown : List (Vec X Global × ℕ) → List (List X × ℕ)
  shown entries = map (λ entry. (entry.0.items, entry.1)) entries

  -- the value at a list is the number of the list
  pub number_at : (entries : List (Vec X Global × ℕ)) (list : List X) → lookup (λ key. alike list key.items) entries ≡ number_by same (shown entries) list
  number_at [] list = refl
  number_at (entry ∷ entries) list =
      λ i. if (lists_equiv laws).symm list entry.0.items i then Some entry.1 else number_at entries list i

  -- lists that are the same have the same number
  alike_number : (items : List (List X × ℕ)) (list other : List X) → alike list other ≡ true → number_by same items other ≡ number_by same items list
  alike_number [] list other is = refl
  alike_number (item ∷ items) list other is =
      let own : alike item.0 other ≡ alike item.0 list =
      (lists_equiv laws).symm item.0 other ∙ sym ((lists_equiv laws).congr list other item.0 is) ∙ (lists_equiv laws).symm list item.0 in
      λ i. if own i then Some item.1 else alike_number items list other is i

  -- a list that is there is not inserted again
  pub passed_over : (items : List (List X × ℕ)) (list : List X) (number : ℕ) → is_some (number_by same items list) ≡ true → Inserts same items list number items
  passed_over items list number there other = by (alike list other) refl
    where
      by : (b : Bool) → alike list other ≡ b → number_by same items other ≡ option_or (number_by same items other) (if b then Some number else None)
      by true is = sym (some_first (number_by same items other) number (ap is_some (alike_number items list other is) ∙ there))
      by false differ = sym (or_none (number_by same items other))

  -- a list that is not there is inserted with its number
  pub put_in : (old new : List (Vec X Global × ℕ)) (list : Vec X Global) (number : ℕ) → number_by same (shown old) list.items ≡ None →
      lookup (λ key. alike list.items key.items) new ≡ Some number →
      KeepsOthers (λ x y. alike x.items y.items) (λ key. alike list.items key.items) old new → Inserts same (shown old) list.items number (shown new)
  unfolding KeepsOthers
  put_in old new list number absent own others other = by (alike list.items other) refl
    where
      apart : alike list.items other ≡ false → (key : Vec X Global) → alike list.items key.items ≡ true → (b : Bool) → alike other key.items ≡ b → b ≡ false
      apart differ key is true there = absurd (true≢false (
          sym is ∙ (lists_equiv laws).symm list.items key.items ∙ sym ((lists_equiv laws).congr other key.items list.items there)
          ∙ (lists_equiv laws).symm other list.items ∙ differ))
      apart differ key is false there = refl

      by : (b : Bool) → alike list.items other ≡ b → number_by same (shown new) other ≡ option_or (number_by same (shown old) other) (if b then Some number else None)
      by true is =
          alike_number (shown new) list.items other is ∙ sym (number_at new list.items) ∙ own
          ∙ sym (ap (λ first. option_or first (Some number)) (alike_number (shown old) list.items other is ∙ absent))
      by false differ =
          sym (number_at new other)
          ∙ others (λ key. alike other key.items) (λ x y is. (lists_equiv laws).congr other x.items y.items is) (λ key is. apart differ key is (alike other key.items) refl)
          ∙ number_at old other ∙ sym (or_none (number_by same (shown old) other))
