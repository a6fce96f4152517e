-- The items of an array that is written item by item.
use Rattle.std.proofs.Common.{◌≡◌, ℕ, List, [], ◌∷◌, ◌++◌, Bool, true, Option, refl, sym, ap, ◌∙◌, subst, append_assoc, append-nil}
use Rattle.std.specs.Prelude.{Result, Ok, Err, IfOk, Some}
use Rattle.fond_text.specs.Text.{Adds}
use Rattle.fond_text.proofs.Adding.{Adding, adding_all, adding_more, adding_none, adds_same, adds_then, whole_is}
use Rattle.serde_json.specs.Data.{Data}
use Rattle.serde_json.specs.Written.{comma_if, compact_text, items_text}
use Rattle.fond_graph.specs.Drawings.{items_of}
use Rattle.fond_graph.specs.Parts.{comes_after, listed}

-- the text of an array is that of its items, between brackets
pub listed_items : (later : Bool) (values : List Data) → items_text later (items_of values) ≡ listed later values ++ 93 ∷ []
listed_items later [] = refl
listed_items later (value ∷ values) =
    ap (λ (rest : List ℕ). comma_if later ++ (compact_text value ++ rest)) (listed_items true values)
    ∙ ap (λ (rest : List ℕ). comma_if later ++ rest) (sym (append_assoc (compact_text value) (listed true values) (93 ∷ [])))
    ∙ sym (append_assoc (comma_if later) (compact_text value ++ listed true values) (93 ∷ []))

after_true : (values : List Data) → comes_after true values ≡ true
after_true [] = refl
after_true (value ∷ values) = refl

listed_joined : (later : Bool) (xs ys : List Data) → listed later (xs ++ ys) ≡ listed later xs ++ listed (comes_after later xs) ys
listed_joined later [] ys = refl
listed_joined later (x ∷ xs) ys =
    ap (λ (rest : List ℕ). comma_if later ++ (compact_text x ++ rest)) (listed_joined true xs ys ∙ ap (λ b. listed true xs ++ listed b ys) (after_true xs))
    ∙ ap (λ (rest : List ℕ). comma_if later ++ rest) (sym (append_assoc (compact_text x) (listed true xs) (listed true ys)))
    ∙ sym (append_assoc (comma_if later) (compact_text x ++ listed true xs) (listed true ys))

after_joined : (later : Bool) (xs ys : List Data) → comes_after later (xs ++ ys) ≡ comes_after (comes_after later xs) ys
after_joined later [] ys = refl
after_joined later (x ∷ xs) ys = sym (after_true ys)

-- the texts of some values were added, and the rest is left
pub record Listing (first : Bool) (before : Option (List ℕ)) (whole : List Data) (later : Bool) (now : Option (List ℕ)) (left : List Data) : Type 0 where
  pub adding : Adding before now (listed first whole) (listed later left)
  pub after : comes_after later left ≡ comes_after first whole

pub listing_all : (first : Bool) (text : Option (List ℕ)) (whole : List Data) → Listing first text whole first text whole
listing_all first text whole = record { adding = adding_all text (listed first whole); after = refl }

module _ (first : Bool) (before : Option (List ℕ)) (whole : List Data) (later : Bool) (now : Option (List ℕ)) (left : List Data) (so_far : Listing first before whole later now left) where
  -- some values more
  pub listing_more : (values rest : List Data) (then_later : Bool) (after : Option (List ℕ)) → left ≡ values ++ rest → Adds now after (listed later values) → then_later ≡ comes_after later values → Listing first before whole then_later after rest
  listing_more values rest then_later after split added is = record {
    adding = adding_more before now after (listed first whole) (listed later left) (listed later values) (listed then_later rest)
        (ap (listed later) split ∙ listed_joined later values rest ∙ ap (λ b. listed later values ++ listed b rest) (sym is))
        so_far.adding
        added;
    after = ap (λ b. comes_after b rest) is ∙ sym (after_joined later values rest) ∙ ap (comes_after later) (sym split) ∙ so_far.after;
  }

  -- one value more
  pub listing_one : (value : Data) (rest : List Data) (mid after : Option (List ℕ)) (then_later : Bool) → left ≡ value ∷ rest → Adds now mid (comma_if later) → then_later ≡ true → Adds mid after (compact_text value) → Listing first before whole then_later after rest
  listing_one value rest mid after then_later split comma is added =
      listing_more (value ∷ []) rest then_later after split
      (adds_same now after (comma_if later ++ compact_text value) (listed later (value ∷ [])) (ap (λ (t : List ℕ). comma_if later ++ t) (sym (append-nil (compact_text value)))) (adds_then now mid after (comma_if later) (compact_text value) comma added))
      is

  -- no value is left
  pub listing_none : left ≡ [] → Adds before now (listed first whole)
  listing_none none = adding_none before now (listed first whole) (listed later left) (ap (listed later) none) so_far.adding

  pub listing_after : left ≡ [] → later ≡ comes_after first whole
  listing_after none = ap (comes_after later) (sym none) ∙ so_far.after

-- the bytes of a text, to which a whole was added from the beginning on
pub finished : {V E : Type 0} (items : V → List ℕ) (result : Result V E) (start end : Option (List ℕ)) (whole : List ℕ) → start ≡ Some [] → Adds start end whole → IfOk result (λ bytes. end ≡ Some (items bytes)) → IfOk result (λ bytes. items bytes ≡ whole)
finished items (Err _) start end whole empty added is = tt
finished items (Ok bytes) start end whole empty added is = whole_is end whole (items bytes) (subst (λ (t : Option (List ℕ)). Adds t end whole) empty added) is
