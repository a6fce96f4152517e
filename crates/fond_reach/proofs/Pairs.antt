-- Lists that are related place by place.
use Rattle.std.proofs.Common.{◌≡◌, ℕ, zero, suc, ◌+◌, List, [], ◌∷◌, ◌++◌, Some, slice_get, take, refl, sym, ap, ◌∙◌, subst}
use Rattle.std.specs.List.{AllZip}
use Rattle.std.proofs.lemmas.List.{take_more}
use Rattle.std.proofs.lemmas.Option.{get_or_from_slice_get, none-some, same_Some, slice_get_within}
use Rattle.std.proofs.lemmas.Slice.Zip.{all_zipped_more}

-- at a place of the first list, the second one has an element that is related
pub zip_at : {A B : Type 0} (R : A → B → Type 0) (xs : List A) (ys : List B) → AllZip R xs ys → (i : ℕ) (x : A) → slice_get xs i ≡ Some x → (y : B) × (slice_get ys i ≡ Some y) × R x y
zip_at R [] ys h i x is = absurd (none-some x is)
zip_at R (a ∷ xs) [] h i x is = absurd h
zip_at R (a ∷ xs) (b ∷ ys) h zero x is = (b, refl, subst (λ z. R z b) (same_Some a x is) h.0)
zip_at R (a ∷ xs) (b ∷ ys) h (suc i) x is = zip_at R xs ys h.1 i x is

-- what is related is also related by something weaker
pub zip_weaker : {A B : Type 0} (R S : A → B → Type 0) (xs : List A) (ys : List B) → ((x : A) (y : B) → R x y → S x y) → AllZip R xs ys → AllZip S xs ys
zip_weaker R S [] [] also h = tt
zip_weaker R S [] (b ∷ ys) also h = absurd h
zip_weaker R S (a ∷ xs) [] also h = absurd h
zip_weaker R S (a ∷ xs) (b ∷ ys) also h = (also a b h.0, zip_weaker R S xs ys also h.1)

-- one more pair
pub zip_more : {A B : Type 0} (R : A → B → Type 0) (xs : List A) (i : ℕ) (x : A) (ys next : List B) (y : B) → slice_get xs i ≡ Some x → next ≡ ys ++ y ∷ [] → R x y → AllZip R (take i xs) ys → AllZip R (take (i + 1) xs) next
zip_more R xs i x ys next y at made one before =
    subst (λ front. AllZip R front next) (sym (take_more xs i x (slice_get_within xs i x at) ∙ ap (λ z. take i xs ++ z ∷ []) (get_or_from_slice_get xs i x x at))) (subst (AllZip R (take i xs ++ x ∷ [])) (sym made) (all_zipped_more R (take i xs) ys x y before one))
