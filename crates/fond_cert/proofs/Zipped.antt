-- Lists of pairs, as items with their ranks.
use Rattle.std.proofs.Common.{◌≡◌, ℕ, zero, suc, List, [], ◌∷◌, ◌++◌, All, Some, length, map, refl, subst, arith}
use Rattle.std.specs.Prelude.{min, slice_get}
use Rattle.std.proofs.lemmas.List.Elements.{All-head, All-tail, All-nil, All-cons}
use Rattle.std.proofs.lemmas.Option.{get_or_from_slice_get, slice_get_within}
use Rattle.std.specs.List.{zip}

pub zip_long : {A B : Type 0} (xs : List A) (ys : List B) → length ys ≡ length xs → length (zip xs ys) ≡ length xs
zip_long [] ys e = refl
zip_long (x ∷ xs) [] e = absurd (omega (arith, e))
zip_long (x ∷ xs) (y ∷ ys) e = let more = zip_long xs ys (omega (arith, e)) in omega (arith, more)

pub zip_more : {A B : Type 0} (xs : List A) (ys : List B) (x : A) (y : B) → length ys ≡ length xs → zip (xs ++ (x ∷ [])) (ys ++ (y ∷ [])) ≡ zip xs ys ++ ((x, y) ∷ [])
zip_more [] [] x y e = refl
zip_more [] (other ∷ ys) x y e = absurd (omega (arith, e))
zip_more (x ∷ xs) [] last y e = absurd (omega (arith, e))
zip_more (x ∷ xs) (y ∷ ys) last rank e = let more = zip_more xs ys last rank (omega (arith, e)) in λ i. (x, y) ∷ more i

-- what holds of all elements holds of the one at a position
pub all_at : {A : Type 0} (P : A → Type 0) (xs : List A) → All P xs → (n : ℕ) (x : A) → slice_get xs n ≡ Some x → P x
all_at P xs all n x there = subst P (get_or_from_slice_get xs n x x there) (all n x (slice_get_within xs n x there))

-- what holds of the elements at each position holds of the pairs
pub all_zipped : {A B : Type 0} (P : A × B → Type 0) (xs : List A) (ys : List B) → ((n : ℕ) (x : A) (y : B) → slice_get xs n ≡ Some x → slice_get ys n ≡ Some y → P (x, y)) → All P (zip xs ys)
all_zipped P [] ys each = All-nil P
all_zipped P (x ∷ xs) [] each = All-nil P
all_zipped P (x ∷ xs) (y ∷ ys) each = All-cons P (x, y) (zip xs ys) (each 0 x y refl refl) (all_zipped P xs ys (λ n a b there other_there. each (suc n) a b there other_there))

-- what holds of all pairs holds of their parts at a position
pub all_paired : {A B : Type 0} (P : A × B → Type 0) (entries : List (A × B)) → All P entries → (n : ℕ) (x : A) (y : B) → slice_get (map (λ (e : A × B). e.0) entries) n ≡ Some x → slice_get (map (λ (e : A × B). e.1) entries) n ≡ Some y → P (x, y)
all_paired P [] all n x y there other_there = absurd (cc)
all_paired P (entry ∷ entries) all zero x y there other_there =
    let first : entry.0 ≡ x = cc in
    let second : entry.1 ≡ y = cc in
    subst P (λ i. (first i, second i)) (All-head P entry entries all)
all_paired P (entry ∷ entries) all (suc n) x y there other_there = all_paired P entries (All-tail P entry entries all) n x y there other_there

-- there are as many pairs as elements of the shorter list
pub zip_count : {A B : Type 0} (xs : List A) (ys : List B) → length (zip xs ys) ≡ min (length ys) (length xs)
zip_count [] ys = omega arith
zip_count (x ∷ xs) [] = omega arith
zip_count (x ∷ xs) (y ∷ ys) = let more = zip_count xs ys in omega (arith, more)

-- the elements at a position make the pair there
pub zip_at : {A B : Type 0} (xs : List A) (ys : List B) (n : ℕ) (x : A) (y : B) → slice_get xs n ≡ Some x → slice_get ys n ≡ Some y → slice_get (zip xs ys) n ≡ Some (x, y)
zip_at [] ys n x y there other_there = absurd (cc)
zip_at (x ∷ xs) [] n a b there other_there = absurd (cc)
zip_at (x ∷ xs) (y ∷ ys) zero a b there other_there =
    let first : x ≡ a = cc in
    let second : y ≡ b = cc in
    λ i. Some (first i, second i)
zip_at (x ∷ xs) (y ∷ ys) (suc n) a b there other_there = zip_at xs ys n a b there other_there
