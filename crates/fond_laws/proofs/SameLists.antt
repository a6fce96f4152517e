-- Lists whose items are related place by place, both ways.
use Rattle.std.proofs.Common.{◌≡◌, ℕ, zero, suc, ◌+◌, List, [], ◌∷◌, ◌++◌, Some, slice_get, map, refl, ap, subst}
use Rattle.std.specs.Prelude.{Contains}
use Rattle.std.specs.List.{AllZip, enumerate_from, flat_map}
use Rattle.std.proofs.lemmas.Option.{none-some, same_Some}
use Rattle.fond_text.specs.Lists.{Somewhere}
use Rattle.fond_task.proofs.Lists.{Contains_numbered, number_of}

-- related lists are related the other way round by the converse
pub zip-swap : {A B : Type 0} (R : A → B → Type 0) (S : B → A → Type 0) → ((a : A) (b : B) → R a b → S b a) → (xs : List A) (ys : List B) → AllZip R xs ys → AllZip S ys xs
zip-swap R S step [] [] h = tt
zip-swap R S step [] (b ∷ ys) h = absurd h
zip-swap R S step (a ∷ xs) [] h = absurd h
zip-swap R S step (a ∷ xs) (b ∷ ys) h = (step a b h.0, zip-swap R S step xs ys h.1)

-- two lists that are related to one list are related to each other
pub zip-both : {A B C : Type 0} (R : A → B → Type 0) (S : A → C → Type 0) (T : B → C → Type 0) → ((a : A) (b : B) (c : C) → R a b → S a c → T b c) → (xs : List A) (ys : List B) (zs : List C) → AllZip R xs ys → AllZip S xs zs → AllZip T ys zs
zip-both R S T step [] [] [] h k = tt
zip-both R S T step [] [] (z ∷ zs) h k = absurd k
zip-both R S T step [] (y ∷ ys) zs h k = absurd h
zip-both R S T step (x ∷ xs) [] zs h k = absurd h
zip-both R S T step (x ∷ xs) (y ∷ ys) [] h k = absurd k
zip-both R S T step (x ∷ xs) (y ∷ ys) (z ∷ zs) h k = (step x y z h.0 k.0, zip-both R S T step xs ys zs h.1 k.1)

-- lists that are related to related lists are related to each other
pub zip-square : {A B C D : Type 0} (R : A → B → Type 0) (S : A → C → Type 0) (T : B → D → Type 0) (U : C → D → Type 0) → ((a : A) (b : B) (c : C) (d : D) → R a b → S a c → T b d → U c d) → (xs : List A) (ys : List B) (vs : List C) (ws : List D)
    → AllZip R xs ys → AllZip S xs vs → AllZip T ys ws → AllZip U vs ws
zip-square R S T U step [] [] [] [] h k l = tt
zip-square R S T U step [] [] [] (w ∷ ws) h k l = absurd l
zip-square R S T U step [] [] (v ∷ vs) ws h k l = absurd k
zip-square R S T U step [] (y ∷ ys) vs ws h k l = absurd h
zip-square R S T U step (x ∷ xs) [] vs ws h k l = absurd h
zip-square R S T U step (x ∷ xs) (y ∷ ys) [] ws h k l = absurd k
zip-square R S T U step (x ∷ xs) (y ∷ ys) (v ∷ vs) [] h k l = absurd l
zip-square R S T U step (x ∷ xs) (y ∷ ys) (v ∷ vs) (w ∷ ws) h k l = (step x y v w h.0 k.0 l.0, zip-square R S T U step xs ys vs ws h.1 k.1 l.1)

-- lists whose items are related place by place are so by each relation that follows
pub zip-follows : {A B : Type 0} (R S : A → B → Type 0) → ((a : A) (b : B) → R a b → S a b) → (xs : List A) (ys : List B) → AllZip R xs ys → AllZip S xs ys
zip-follows R S step [] [] h = tt
zip-follows R S step [] (b ∷ ys) h = absurd h
zip-follows R S step (a ∷ xs) [] h = absurd h
zip-follows R S step (a ∷ xs) (b ∷ ys) h = (step a b h.0, zip-follows R S step xs ys h.1)

-- the images of one list under functions whose values are related are related place by place
pub zip-same : {A B : Type 0} (R : B → B → Type 0) (f g : A → B) → ((a : A) → R (f a) (g a)) → (xs : List A) → AllZip R (map f xs) (map g xs)
zip-same R f g step [] = tt
zip-same R f g step (a ∷ xs) = (step a, zip-same R f g step xs)

-- lists whose items are related place by place have equal images under functions that are equal on related items
pub zip-images : {A B C : Type 0} (R : A → B → Type 0) (f : A → C) (g : B → C) → ((a : A) (b : B) → R a b → f a ≡ g b) → (xs : List A) (ys : List B) → AllZip R xs ys → map f xs ≡ map g ys
zip-images R f g step [] [] h = refl
zip-images R f g step [] (b ∷ ys) h = absurd h
zip-images R f g step (a ∷ xs) [] h = absurd h
zip-images R f g step (a ∷ xs) (b ∷ ys) h = λ i. step a b h.0 i ∷ zip-images R f g step xs ys h.1 i

-- lists whose items are related place by place give equal lists, item by numbered item
pub zip-numbered : {A B C : Type 0} (R : A → B → Type 0) (f : ℕ → A → List C) (g : ℕ → B → List C) → ((n : ℕ) (a : A) (b : B) → R a b → f n a ≡ g n b) → (start : ℕ) (xs : List A) (ys : List B) → AllZip R xs ys
    → flat_map (λ item. f item.0 item.1) (enumerate_from start xs) ≡ flat_map (λ item. g item.0 item.1) (enumerate_from start ys)
zip-numbered R f g step start [] [] h = refl
zip-numbered R f g step start [] (b ∷ ys) h = absurd h
zip-numbered R f g step start (a ∷ xs) [] h = absurd h
zip-numbered R f g step start (a ∷ xs) (b ∷ ys) h = λ i. step start a b h.0 i ++ zip-numbered R f g step (start + 1) xs ys h.1 i

-- the item at a place of the first list is related to the one at that place of the second
pub zip-at : {A B : Type 0} (R : A → B → Type 0) (xs : List A) (ys : List B) → AllZip R xs ys → (i : ℕ) (x : A) → slice_get xs i ≡ Some x → (y : B) × (slice_get ys i ≡ Some y) × R x y
zip-at R [] ys all i x is = absurd (none-some x is)
zip-at R (x ∷ xs) [] all i z is = absurd all
zip-at R (x ∷ xs) (y ∷ ys) all zero z is = (y, refl, subst (λ w. R w y) (same_Some x z is) all.0)
zip-at R (x ∷ xs) (y ∷ ys) all (suc i) z is = zip-at R xs ys all.1 i z is

-- the item at a place of the second list is related to the one at that place of the first
pub zip-from : {A B : Type 0} (R : A → B → Type 0) (xs : List A) (ys : List B) → AllZip R xs ys → (i : ℕ) (y : B) → slice_get ys i ≡ Some y → (x : A) × (slice_get xs i ≡ Some x) × R x y
zip-from R [] [] all i y is = absurd (none-some y is)
zip-from R [] (y ∷ ys) all i z is = absurd all
zip-from R (x ∷ xs) [] all i y is = absurd (none-some y is)
zip-from R (x ∷ xs) (y ∷ ys) all zero z is = (x, refl, subst (R x) (same_Some y z is) all.0)
zip-from R (x ∷ xs) (y ∷ ys) all (suc i) z is = zip-from R xs ys all.1 i z is

-- each item of the first list is related to one of the second
pub zip-has : {A B : Type 0} (R : A → B → Type 0) (xs : List A) (ys : List B) → AllZip R xs ys → (x : A) → Contains xs x → (y : B) × Contains ys y × R x y
zip-has R xs ys all x has =
    let at = number_of xs x has in
    let twin = zip-at R xs ys all at.0 x at.1 in
    (twin.0, Contains_numbered ys at.0 twin.0 twin.1, twin.2)

-- each item of the second list is related to one of the first
pub zip-had : {A B : Type 0} (R : A → B → Type 0) (xs : List A) (ys : List B) → AllZip R xs ys → (y : B) → Contains ys y → (x : A) × Contains xs x × R x y
zip-had R xs ys all y has =
    let at = number_of ys y has in
    let twin = zip-from R xs ys all at.0 y at.1 in
    (twin.0, Contains_numbered xs at.0 twin.0 twin.1, twin.2)

-- a list that is related to one with an item between two parts has an item between two parts that is related to it
pub record SplitZip {A B : Type 0} (R : A → B → Type 0) (before : List A) (x : A) (ys : List B) : Type 0 where
  pub front : List B
  pub twin : B
  pub back : List B
  pub split : ys ≡ front ++ twin ∷ back
  pub fronts : AllZip R before front
  pub related : R x twin

-- related lists split at related items
pub zip-split : {A B : Type 0} (R : A → B → Type 0) (before : List A) (x : A) (after : List A) (ys : List B) → AllZip R (before ++ x ∷ after) ys → SplitZip R before x ys
zip-split R [] x after [] h = absurd h
zip-split R [] x after (y ∷ ys) h = record { front = []; twin = y; back = ys; split = refl; fronts = tt; related = h.0 }
zip-split R (z ∷ before) x after [] h = absurd h
zip-split R (z ∷ before) x after (y ∷ ys) h =
    let rest = zip-split R before x after ys h.1 in
    record { front = y ∷ rest.front; twin = rest.twin; back = rest.back; split = ap (λ list. y ∷ list) rest.split; fronts = (h.0, rest.fronts); related = rest.related }

-- what holds of some item of a list with those before it, and passes to related items and lists, holds so in each related list
pub zip-somewhere : {A B : Type 0} (R : A → B → Type 0) (P : List A → A → Type 0) (Q : List B → B → Type 0) → ((before : List A) (front : List B) (x : A) (y : B) → AllZip R before front → R x y → P before x → Q front y) → (xs : List A) (ys : List B)
    → AllZip R xs ys → Somewhere P xs → Somewhere Q ys
zip-somewhere R P Q pass xs ys all some =
    let at = zip-split R some.before some.item some.after ys (subst (λ list. AllZip R list ys) some.split all) in
    record { before = at.front; item = at.twin; after = at.back; split = at.split; has = pass some.before at.front some.item at.twin at.fronts at.related some.has }
