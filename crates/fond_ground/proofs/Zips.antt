-- Lists whose items are related place by place.
use Rattle.std.proofs.Common.{◌≡◌, suc, Bool, true, List, [], ◌∷◌, ◌++◌, length, map, refl, sym, ap, subst, append_assoc, ◌∙◌}
use Rattle.std.specs.List.{AllZip, flat_map, list_all}
use Rattle.fond_ast.proofs.Bools.{and-both}
use Rattle.fond_text.specs.Lists.{concatenations}

pub zip-append : {A B : Type 0} (R : A → B → Type 0) (xs : List A) (ys : List B) (vs : List A) (ws : List B) → AllZip R xs ys → AllZip R vs ws → AllZip R (xs ++ vs) (ys ++ ws)
zip-append R [] [] vs ws h k = k
zip-append R [] (b ∷ ys) vs ws h k = absurd h
zip-append R (a ∷ xs) [] vs ws h k = absurd h
zip-append R (a ∷ xs) (b ∷ ys) vs ws h k = (h.0, zip-append R xs ys vs ws h.1 k)

pub zip-map : {A B C D : Type 0} (R : A → B → Type 0) (S : C → D → Type 0) (f : A → C) (g : B → D) → ((a : A) (b : B) → R a b → S (f a) (g b)) → (xs : List A) (ys : List B) → AllZip R xs ys → AllZip S (map f xs) (map g ys)
zip-map R S f g step [] [] h = tt
zip-map R S f g step [] (b ∷ ys) h = absurd h
zip-map R S f g step (a ∷ xs) [] h = absurd h
zip-map R S f g step (a ∷ xs) (b ∷ ys) h = (step a b h.0, zip-map R S f g step xs ys h.1)

pub zip-right : {A B D : Type 0} (R : A → B → Type 0) (S : A → D → Type 0) (g : B → D) → ((a : A) (b : B) → R a b → S a (g b)) → (xs : List A) (ys : List B) → AllZip R xs ys → AllZip S xs (map g ys)
zip-right R S g step [] [] h = tt
zip-right R S g step [] (b ∷ ys) h = absurd h
zip-right R S g step (a ∷ xs) [] h = absurd h
zip-right R S g step (a ∷ xs) (b ∷ ys) h = (step a b h.0, zip-right R S g step xs ys h.1)

pub zip-flat : {A B C D : Type 0} (R : A → B → Type 0) (S : C → D → Type 0) (f : A → List C) (g : B → List D) → ((a : A) (b : B) → R a b → AllZip S (f a) (g b)) → (xs : List A) (ys : List B) → AllZip R xs ys
    → AllZip S (flat_map f xs) (flat_map g ys)
zip-flat R S f g step [] [] h = tt
zip-flat R S f g step [] (b ∷ ys) h = absurd h
zip-flat R S f g step (a ∷ xs) [] h = absurd h
zip-flat R S f g step (a ∷ xs) (b ∷ ys) h = zip-append S (f a) (g b) (flat_map f xs) (flat_map g ys) (step a b h.0) (zip-flat R S f g step xs ys h.1)

pub zip-concatenations : {A B : Type 0} (R : A → B → Type 0) (xs : List (List (List A))) (ys : List (List (List B))) → AllZip (AllZip (AllZip R)) xs ys → AllZip (AllZip R) (concatenations xs) (concatenations ys)
zip-concatenations R [] [] h = (tt, tt)
zip-concatenations R [] (b ∷ ys) h = absurd h
zip-concatenations R (a ∷ xs) [] h = absurd h
zip-concatenations R (a ∷ xs) (b ∷ ys) h =
    zip-flat (AllZip R) (AllZip R) (λ list. map (λ more. list ++ more) (concatenations xs)) (λ list. map (λ more. list ++ more) (concatenations ys))
    (λ list other same. zip-map (AllZip R) (AllZip R) (λ more. list ++ more) (λ more. other ++ more) (λ more rest k. zip-append R list other more rest same k) (concatenations xs) (concatenations ys) (zip-concatenations R xs ys h.1))
    a b h.0

pub zip-all : {A B : Type 0} (R : A → B → Type 0) (test : B → Bool) → ((a : A) (b : B) → R a b → test b ≡ true) → (xs : List A) (ys : List B) → AllZip R xs ys → list_all test ys ≡ true
zip-all R test step [] [] h = refl
zip-all R test step [] (b ∷ ys) h = absurd h
zip-all R test step (a ∷ xs) [] h = absurd h
zip-all R test step (a ∷ xs) (b ∷ ys) h = and-both (test b) (list_all test ys) (step a b h.0) (zip-all R test step xs ys h.1)

pub zip-length : {A B : Type 0} (R : A → B → Type 0) (xs : List A) (ys : List B) → AllZip R xs ys → length xs ≡ length ys
zip-length R [] [] h = refl
zip-length R [] (b ∷ ys) h = absurd h
zip-length R (a ∷ xs) [] h = absurd h
zip-length R (a ∷ xs) (b ∷ ys) h = ap (λ n. suc n) (zip-length R xs ys h.1)

pub zip-trans : {A B C : Type 0} (R : A → B → Type 0) (S : B → C → Type 0) (T : A → C → Type 0) → ((a : A) (b : B) (c : C) → R a b → S b c → T a c) → (xs : List A) (ys : List B) (zs : List C) → AllZip R xs ys → AllZip S ys zs → AllZip T xs zs
zip-trans R S T step [] [] [] h k = tt
zip-trans R S T step [] [] (z ∷ zs) h k = absurd k
zip-trans R S T step [] (y ∷ ys) zs h k = absurd h
zip-trans R S T step (x ∷ xs) [] zs h k = absurd h
zip-trans R S T step (x ∷ xs) (y ∷ ys) [] h k = absurd k
zip-trans R S T step (x ∷ xs) (y ∷ ys) (z ∷ zs) h k = (step x y z h.0 k.0, zip-trans R S T step xs ys zs h.1 k.1)

-- one more item, which has its relation to the first of what is left
pub zip_more : {A B X : Type 0} (R : A → B → Type 0) (f : X → A) (xs left : List X) (x : X) (after : List X) (done now : List B) (one : B) → left ≡ x ∷ after → now ≡ done ++ one ∷ [] → R (f x) one
    → ((rest : List B) → AllZip R (map f left) rest → AllZip R (map f xs) (done ++ rest)) → (rest : List B) → AllZip R (map f after) rest → AllZip R (map f xs) (now ++ rest)
zip_more {B = B} R f xs left x after done now one split pushed holds before rest more =
    let whole : AllZip R (map f left) (one ∷ rest) = subst (λ items. AllZip R (map f items) (one ∷ rest)) (sym split) (holds, more) in
    subst (AllZip R (map f xs)) (sym (ap (λ (all : List B). all ++ rest) pushed ∙ append_assoc done (one ∷ []) rest)) (before (one ∷ rest) whole)
