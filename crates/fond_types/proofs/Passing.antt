-- Tests that items pass place by place, with one more.
use Rattle.std.proofs.Common.{◌≡◌, ℕ, ◌+◌, ◌&&◌, Bool, true, false, List, [], ◌∷◌, ◌++◌, Some, map, take, slice_get, sym, ap, ◌∙◌, subst, Result, Ok, Err, IfOk, OnOk, IsOkAnd, MatchResult}
use Rattle.std.specs.List.{AllZip}
use Rattle.std.proofs.lemmas.List.{map-append}
use Rattle.fond_text.specs.Lists.{each_passes}
use Rattle.fond_names.proofs.Among.{next_taken}

pub passes_more : {N : Type 0} (tests : List (N → Bool)) (items : List N) (test : N → Bool) (item : N) → each_passes tests items ≡ true → test item ≡ true → each_passes (tests ++ test ∷ []) (items ++ item ∷ []) ≡ true
passes_more [] [] test item all one = ap (λ b. b && true) one
passes_more [] (n ∷ items) test item all one = cc
passes_more (t ∷ tests) [] test item all one = cc
passes_more (t ∷ tests) (n ∷ items) test item all one = by (t n) all (λ rest. passes_more tests items test item rest one)
  where
    by : (b : Bool) → (b && each_passes tests items) ≡ true → (each_passes tests items ≡ true → each_passes (tests ++ test ∷ []) (items ++ item ∷ []) ≡ true) → (b && each_passes (tests ++ test ∷ []) (items ++ item ∷ [])) ≡ true
    by true rest later = later rest
    by false rest later = cc

-- one more item passes the test of the next form of a list
pub passes_next : {A N : Type 0} (test : A → N → Bool) (forms : List A) (i : ℕ) (form : A) (items : List N) (item : N) → slice_get forms i ≡ Some form → each_passes (map test (take i forms)) items ≡ true → test form item ≡ true →
    each_passes (map test (take (i + 1) forms)) (items ++ item ∷ []) ≡ true
passes_next test forms i form items item got before one =
    ap (λ tests. each_passes tests (items ++ item ∷ [])) (ap (map test) (next_taken forms i form got) ∙ map-append test (take i forms) (form ∷ []))
    ∙ passes_more (map test (take i forms)) items (test form) item before one

zip_more : {A N : Type 0} (R : A → N → Type 0) (forms : List A) (items : List N) (form : A) (item : N) → AllZip R forms items → R form item → AllZip R (forms ++ form ∷ []) (items ++ item ∷ [])
zip_more R [] [] form item all one = (one, tt)
zip_more R [] (n ∷ items) form item all one = absurd all
zip_more R (f ∷ forms) [] form item all one = absurd all
zip_more R (f ∷ forms) (n ∷ items) form item all one = (all.0, zip_more R forms items form item all.1 one)

-- one more item goes with the next form of a list
pub zip_next : {A N : Type 0} (R : A → N → Type 0) (forms : List A) (i : ℕ) (form : A) (items : List N) (item : N) → slice_get forms i ≡ Some form → AllZip R (take i forms) items → R form item → AllZip R (take (i + 1) forms) (items ++ item ∷ [])
zip_next {A} R forms i form items item got before one = subst (λ (some : List A). AllZip R some (items ++ item ∷ [])) (sym (next_taken forms i form got)) (zip_more R (take i forms) items form item before one)

-- what holds of a result in one way holds of it in another
pub if_ok : {A : Type 0} {E : Type 0} (P Q : A → Type 0) (result : Result A E) → ((a : A) → P a → Q a) → IfOk result P → IfOk result Q
if_ok P Q (Ok a) so holds = so a holds
if_ok P Q (Err e) so holds = tt

-- what follows from success follows from it
pub on_ok : {A : Type 0} {E : Type 0} {P Q : Type 0} (result : Result A E) → (P → Q) → OnOk result P → OnOk result Q
on_ok (Ok a) so holds = so holds
on_ok (Err e) so holds = tt

-- what holds of a value holds in its own way of what is made from it
pub if_made : {A : Type 0} {B : Type 0} {E : Type 0} (P : A → Type 0) (Q : B → Type 0) (Made : A → B → Type 0) (one : Result A E) (made : Result B E) →
    MatchResult one (λ a. IsOkAnd made (Made a)) (λ e. made ≡ Err e) → ((a : A) (b : B) → P a → Made a b → Q b) → IfOk one P → IfOk made Q
if_made P Q Made (Ok a) (Ok b) is so holds = so a b holds is
if_made P Q Made (Ok a) (Err e) is so holds = tt
if_made P Q Made (Err e) (Ok b) is so holds = absurd (cc)
if_made P Q Made (Err e) (Err other) is so holds = tt

-- two facts of a value are one
pub if_both : {A : Type 0} {E : Type 0} (P Q : A → Type 0) (result : Result A E) → IfOk result P → IfOk result Q → IfOk result (λ a. P a × Q a)
if_both P Q (Ok a) p q = (p, q)
if_both P Q (Err e) p q = tt
