-- Tokens that are right after others, by the number of open parentheses.
use Rattle.std.proofs.Common.{◌≡◌, ◌≢◌, ℕ, ◌+◌, ◌-◌, ◌<◌, Bool, true, false, cond, List, [], ◌∷◌, ◌++◌, refl, sym, ◌∙◌, ap, ◌⊎◌, inl, inr, arith, append_assoc, append-nil, subst}
use Rattle.std.specs.Prelude.{⊤}
use Rattle.std.proofs.lemmas.List.Sums.{sum_by-append}
use Rattle.fond_text.specs.declared.code.TheConstants.{DEEPEST}
use Rattle.fond_tree.specs.Faults.{Shape, OneTree, Forest, is_opening, is_closing, opened, closed, IsFaulty, IsWhole, AreRight}
use Rattle.fond_tree.specs.Marks.{Mark, tokens_of}
use Rattle.fond_tree.specs.Tokens.{Token, Opens, Closes, Names, Stray}
use Rattle.fond_tree.proofs.Places.{fold-push}

-- a token may occur with this many parentheses open, at the beginning of a text or after other tokens
abbrev pub MayStand : Bool → ℕ → Token → Type 0
MayStand begun level (Opens at) = (begun ≡ true → 0 < level) × (level < DEEPEST)
MayStand begun level Closes = 0 < level
MayStand begun level (Names at bytes) = begun ≡ true → 0 < level
MayStand begun level Stray = ⊥

-- the number of open parentheses after a token
abbrev pub open_after : ℕ → Token → ℕ
open_after level (Opens at) = level + 1
open_after level Closes = level - 1
open_after level (Names at bytes) = level
open_after level Stray = level

-- each of these tokens may follow those before it
abbrev pub AllMayStand : Bool → ℕ → List Token → Type 0
AllMayStand begun level [] = ⊤
AllMayStand begun level (token ∷ more) = MayStand begun level token × AllMayStand true (open_after level token) more

-- a tree has begun if there are tokens; in a forest the next tree begins anew
abbrev pub HasBegun : Shape → List Mark → Bool → Type 0
HasBegun OneTree before begun = before ≢ [] → begun ≡ true
HasBegun Forest before begun = ⊤

-- the tokens before: whether a tree has begun, and how many parentheses they leave open
pub record IsOpen (shape : Shape) (before : List Mark) (begun : Bool) (level : ℕ) : Type 0 where
  pub some : HasBegun shape before begun
  pub counted : opened before ≡ closed before + level

-- a tree has begun
pub has_begun : (shape : Shape) (before : List Mark) → HasBegun shape before true
has_begun OneTree before = λ some. refl
has_begun Forest before = tt

-- tokens that leave a parenthesis open are no whole tree
pub open_unfinished : (shape : Shape) (before : List Mark) → closed before < opened before → ¬ IsWhole shape before
open_unfinished OneTree before some whole = absurd (omega (arith, some, whole.1))
open_unfinished Forest before some whole = whole

pub opened-append : (xs ys : List Mark) → opened (xs ++ ys) ≡ opened xs + opened ys
opened-append xs ys = sum_by-append (λ mark. cond (is_opening mark.token) 1 0) xs ys

pub closed-append : (xs ys : List Mark) → closed (xs ++ ys) ≡ closed xs + closed ys
closed-append xs ys = sum_by-append (λ mark. cond (is_closing mark.token) 1 0) xs ys

pub opened-push : (xs : List Mark) (mark : Mark) → opened (xs ++ mark ∷ []) ≡ opened xs + cond (is_opening mark.token) 1 0
opened-push xs mark = fold-push (λ (n : ℕ) (m : Mark). n + cond (is_opening m.token) 1 0) 0 xs mark

pub closed-push : (xs : List Mark) (mark : Mark) → closed (xs ++ mark ∷ []) ≡ closed xs + cond (is_closing mark.token) 1 0
closed-push xs mark = fold-push (λ (n : ℕ) (m : Mark). n + cond (is_closing m.token) 1 0) 0 xs mark

-- tokens are no whole tree if a parenthesis is open wherever a tree has begun
begun_unfinished : (shape : Shape) (before : List Mark) (begun : Bool) (level : ℕ) → IsOpen shape before begun level → (begun ≡ true → 0 < level) → ¬ IsWhole shape before
begun_unfinished OneTree before begun level o free whole = absurd (omega (arith, o.counted, whole.1, free (o.some whole.0)))
begun_unfinished Forest before begun level o free whole = whole

-- a token that may occur is not faulty
unfaulty : (shape : Shape) (before : List Mark) (begun : Bool) (level : ℕ) (token : Token) (code : ℕ) → IsOpen shape before begun level → MayStand begun level token → ¬ IsFaulty shape before token code
unfaulty shape before begun level (Opens at) code o may (inl whole) = begun_unfinished shape before begun level o may.0 whole.0
unfaulty shape before begun level (Opens at) code o may (inr deep) = absurd (omega (arith, o.counted, deep.0, may.1))
unfaulty shape before begun level Closes code o may faulty = absurd (omega (arith, o.counted, faulty.0))
unfaulty shape before begun level (Names at bytes) code o may faulty = begun_unfinished shape before begun level o may faulty.0
unfaulty shape before begun level Stray code o may faulty = may

open_more : (begun : Bool) (level o c : ℕ) (token : Token) → o ≡ c + level → MayStand begun level token → o + cond (is_opening token) 1 0 ≡ c + cond (is_closing token) 1 0 + open_after level token
open_more begun level o c (Opens at) e may = omega arith
open_more begun level o c Closes e may = omega arith
open_more begun level o c (Names at bytes) e may = omega arith
open_more begun level o c Stray e may = absurd may

opens_more : (shape : Shape) (before : List Mark) (begun : Bool) (level : ℕ) (mark : Mark) → IsOpen shape before begun level → MayStand begun level mark.token → IsOpen shape (before ++ mark ∷ []) true (open_after level mark.token)
opens_more shape before begun level mark o may = record {
  some = has_begun shape (before ++ mark ∷ []);
  counted = opened-push before mark ∙ open_more begun level (opened before) (closed before) mark.token o.counted may ∙ ap (λ n. n + open_after level mark.token) (sym (closed-push before mark));
}

-- none of the tokens that may follow these is faulty
none_faulty : (shape : Shape) (front : List Mark) (before : List Mark) (begun : Bool) (level : ℕ) (mark : Mark) (after : List Mark) (code : ℕ) →
    IsOpen shape before begun level → AllMayStand begun level (tokens_of (front ++ mark ∷ after)) → ¬ IsFaulty shape (before ++ front) mark.token code
none_faulty shape [] before begun level mark after code o may faulty =
    unfaulty shape before begun level mark.token code o may.0 (subst (λ (marks : List Mark). IsFaulty shape marks mark.token code) (append-nil before) faulty)
none_faulty shape (x ∷ front) before begun level mark after code o may faulty =
    none_faulty shape front (before ++ x ∷ []) true (open_after level x.token) mark after code (opens_more shape before begun level x o may.0) may.1
    (subst (λ (marks : List Mark). IsFaulty shape marks mark.token code) (sym (append_assoc before (x ∷ []) front)) faulty)

-- an item of two lists is in the first or in the second
pub split : (xs ys front : List Mark) (mark : Mark) (after : List Mark) → xs ++ ys ≡ front ++ mark ∷ after →
    ((rest : List Mark) × (xs ≡ front ++ mark ∷ rest)) ⊎ ((rest : List Mark) × (front ≡ xs ++ rest) × (ys ≡ rest ++ mark ∷ after))
split [] ys front mark after e = inr (front, refl, e)
split (x ∷ xs) ys [] mark after e = inl (xs, let same : x ≡ mark = cc in ap (λ m. m ∷ xs) same)
split (x ∷ xs) ys (y ∷ front) mark after e = let heads = both x y _ _ e in further heads.0 (split xs ys front mark after heads.1) where
  both : (x y : Mark) (some more : List Mark) → x ∷ some ≡ y ∷ more → (x ≡ y) × (some ≡ more)
  both x y some more e = (cc, cc)

  further : x ≡ y → ((rest : List Mark) × (xs ≡ front ++ mark ∷ rest)) ⊎ ((rest : List Mark) × (front ≡ xs ++ rest) × (ys ≡ rest ++ mark ∷ after)) →
      ((rest : List Mark) × (x ∷ xs ≡ y ∷ (front ++ mark ∷ rest))) ⊎ ((rest : List Mark) × (y ∷ front ≡ x ∷ (xs ++ rest)) × (ys ≡ rest ++ mark ∷ after))
  further same (inl h) = let e = h.1 in inl (h.0, cc)
  further same (inr h) = let e = h.1 in inr (h.0, cc, h.2)

-- tokens that may follow tokens that are right are right
pub right_join : (shape : Shape) (before front : List Mark) (begun : Bool) (level : ℕ) → AreRight shape before → IsOpen shape before begun level → AllMayStand begun level (tokens_of front) → AreRight shape (before ++ front)
right_join shape before front begun level right o may some mark after code e faulty = at_split (split before front some mark after e) where
  at_split : ((rest : List Mark) × (before ≡ some ++ mark ∷ rest)) ⊎ ((rest : List Mark) × (some ≡ before ++ rest) × (front ≡ rest ++ mark ∷ after)) → ⊥
  at_split (inl h) = right some mark h.0 code h.1 faulty
  at_split (inr h) =
      none_faulty shape h.0 before begun level mark after code o (subst (λ (marks : List Mark). AllMayStand begun level (tokens_of marks)) h.2 may)
      (subst (λ (marks : List Mark). IsFaulty shape marks mark.token code) h.1 faulty)

pub right_empty : (shape : Shape) → AreRight shape []
right_empty shape [] mark after code e faulty = absurd cc
right_empty shape (x ∷ front) mark after code e faulty = absurd cc

-- nothing is open at the beginning of a text
pub empty_open : (shape : Shape) → IsOpen shape [] false 0
empty_open OneTree = record { some = λ some. absurd (some refl); counted = refl }
empty_open Forest = record { some = tt; counted = refl }

-- a tree may begin anew in a forest, if nothing is open
pub anew_open : (before : List Mark) → opened before ≡ closed before → IsOpen Forest before false 0
anew_open before e = record { some = tt; counted = omega (arith, e) }
