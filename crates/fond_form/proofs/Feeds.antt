-- Texts up to the first line feed.
use Rattle.std.proofs.Common.{◌≡◌, ℕ, ◌+◌, ◌==◌, not, cond, Bool, true, false, suc, List, [], ◌∷◌, ◌++◌, ◌⊎◌, inl, inr, length, take, drop, codes, refl, ap, ◌∙◌, arith}
use Rattle.std.specs.Prelude.{⊤}
use Rattle.std.specs.List.{prefix_len}
use borrow.Author.Tests.{eqb-true}
use Rattle.fond_form.specs.Feeds.{is_in_line, HasNoFeed}

-- a text is empty, or begins with a line feed
abbrev pub EndsLine : List ℕ → Type 0
EndsLine [] = ⊤
EndsLine (b ∷ rest) = b ≡ 10

-- a text is a line without its line feed, followed by a rest that is empty or begins with a line feed
abbrev pub IsLineCut : List ℕ → List ℕ → List ℕ → Type 0
IsLineCut text piece rest = (text ≡ piece ++ rest) × HasNoFeed piece × EndsLine rest

is_the_feed : (v : Bool) (b : ℕ) → (b == 10) ≡ v → not v ≡ false → b ≡ 10
is_the_feed true b e f = eqb-true b 10 e
is_the_feed false b e f = absurd (cc)

cut_at : (v : Bool) (n b : ℕ) (text : List ℕ) → is_in_line b ≡ v → IsLineCut text (take n text) (drop n text) →
    IsLineCut (b ∷ text) (take (cond v (1 + n) 0) (b ∷ text)) (drop (cond v (1 + n) 0) (b ∷ text))
cut_at true n b text e h =
    let more : 1 + n ≡ suc n = omega arith in
    rw more (ap (λ t. b ∷ t) h.0, rw e h.1, h.2)
cut_at false n b text e h = (refl, refl, is_the_feed (b == 10) b refl e)

cut : (text : List ℕ) → IsLineCut text (take (prefix_len is_in_line text) text) (drop (prefix_len is_in_line text) text)
cut [] = (refl, refl, tt)
cut (b ∷ text) = cut_at (is_in_line b) (prefix_len is_in_line text) b text refl (cut text)

pub line_cut : (text piece rest : List ℕ) (n : ℕ) → n ≡ prefix_len is_in_line text → piece ≡ take n text → rest ≡ drop n text → IsLineCut text piece rest
line_cut text piece rest n e f g =
    let same : piece ≡ take (prefix_len is_in_line text) text = f ∙ ap (λ n. take n text) e in
    let further : rest ≡ drop (prefix_len is_in_line text) text = g ∙ ap (λ n. drop n text) e in
    rw (same, further) (cut text)

append_nil : (text : List ℕ) → text ++ [] ≡ text
append_nil [] = refl
append_nil (b ∷ text) = ap (λ t. b ∷ t) (append_nil text)

pub no_feed : (text piece rest : List ℕ) → IsLineCut text piece rest → length rest ≡ 0 → HasNoFeed text
no_feed text piece [] h e =
    let same : text ≡ piece = h.0 ∙ append_nil piece in
    rw same h.1
no_feed text piece (b ∷ rest) h e = absurd (omega (arith, e))

pub with_feed : (text piece rest further : List ℕ) (b : ℕ) → IsLineCut text piece rest → rest ≡ b ∷ further → HasNoFeed piece × (text ≡ piece ++ (codes "\n" ++ further))
with_feed text piece rest further b h e =
    let feed : b ≡ 10 = rw e at h.2 in
    let next : rest ≡ 10 ∷ further = e ∙ ap (λ c. c ∷ further) feed in
    (h.1, h.0 ∙ ap (λ t. piece ++ t) next)

-- a text has no line feed, or a first one
pub feed_or_none : (text : List ℕ) → HasNoFeed text ⊎ ((piece : List ℕ) × (further : List ℕ) × HasNoFeed piece × (text ≡ piece ++ (codes "\n" ++ further)))
feed_or_none text =
    let n = prefix_len is_in_line text in
    by_rest (drop n text) (cut text) refl
  where
    by_rest : (rest : List ℕ) → IsLineCut text (take (prefix_len is_in_line text) text) (drop (prefix_len is_in_line text) text) → drop (prefix_len is_in_line text) text ≡ rest →
        HasNoFeed text ⊎ ((piece : List ℕ) × (further : List ℕ) × HasNoFeed piece × (text ≡ piece ++ (codes "\n" ++ further)))
    by_rest [] h e = inl (no_feed text _ _ h (ap length e))
    by_rest (b ∷ further) h e = let found = with_feed text _ _ further b h e in inr (take (prefix_len is_in_line text) text, further, found.0, found.1)
