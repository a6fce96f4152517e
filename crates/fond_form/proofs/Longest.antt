-- Words that pass a test, before a rest that begins with none.
use Rattle.std.proofs.Common.{◌≡◌, ℕ, ◌||◌, Bool, true, false, IsTrue, List, [], ◌∷◌, ◌++◌, codes, refl, sym, ap, ◌∙◌, arith, append_assoc}
use Rattle.std.proofs.lemmas.Bool.Decides.{nat_tests}
use Rattle.std.specs.Char.{is_ascii_digit}
use Rattle.std.specs.Str.{bytes_eq}
use Rattle.std.proofs.lemmas.Slice.Eq.{bytes_eq-Decides}
use Rattle.std.proofs.lemmas.List.Elements.{All-head, All-tail}
use Rattle.fond_form.specs.Lines.{spaced, is_number, is_target, AreWords}
use Rattle.fond_form.specs.Parts.{EndsWord, HasNoWord}
use Rattle.fond_form.proofs.Literals.{same_head, same_tail}
use Rattle.fond_form.proofs.Cuts.{same_word, HasNoSpaces, number_first, either}

pub ends_words : (words : List (List ℕ)) (more : List ℕ) → EndsWord more → EndsWord (spaced words ++ more)
ends_words [] more h = h
ends_words (word ∷ words) more h = refl

module _ (test : List ℕ → Bool) (no_space : HasNoSpaces test) where
  abbrev Passes : List ℕ → Type 0
  Passes word = IsTrue (test word)

  pub longest : (a b : List (List ℕ)) (s t : List ℕ) → AreWords test a → AreWords test b → HasNoWord test s → HasNoWord test t → EndsWord s → EndsWord t →
      spaced a ++ s ≡ spaced b ++ t → (a ≡ b) × (s ≡ t)
  longest [] [] s t h k n m i j e = (refl, e)
  longest [] (y ∷ b) s t h k n m i j e =
      absurd (n y (spaced b ++ t) (All-head Passes y b k) (ends_words b t j) (e ∙ ap (λ u. 32 ∷ u) (append_assoc y (spaced b) t)))
  longest (x ∷ a) [] s t h k n m i j e =
      absurd (m x (spaced a ++ s) (All-head Passes x a h) (ends_words a s i) (sym e ∙ ap (λ u. 32 ∷ u) (append_assoc x (spaced a) s)))
  longest (x ∷ a) (y ∷ b) s t h k n m i j e =
      let tail = same_tail 32 32 _ _ e in
      let first = same_word x y (spaced a ++ s) (spaced b ++ t) (no_space x (All-head Passes x a h)) (no_space y (All-head Passes y b k)) (ends_words a s i) (ends_words b t j)
      (sym (append_assoc x (spaced a) s) ∙ tail ∙ append_assoc y (spaced b) t) in
      let more = longest a b s t (All-tail Passes x a h) (All-tail Passes y b k) n m i j first.1 in
      (cc, more.1)

not_a_digit : (b : ℕ) → b ≡ 58 → ¬ is_ascii_digit b ≡ true
not_a_digit b e f = grind (arith, nat_tests)

no_colon : (word rest l : List ℕ) → is_target word ≡ true → ¬ 58 ∷ l ≡ word ++ rest
no_colon [] rest l h e = absurd (cc)
no_colon (b ∷ word) rest l h e =
    let first = same_head 58 b l (word ++ rest) e in
    either (bytes_eq (b ∷ word) (codes "goal")) (is_number (b ∷ word)) h ⊥
    (λ g. let same = (bytes_eq-Decides (b ∷ word) (codes "goal")).0 g in let other = same_head b 103 word _ same in omega arith)
    (λ g. not_a_digit b (sym first) (number_first b word g).0)

by_number : (v n : Bool) → n ≡ true → (v || n) ≡ true
by_number true n e = refl
by_number false n e = e

pub number_is_target : (word : List ℕ) → is_number word ≡ true → is_target word ≡ true
number_is_target word e = by_number (bytes_eq word (codes "goal")) (is_number word) e

-- a colon begins no target
pub colon_no_target : (l : List ℕ) → HasNoWord is_target (codes " :" ++ l)
colon_no_target l word rest h ends e = no_colon word rest l h (same_tail 32 32 _ _ e)

-- a colon begins no number
pub colon_no_number : (l : List ℕ) → HasNoWord is_number (codes " :" ++ l)
colon_no_number l word rest h ends e = colon_no_target l word rest (number_is_target word h) ends e
