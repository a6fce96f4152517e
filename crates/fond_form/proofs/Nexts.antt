-- The next of the literals or words that are left.
use Rattle.std.proofs.Common.{◌≡◌, ◌≢◌, ℕ, Bool, true, false, IsTrue, List, [], ◌∷◌, ◌++◌, All, length, refl, sym, ap, ◌∙◌}
use Rattle.std.specs.List.{flat_map}
use Rattle.std.proofs.lemmas.List.{append_cancel_right}
use Rattle.std.proofs.lemmas.List.Elements.{All-head, All-tail}
use Rattle.fond_form.specs.Lines.{IsGroup, group_text, spaced, AreWords, WrittenLiteral, sign_text, literal_text}
use Rattle.fond_form.specs.Parts.{IsGroupText, HasNoLiteral, IsCut, EndsWord}
use Rattle.fond_form.proofs.Groups.{same_rest}
use Rattle.fond_form.proofs.Literals.{literal_apart, same_sign, same_tail, after_sign, after_space}
use Rattle.fond_form.proofs.Cuts.{same_word, HasNoSpaces}

pub sign_long : (sign : Bool) → length (sign_text sign) ≡ 1
sign_long true = refl
sign_long false = refl

-- what comes next of the literals that are left
pub record NextLiteral (left : List WrittenLiteral) (sign : Bool) (atom further : List ℕ) : Type 0 where
  pub first : WrittenLiteral
  pub more : List WrittenLiteral
  pub left_is : left ≡ first ∷ more
  pub sign_is : sign ≡ first.sign
  pub atom_is : atom ≡ group_text first.leaves
  pub behind_is : further ≡ flat_map literal_text more
  pub more_right : All (λ literal. IsGroup literal.leaves) more

pub next_literal : (left : List WrittenLiteral) (sign : Bool) (atom further : List ℕ) → All (λ literal. IsGroup literal.leaves) left → IsGroupText atom →
    32 ∷ (sign_text sign ++ (atom ++ further)) ≡ flat_map literal_text left → NextLiteral left sign atom further
next_literal [] sign atom further h group e = absurd (cc)
next_literal (first ∷ more) sign atom further h group e =
    let P = λ (literal : WrittenLiteral). IsGroup literal.leaves in
    let apart = after_space _ _ (e ∙ literal_apart first (flat_map literal_text more)) in
    let atoms = after_sign sign first.sign _ _ apart in
    let same = same_rest group.0 first.leaves _ _ group.1 (All-head P first more h) (ap (λ t. t ++ further) (sym group.2) ∙ atoms) in
    record {
      first = first;
      more = more;
      left_is = refl;
      sign_is = same_sign sign first.sign _ _ apart;
      atom_is = append_cancel_right atom (group_text first.leaves) further (atoms ∙ ap (λ t. group_text first.leaves ++ t) (sym same));
      behind_is = same;
      more_right = All-tail P first more h;
    }

pub no_literal_left : (literals : List WrittenLiteral) (rest : List ℕ) → All (λ literal. IsGroup literal.leaves) literals → HasNoLiteral rest → rest ≡ flat_map literal_text literals → literals ≡ []
no_literal_left [] rest h none e = refl
no_literal_left (literal ∷ literals) rest h none e =
    absurd (none literal (flat_map literal_text literals) (All-head (λ (literal : WrittenLiteral). IsGroup literal.leaves) literal literals h) e)

ends_spaced : (words : List (List ℕ)) → EndsWord (spaced words)
ends_spaced [] = tt
ends_spaced (word ∷ words) = refl

-- the next of the words that are left, which pass a test
pub record NextWord (test : List ℕ → Bool) (left : List (List ℕ)) (word further : List ℕ) : Type 0 where
  pub more : List (List ℕ)
  pub left_is : left ≡ word ∷ more
  pub behind_is : further ≡ spaced more
  pub right : test word ≡ true
  pub more_right : AreWords test more

pub next_word : (test : List ℕ → Bool) → HasNoSpaces test → (left : List (List ℕ)) (inner word further : List ℕ) → AreWords test left → 32 ∷ inner ≡ spaced left → IsCut inner word further → NextWord test left word further
next_word test no_space [] inner word further h e cut = absurd (cc)
next_word test no_space (first ∷ more) inner word further h e cut =
    let P = λ (word : List ℕ). IsTrue (test word) in
    let right = All-head P first more h in
    let same = same_word word first further (spaced more) cut.1 (no_space first right) cut.2 (ends_spaced more) (sym cut.0 ∙ same_tail 32 32 inner (first ++ spaced more) e) in
    record {
      more = more;
      left_is = ap (λ w. w ∷ more) (sym same.0);
      behind_is = same.1;
      right = rw same.0 right;
      more_right = All-tail P first more h;
    }

pub no_word_left : (words : List (List ℕ)) (rest : List ℕ) → ((further : List ℕ) → rest ≢ 32 ∷ further) → rest ≡ spaced words → words ≡ []
no_word_left [] rest none e = refl
no_word_left (word ∷ words) rest none e = absurd (none (word ++ spaced words) e)
