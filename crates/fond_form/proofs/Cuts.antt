-- Words up to the first space, and words that pass a test.
use Rattle.std.proofs.lemmas.Bool.{and_parts}
use Rattle.std.proofs.Common.{◌≡◌, ◌≢◌, ℕ, ◌+◌, ◌==◌, ◌&&◌, ◌||◌, not, cond, Bool, true, false, IsTrue, suc, List, [], ◌∷◌, ◌++◌, length, take, drop, codes, refl, sym, ap, ◌∙◌, arith, append_assoc}
use Rattle.std.specs.Char.{is_ascii_digit}
use Rattle.std.specs.List.{list_all, prefix_len}
use Rattle.std.specs.Str.{bytes_eq}
use Rattle.std.proofs.lemmas.Bool.Decides.{nat_tests}
use Rattle.std.proofs.lemmas.Slice.Eq.{bytes_eq-Decides}
use Rattle.std.proofs.lemmas.List.Elements.{All-cons, All-nil, All-append}
use borrow.Author.Tests.{eqb-true}
use Rattle.fond_form.specs.Lines.{spaced, is_number, is_target, AreWords}
use Rattle.fond_form.specs.Parts.{is_in_word, EndsWord, IsCut, HasNoWord}
use Rattle.fond_form.specs.WordTests.{test_of}
use Rattle.fond_form.specs.declared.word.WordKind.{WordKind}
use Rattle.fond_form.specs.declared.word.WordKind.TheVariants.{Target, Number}
use Rattle.fond_form.proofs.Literals.{same_head, same_tail}

is_the_space : (v : Bool) (b : ℕ) → (b == 32) ≡ v → not v ≡ false → b ≡ 32
is_the_space true b e f = eqb-true b 32 e
is_the_space false b e f = absurd (cc)

cut_at : (v : Bool) (n b : ℕ) (text : List ℕ) → is_in_word b ≡ v → IsCut text (take n text) (drop n text) →
    IsCut (b ∷ text) (take (cond v (1 + n) 0) (b ∷ text)) (drop (cond v (1 + n) 0) (b ∷ text))
cut_at true n b text e h =
    let more : 1 + n ≡ suc n = omega arith in
    rw more (ap (λ t. b ∷ t) h.0, rw e h.1, h.2)
cut_at false n b text e h = (refl, refl, is_the_space (b == 32) b refl e)

pub cut : (text : List ℕ) → IsCut text (take (prefix_len is_in_word text) text) (drop (prefix_len is_in_word text) text)
cut [] = (refl, refl, tt)
cut (b ∷ text) = cut_at (is_in_word b) (prefix_len is_in_word text) b text refl (cut text)

pub cut_is : (text word rest : List ℕ) (n : ℕ) → n ≡ prefix_len is_in_word text → word ≡ take n text → rest ≡ drop n text → IsCut text word rest
cut_is text word rest n e f g =
    let same : word ≡ take (prefix_len is_in_word text) text = f ∙ ap (λ n. take n text) e in
    let further : rest ≡ drop (prefix_len is_in_word text) text = g ∙ ap (λ n. drop n text) e in
    rw (same, further) (cut text)

-- a text has one first word
pub same_word : (a b s t : List ℕ) → IsTrue (list_all is_in_word a) → IsTrue (list_all is_in_word b) → EndsWord s → EndsWord t → a ++ s ≡ b ++ t → (a ≡ b) × (s ≡ t)
same_word [] [] s t h k i j e = (refl, e)
same_word [] (y ∷ b) [] t h k i j e = absurd (cc)
same_word [] (y ∷ b) (x ∷ s) t h k i j e =
    let p = and_parts (is_in_word y) (list_all is_in_word b) k in
    let q : y ≡ 32 = sym (same_head x y s (b ++ t) e) ∙ i in
    let r = rw q at p.0 in absurd (cc)
same_word (x ∷ a) [] s [] h k i j e = absurd (cc)
same_word (x ∷ a) [] s (y ∷ t) h k i j e =
    let p = and_parts (is_in_word x) (list_all is_in_word a) h in
    let q : x ≡ 32 = same_head x y (a ++ s) t e ∙ j in
    let r = rw q at p.0 in absurd (cc)
same_word (x ∷ a) (y ∷ b) s t h k i j e =
    let p = and_parts (is_in_word x) (list_all is_in_word a) h in
    let q = and_parts (is_in_word y) (list_all is_in_word b) k in
    let more = same_word a b s t p.1 q.1 i j (same_tail x y (a ++ s) (b ++ t) e) in
    let first = same_head x y (a ++ s) (b ++ t) e in
    (cc, more.1)

digit_no_space : (b : ℕ) → is_ascii_digit b ≡ true → is_in_word b ≡ true
digit_no_space b e = grind (arith, nat_tests)

digits_no_space : (digits : List ℕ) → list_all is_ascii_digit digits ≡ true → list_all is_in_word digits ≡ true
digits_no_space [] e = refl
digits_no_space (b ∷ digits) e =
    let p = and_parts (is_ascii_digit b) (list_all is_ascii_digit digits) e in
    rw (digit_no_space b p.0) (digits_no_space digits p.1)

-- the first byte of a number is a digit, and it has no space
pub number_first : (b : ℕ) (rest : List ℕ) → is_number (b ∷ rest) ≡ true → (is_ascii_digit b ≡ true) × (list_all is_ascii_digit rest ≡ true)
number_first b rest e =
    let p = and_parts (is_ascii_digit b && (not (b == 48) || length rest == 0)) (list_all is_ascii_digit rest) e in
    ((and_parts (is_ascii_digit b) (not (b == 48) || length rest == 0) p.0).0, p.1)

pub number_no_space : (word : List ℕ) → is_number word ≡ true → list_all is_in_word word ≡ true
number_no_space [] e = absurd (cc)
number_no_space (b ∷ rest) e = let p = number_first b rest e in rw (digit_no_space b p.0) (digits_no_space rest p.1)

pub either : (a b : Bool) → (a || b) ≡ true → (P : Type 0) → (a ≡ true → P) → (b ≡ true → P) → P
either true b e P f g = f refl
either false b e P f g = g e

pub target_no_space : (word : List ℕ) → is_target word ≡ true → list_all is_in_word word ≡ true
target_no_space word e =
    either (bytes_eq word (codes "goal")) (is_number word) e (list_all is_in_word word ≡ true)
    (λ h. rw ((bytes_eq-Decides word (codes "goal")).0 h) refl)
    (λ h. number_no_space word h)

-- words that pass a test have no space
abbrev pub HasNoSpaces : (List ℕ → Bool) → Type 0
HasNoSpaces test = (word : List ℕ) → test word ≡ true → list_all is_in_word word ≡ true

pub kind_no_space : (kind : WordKind) → HasNoSpaces (test_of kind)
kind_no_space Target = target_no_space
kind_no_space Number = number_no_space

-- a word that does not pass a test, after a space, begins no text of one that does
pub no_word : (kind : WordKind) (text inner word rest : List ℕ) → text ≡ 32 ∷ inner → IsCut inner word rest → test_of kind word ≡ false → HasNoWord (test_of kind) text
no_word kind text inner word rest e cut none other further passes ends f =
    let same = same_word word other rest further cut.1 (kind_no_space kind other passes) cut.2 ends (sym cut.0 ∙ same_tail 32 32 _ _ (sym e ∙ f)) in
    let right : test_of kind word ≡ true = ap (test_of kind) same.0 ∙ passes in
    absurd (cc)

pub no_space_no_word : (test : List ℕ → Bool) (text : List ℕ) → ((rest : List ℕ) → text ≢ 32 ∷ rest) → HasNoWord test text
no_space_no_word test text h word rest passes ends e = h (word ++ rest) e

spaced_more : (words : List (List ℕ)) (word rest : List ℕ) → spaced (words ++ (word ∷ [])) ++ rest ≡ spaced words ++ (32 ∷ (word ++ rest))
spaced_more [] word rest = ap (λ t. 32 ∷ t) (append_assoc word [] rest)
spaced_more (first ∷ words) word rest =
    ap (λ t. 32 ∷ t) (append_assoc first (spaced (words ++ (word ∷ []))) rest ∙ ap (λ t. first ++ t) (spaced_more words word rest) ∙ sym (append_assoc first (spaced words) (32 ∷ (word ++ rest))))

-- words that pass a test, with one more
pub words_more : (test : List ℕ → Bool) (text rest further : List ℕ) → ((words : List (List ℕ)) × AreWords test words × (text ≡ spaced words ++ rest)) →
    ((word : List ℕ) × IsTrue (test word) × EndsWord further × (rest ≡ 32 ∷ (word ++ further))) →
    (words : List (List ℕ)) × AreWords test words × (text ≡ spaced words ++ further)
words_more test text rest further h one =
    let P = λ (word : List ℕ). IsTrue (test word) in (
      h.0 ++ (one.0 ∷ []),
      All-append P h.0 (one.0 ∷ []) h.1 (All-cons P one.0 [] one.1 (All-nil P)),
      h.2 ∙ ap (λ t. spaced h.0 ++ t) one.3 ∙ sym (spaced_more h.0 one.0 further),
    )
