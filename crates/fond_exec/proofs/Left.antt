-- The words of the rest of a text, and the numbers of the words before it.
use Rattle.std.proofs.Common.{◌≡◌, ◌≢◌, ℕ, ◌+◌, ◌-◌, ◌≤◌, Bool, true, false, not, cond, List, [], ◌∷◌, ◌++◌, take, drop, length, refl, sym, ◌∙◌, ap, arith, add-zero, append_assoc, append-nil, length-drop, suc, subst}
use Rattle.std.specs.Prelude.{take_while}
use Rattle.std.specs.List.{prefix_len}
use Rattle.std.proofs.lemmas.List.Sums.{prefix_len-le-length}
use Rattle.std.proofs.lemmas.Slice.Zip.{all_zipped_more}
use Rattle.fond_text.specs.Bytes.{is_blank}
use Rattle.fond_exec.specs.Words.{ScriptWord, words_after, script_words}
use Rattle.fond_exec.specs.Scripts.{IsNumber, SpellNumbers, IsScript, IsScriptFault}

-- a byte of a word
abbrev pub in_word : ℕ → Bool
in_word c = not (is_blank c)

-- the number of bytes before the first blank of a text
abbrev pub run_len : List ℕ → ℕ
run_len text = prefix_len in_word text

blank_step : (at b : ℕ) (rest : List ℕ) → is_blank b ≡ true → words_after false at (b ∷ rest) ≡ words_after false (at + 1) rest
blank_step at b rest e = rw e refl

inside_step : (at b : ℕ) (rest : List ℕ) → is_blank b ≡ false → words_after true at (b ∷ rest) ≡ words_after true (at + 1) rest
inside_step at b rest e = rw e refl

inside_ends : (at b : ℕ) (rest : List ℕ) → is_blank b ≡ true → words_after true at (b ∷ rest) ≡ words_after false at (b ∷ rest)
inside_ends at b rest e = rw e refl

-- the word at the start of a text
abbrev word_at : ℕ → List ℕ → ScriptWord
word_at at text = record { at = at; bytes = take_while in_word text }

word_first : (at b : ℕ) (rest : List ℕ) → is_blank b ≡ false → words_after false at (b ∷ rest) ≡ word_at at (b ∷ rest) ∷ words_after true (at + 1) rest
word_first at b rest e = rw e refl

drop_one : (n b : ℕ) (rest : List ℕ) → drop (1 + n) (b ∷ rest) ≡ drop n rest
drop_one n b rest = let same : 1 + n ≡ suc n = omega arith in ap (λ m. drop m (b ∷ rest)) same

run_at : (v : Bool) (at b : ℕ) (rest : List ℕ) → is_blank b ≡ v → words_after true (at + 1) rest ≡ words_after false (at + 1 + run_len rest) (drop (run_len rest) rest) →
    words_after true at (b ∷ rest) ≡ words_after false (at + cond (not v) (1 + run_len rest) 0) (drop (cond (not v) (1 + run_len rest) 0) (b ∷ rest))
run_at true at b rest e further = inside_ends at b rest e ∙ ap (λ a. words_after false a (b ∷ rest)) (sym (add-zero at))
run_at false at b rest e further =
    let same : at + 1 + run_len rest ≡ at + (1 + run_len rest) = omega arith in
    inside_step at b rest e ∙ further ∙ λ i. words_after false (same i) (sym (drop_one (run_len rest) b rest) i)

-- no word begins among the further bytes of a word
run : (at : ℕ) (rest : List ℕ) → words_after true at rest ≡ words_after false (at + run_len rest) (drop (run_len rest) rest)
run at [] = refl
run at (b ∷ rest) = run_at (is_blank b) at b rest refl (run (at + 1) rest)

word_begins : (at b : ℕ) (rest : List ℕ) → is_blank b ≡ false →
    words_after false at (b ∷ rest) ≡ word_at at (b ∷ rest) ∷ words_after false (at + run_len (b ∷ rest)) (drop (run_len (b ∷ rest)) (b ∷ rest))
word_begins at b rest e = word_first at b rest e ∙ ap (λ back. word_at at (b ∷ rest) ∷ back) (sym (inside_step at b rest e) ∙ run at (b ∷ rest))

-- a text begins with a word if it does not begin with a blank
begins_word : (b : ℕ) (rest : List ℕ) → run_len (b ∷ rest) ≢ 0 → is_blank b ≡ false
begins_word b rest some = at_test (is_blank b) refl some where
  at_test : (v : Bool) → is_blank b ≡ v → cond (not v) (1 + run_len rest) 0 ≢ 0 → is_blank b ≡ false
  at_test true e some = absurd (some refl)
  at_test false e some = e

begins_blank : (b : ℕ) (rest : List ℕ) → run_len (b ∷ rest) ≡ 0 → is_blank b ≡ true
begins_blank b rest none = at_test (is_blank b) refl none where
  at_test : (v : Bool) → is_blank b ≡ v → cond (not v) (1 + run_len rest) 0 ≡ 0 → is_blank b ≡ true
  at_test true e none = e
  at_test false e none = absurd (omega arith)

-- the numbers so far are those of the words before the rest
pub record Progress (text rest numbers : List ℕ) : Type 0 where
  pub short : length rest ≤ length text
  pub before : List ScriptWord
  pub right : SpellNumbers before numbers
  pub split : script_words text ≡ before ++ words_after false (length text - length rest) rest

pub at_start : (text numbers : List ℕ) → numbers ≡ [] → Progress text text numbers
at_start text numbers none =
    let same : 0 ≡ length text - length text = omega arith in
    record {
      short = omega arith;
      before = [];
      right = subst (SpellNumbers []) (sym none) tt;
      split = ap (λ at. words_after false at text) same;
    }

pub over_blank : (text rest numbers : List ℕ) (b : ℕ) (further : List ℕ) → Progress text rest numbers → rest ≡ b ∷ further → run_len rest ≡ 0 → Progress text further numbers
over_blank text rest numbers b further so_far is none =
    let long : length rest ≡ suc (length further) = ap length is in
    let blank : is_blank b ≡ true = begins_blank b further (sym (ap run_len is) ∙ none) in
    let place : length text - length rest + 1 ≡ length text - length further = omega (arith, so_far.short, long) in
    record {
      short = omega (arith, so_far.short, long);
      before = so_far.before;
      right = so_far.right;
      split = so_far.split ∙ ap (λ back. so_far.before ++ back)
          (ap (words_after false (length text - length rest)) is ∙ blank_step (length text - length rest) b further blank
          ∙ ap (λ at. words_after false at further) place);
    }

-- the next word, and the words after it
next_word : (at : ℕ) (rest : List ℕ) (n : ℕ) (word after : List ℕ) → n ≡ run_len rest → n ≢ 0 → word ≡ take n rest → after ≡ drop n rest →
    words_after false at rest ≡ record { at = at; bytes = word } ∷ words_after false (at + n) after
next_word at [] n word after counted some front back = absurd (some counted)
next_word at (b ∷ rest) n word after counted some front back =
    let run_is : word ≡ take_while in_word (b ∷ rest) = front ∙ ap (λ m. take m (b ∷ rest)) counted in
    let left : after ≡ drop (run_len (b ∷ rest)) (b ∷ rest) = back ∙ ap (λ m. drop m (b ∷ rest)) counted in
    let first : is_blank b ≡ false = begins_word b rest (λ e. some (counted ∙ e)) in
    word_begins at b rest first ∙ λ i. record { at = at; bytes = sym run_is i } ∷ words_after false (at + sym counted i) (sym left i)

pub over_word : (text rest numbers : List ℕ) (n : ℕ) (word after : List ℕ) (number : ℕ) (more : List ℕ) → Progress text rest numbers → n ≡ run_len rest → n ≢ 0 →
    word ≡ take n rest → after ≡ drop n rest → IsNumber word number → more ≡ numbers ++ number ∷ [] → Progress text after more
over_word text rest numbers n word after number more so_far counted some front back spelled pushed =
    let fits : n ≤ length rest = omega (arith, counted, prefix_len-le-length in_word rest) in
    let long : length after ≡ length rest - n = ap length back ∙ length-drop n rest in
    let place : length text - length rest + n ≡ length text - length after = omega (arith, so_far.short, long, fits) in
    let at = length text - length rest in
    let this : ScriptWord = record { at = at; bytes = word } in
    record {
      short = omega (arith, so_far.short, long);
      before = so_far.before ++ this ∷ [];
      right = subst (SpellNumbers (so_far.before ++ this ∷ [])) (sym pushed) (all_zipped_more (λ (word : ScriptWord). IsNumber word.bytes) so_far.before numbers this number so_far.right spelled);
      split = so_far.split ∙ ap (λ back. so_far.before ++ back) (next_word at rest n word after counted some front back)
          ∙ ap (λ at. so_far.before ++ this ∷ words_after false at after) place
          ∙ sym (append_assoc so_far.before (this ∷ []) (words_after false (length text - length after) after));
    }

pub at_fault : (text rest numbers : List ℕ) (n : ℕ) (word after : List ℕ) (byte : ℕ) → Progress text rest numbers → n ≡ run_len rest → n ≢ 0 → word ≡ take n rest → after ≡ drop n rest →
    ((number : ℕ) → ¬ IsNumber word number) → byte ≡ length text - length rest → IsScriptFault text byte
at_fault text rest numbers n word after byte so_far counted some front back wrong is =
    let at = length text - length rest in
    record {
      before = so_far.before;
      item = record { at = at; bytes = word };
      after = words_after false (at + n) after;
      split = so_far.split ∙ ap (λ more. so_far.before ++ more) (next_word at rest n word after counted some front back);
      has = ((numbers, so_far.right), wrong, is);
    }

pub at_end : (text rest numbers : List ℕ) → Progress text rest numbers → length rest ≡ 0 → IsScript text numbers
at_end text [] numbers so_far none = subst (λ words. SpellNumbers words numbers) (sym (so_far.split ∙ append-nil so_far.before)) so_far.right
at_end text (b ∷ rest) numbers so_far none = absurd (omega (arith, none))
