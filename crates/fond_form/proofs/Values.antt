-- Values at the beginning of a text, as they are cut.
use Rattle.std.proofs.Common.{◌≡◌, ◌≢◌, ℕ, ◌<◌, ◌-◌, Bool, true, false, IsTrue, List, [], ◌∷◌, ◌++◌, Option, Some, None, length, take, drop, refl, sym, ap, ◌∙◌, arith, append_assoc, length-append}
use Rattle.std.specs.Prelude.{MatchOption}
use Rattle.std.proofs.lemmas.List.{append-nil}
use Rattle.std.proofs.lemmas.List.Elements.{All-head}
use Rattle.std.proofs.Math.Seq.{take-append_seam, drop-append_seam}
use Rattle.fond_form.specs.Lines.{spaced, is_number, is_target, AreWords, literals_text}
use Rattle.fond_form.specs.Parts.{IsGroupText, HasNoGroup, IsLiteralsText, EndsWord, IsCut, HasNoWord}
use Rattle.fond_form.specs.Cutting.{HasNoValue, BeginsWith, HasNoWords, BeginsWithWords}
use Rattle.fond_form.specs.declared.table.Sort.TheVariants.{Nothing, Action, Short, Long, Target, Shorts, Targets, Literals}
use Rattle.fond_form.proofs.Cuts.{same_word, number_no_space, target_no_space}
use Rattle.fond_form.proofs.Longest.{ends_words}

-- what holds of an option that has a value, and of one that has none, by what they imply
pub match_more : {A N M : Type 0} {S T : A → Type 0} (o : Option A) → (N → M) → ((a : A) → S a → T a) → MatchOption o N S → MatchOption o M T
match_more None f g h = f h
match_more (Some a) f g h = g a h

pub no_nothing : (text : List ℕ) → text ≢ [] → HasNoValue Nothing text
no_nothing text some value rest right ends e = some (e ∙ ends)

pub is_nothing : (text front rest : List ℕ) → text ≡ [] → front ≡ take 0 text → rest ≡ drop 0 text → BeginsWith Nothing text front rest
is_nothing text front rest e f g = record {
  value = tt;
  right = tt;
  front_is = f ∙ ap (take 0) e;
  ends = g ∙ ap (drop 0) e;
  split = rw (f, g) refl;
}

pub no_action : (text : List ℕ) → HasNoGroup text → HasNoValue Action text
no_action text none value rest right ends e = none value rest right e

pub is_action : (text front rest : List ℕ) → IsGroupText front × (text ≡ front ++ rest) → BeginsWith Action text front rest
is_action text front rest h = record { value = h.0.0; right = h.0.1; front_is = h.0.2; ends = tt; split = h.1 }

pub no_number : (text found rest : List ℕ) → IsCut text found rest → is_number found ≡ false → HasNoValue Short text
no_number text found rest cut wrong value more right ends e =
    let same = same_word found value rest more cut.1 (number_no_space value right) cut.2 ends (sym cut.0 ∙ e) in
    let clash : is_number found ≡ true = ap is_number same.0 ∙ right in
    absurd (cc)

pub is_number_at : (text found rest : List ℕ) → IsCut text found rest → is_number found ≡ true → BeginsWith Short text found rest
is_number_at text found rest cut right = record { value = found; right = right; front_is = refl; ends = cut.2; split = cut.0 }

pub no_target : (text found rest : List ℕ) → IsCut text found rest → is_target found ≡ false → HasNoValue Target text
no_target text found rest cut wrong value more right ends e =
    let same = same_word found value rest more cut.1 (target_no_space value right) cut.2 ends (sym cut.0 ∙ e) in
    let clash : is_target found ≡ true = ap is_target same.0 ∙ right in
    absurd (cc)

pub is_target_at : (text found rest : List ℕ) → IsCut text found rest → is_target found ≡ true → BeginsWith Target text found rest
is_target_at text found rest cut right = record { value = found; right = right; front_is = refl; ends = cut.2; split = cut.0 }

-- a number below 2^64 is written as one below 2^32
pub no_long : (text : List ℕ) → HasNoValue Short text → HasNoValue Long text
no_long text none value rest right ends e = none value rest right ends e

pub is_long : (text front rest : List ℕ) → BeginsWith Short text front rest → BeginsWith Long text front rest
is_long text front rest h = record { value = h.value; right = h.right; front_is = h.front_is; ends = h.ends; split = h.split }

pub no_shorts : (text : List ℕ) → HasNoWords is_number text → HasNoValue Shorts text
no_shorts text none value rest right ends e = none value rest right.0 right.1 ends.0 ends.1 e

pub are_shorts : (text front rest : List ℕ) → BeginsWithWords is_number text front rest → BeginsWith Shorts text front rest
are_shorts text front rest h = record { value = h.words; right = (h.some, h.right); front_is = h.front_is; ends = (h.ends, h.none); split = h.split }

pub no_targets : (text : List ℕ) → HasNoWords is_target text → HasNoValue Targets text
no_targets text none value rest right ends e = none value rest right.0 right.1 ends.0 ends.1 e

pub are_targets : (text front rest : List ℕ) → BeginsWithWords is_target text front rest → BeginsWith Targets text front rest
are_targets text front rest h = record { value = h.words; right = (h.some, h.right); front_is = h.front_is; ends = (h.ends, h.none); split = h.split }

pub no_literals : (text : List ℕ) → ¬ IsLiteralsText text → HasNoValue Literals text
no_literals text none value rest right ends e = none (value, right, e ∙ ap (λ t. literals_text value ++ t) ends ∙ append-nil (literals_text value))

pub are_literals_at : (text front rest : List ℕ) → IsLiteralsText text → front ≡ take (length text) text → rest ≡ drop (length text) text → BeginsWith Literals text front rest
are_literals_at text front rest h f g =
    let all : take (length text) text ≡ text = ap (take (length text)) (sym (append-nil text)) ∙ take-append_seam text [] in
    let none : drop (length text) text ≡ [] = ap (drop (length text)) (sym (append-nil text)) ∙ drop-append_seam text [] in
    record {
      value = h.0;
      right = h.1;
      front_is = f ∙ all ∙ h.2;
      ends = g ∙ none;
      split = sym (append-nil text) ∙ ap (λ t. t ++ []) (sym (f ∙ all)) ∙ ap (λ t. front ++ t) (sym (g ∙ none));
    }

module _ (test : List ℕ → Bool) where
  nothing_cut : (words : List (List ℕ)) (text rest : List ℕ) → text ≡ spaced words ++ rest → length rest ≡ length text → text ≡ rest
  nothing_cut [] text rest e h = e
  nothing_cut (word ∷ words) text rest e h = absurd (omega (arith, ap length e, h, length-append (spaced (word ∷ words)) rest))

  begins_none : (text : List ℕ) → HasNoWord test text → HasNoWords test text
  begins_none text none [] rest some right ends last e = absurd (omega (arith, some))
  begins_none text none (word ∷ words) rest some right ends last e =
      none word (spaced words ++ rest) (All-head (λ (word : List ℕ). IsTrue (test word)) word words right) (ends_words words rest ends)
      (e ∙ ap (λ t. 32 ∷ t) (append_assoc word (spaced words) rest))

  pub no_words : (text rest : List ℕ) → ((words : List (List ℕ)) × AreWords test words × (text ≡ spaced words ++ rest)) → HasNoWord test rest → length rest ≡ length text → HasNoWords test text
  no_words text rest cut none same = begins_none text (rw (nothing_cut cut.0 text rest cut.2 same) none)

  some_cut : (words : List (List ℕ)) (text rest : List ℕ) → text ≡ spaced words ++ rest → ¬ length rest ≡ length text → (0 < length words) × EndsWord text
  some_cut [] text rest e h = absurd (h (ap length (sym e)))
  some_cut (word ∷ words) text rest e h = (omega arith, rw e refl)

  pub words_found : (text rest front back : List ℕ) (n : ℕ) → ((words : List (List ℕ)) × AreWords test words × (text ≡ spaced words ++ rest)) → HasNoWord test rest → (EndsWord text → EndsWord rest) →
      ¬ length rest ≡ length text → n ≡ length text - length rest → front ≡ take n text → back ≡ drop n text → BeginsWithWords test text front back
  words_found text rest front back n cut none ends differ long f g =
      let count : n ≡ length (spaced cut.0) = omega (arith, long, ap length cut.2, length-append (spaced cut.0) rest) in
      let front_is : front ≡ spaced cut.0 = rw (f, count, cut.2) (take-append_seam (spaced cut.0) rest) in
      let back_is : back ≡ rest = rw (g, count, cut.2) (drop-append_seam (spaced cut.0) rest) in
      let some = some_cut cut.0 text rest cut.2 differ in
      record {
        words = cut.0;
        some = some.0;
        right = cut.1;
        front_is = front_is;
        ends = rw back_is (ends some.1);
        none = rw back_is none;
        split = rw (front_is, back_is) cut.2;
      }
