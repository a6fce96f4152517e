-- Actions, numbers and targets as they are read, and words from left to right.
use Rattle.std.proofs.Common.{◌≡◌, ◌≢◌, ℕ, ◌+◌, ◌-◌, ◌<◌, ◌≤◌, ◌^◌, nat_lt, Bool, true, false, IsTrue, List, [], ◌∷◌, ◌++◌, Option, Some, None, All, length, map, codes, if◌then◌else◌, refl, sym, ap, ◌∙◌, arith, length-append}
use Rattle.std.specs.Fmt.{decimal}
use Rattle.std.specs.Str.{bytes_eq}
use Rattle.std.specs.Str.Parse.{digits_value}
use Rattle.std.proofs.lemmas.Bool.Decides.{nat_tests}
use Rattle.std.proofs.lemmas.List.{append-nil}
use Rattle.std.proofs.lemmas.List.Elements.{All-cons, All-nil, All-append}
use Rattle.fond_task.specs.Numbers.{act_number}
use Rattle.fond_task.specs.declared.task.Task.{Task}
use Rattle.fond_task.specs.declared.rule.Target.{Target as RuleTarget}
use Rattle.fond_policy.specs.Sizes.{IsSmallTarget}
use Rattle.fond_form.specs.declared.table.Sort.TheVariants.{Action, Short, Long, Target, Shorts, Targets}
use Rattle.fond_form.specs.Lines.{spaced, is_number, is_target, AreWords}
use Rattle.fond_form.specs.Parts.{IsCut}
use Rattle.fond_cert.specs.declared.code.TheConstants.{UNKNOWN_ACTION, TOO_LARGE}
use Rattle.fond_cert.specs.Checked.{IsValueText, Means, IsValueRefused, ReadsNumber}
use Rattle.fond_cert.specs.Spellings.{target_word}
use Rattle.fond_cert.specs.Words.{unknown, number_code, target_code, refused_or, words_refusal}
use Rattle.fond_form.proofs.Cuts.{HasNoSpaces, number_no_space, target_no_space}
use Rattle.fond_form.proofs.Nexts.{NextWord, next_word, no_word_left}
use Rattle.fond_cert.proofs.Acts.{act_there}

is_below : (value bound : ℕ) → value < bound → nat_lt value bound ≡ true
is_below value bound h = grind (arith, nat_tests)

is_above : (value bound : ℕ) → bound ≤ value → nat_lt value bound ≡ false
is_above value bound h = grind (arith, nat_tests)

pub number_below : (bound : ℕ) (digits : List ℕ) → digits_value 10 digits < bound → number_code bound digits ≡ None
number_below bound digits h = ap (λ v. if v then None else Some TOO_LARGE) (is_below (digits_value 10 digits) bound h)

pub number_above : (bound : ℕ) (digits : List ℕ) → bound ≤ digits_value 10 digits → number_code bound digits ≡ Some TOO_LARGE
number_above bound digits h = ap (λ v. if v then None else Some TOO_LARGE) (is_above (digits_value 10 digits) bound h)

module _ (task : Task) (at : ℕ) (text : List ℕ) where
  pub act_means : (act : ℕ) → IsValueText Action text → act_number task text ≡ Some act → Means task at Action text act
  act_means act h e =
      let there = act_there task text act e in record {
        value = h.0;
        right = h.1;
        text_is = h.2;
        clean = ap (λ n. refused_or (unknown UNKNOWN_ACTION n) at None) (ap (act_number task) (sym h.2) ∙ e);
        ordered = refl;
        of = there.0;
        same = there.1;
      }

  pub act_refused : IsValueText Action text → act_number task text ≡ None → IsValueRefused task at Action text (record { code = UNKNOWN_ACTION; at = at })
  act_refused h e = record { value = h.0; right = h.1; text_is = h.2; wrong = rw (ap (act_number task) (sym h.2) ∙ e) refl }

  pub short_means : (number : ℕ) → IsValueText Short text → ReadsNumber text number → Means task at Short text number
  short_means number h reads = record {
    value = h.0;
    right = h.1;
    text_is = h.2;
    clean = ap (λ code. refused_or code at None) (ap (number_code (2 ^ 32)) (sym h.2) ∙ number_below (2 ^ 32) text reads.0);
    ordered = refl;
    of = reads.2;
    same = reads.1;
  }

  pub short_refused : IsValueText Short text → 2 ^ 32 ≤ digits_value 10 text → IsValueRefused task at Short text (record { code = TOO_LARGE; at = at })
  short_refused h large = record { value = h.0; right = h.1; text_is = h.2; wrong = rw (ap (number_code (2 ^ 32)) (sym h.2) ∙ number_above (2 ^ 32) text large) refl }

  pub long_means : (number : ℕ) → IsValueText Long text → number < 2 ^ 64 → number ≡ digits_value 10 text → text ≡ decimal number → Means task at Long text number
  long_means number h small value is = record {
    value = h.0;
    right = h.1;
    text_is = h.2;
    clean = ap (λ code. refused_or code at None) (ap (number_code (2 ^ 64)) (sym h.2) ∙ number_below (2 ^ 64) text (omega (arith, small, value)));
    ordered = refl;
    of = small;
    same = is;
  }

  pub long_refused : IsValueText Long text → 2 ^ 64 ≤ digits_value 10 text → IsValueRefused task at Long text (record { code = TOO_LARGE; at = at })
  long_refused h large = record { value = h.0; right = h.1; text_is = h.2; wrong = rw (ap (number_code (2 ^ 64)) (sym h.2) ∙ number_above (2 ^ 64) text large) refl }

  pub target_means : (target : RuleTarget) → IsValueText Target text → target_code text ≡ None → text ≡ target_word target → IsSmallTarget target → Means task at Target text target
  target_means target h clean is small = record {
    value = h.0;
    right = h.1;
    text_is = h.2;
    clean = ap (λ code. refused_or code at None) (ap target_code (sym h.2) ∙ clean);
    ordered = refl;
    of = small;
    same = is;
  }

  pub target_refused : IsValueText Target text → target_code text ≡ Some TOO_LARGE → IsValueRefused task at Target text (record { code = TOO_LARGE; at = at })
  target_refused h wrong = record { value = h.0; right = h.1; text_is = h.2; wrong = rw (ap target_code (sym h.2) ∙ wrong) refl }

-- a word that is no `goal` is refused as a number, and one that is `goal` never
pub number_target : (word : List ℕ) (v : Bool) → bytes_eq word (codes "goal") ≡ v → v ≡ false → target_code word ≡ number_code (2 ^ 32) word
number_target word v is e = ap (λ v. if v then None else number_code (2 ^ 32) word) (is ∙ e)

-- words that are read, item by item
module _ {X : Type 0} (test : List ℕ → Bool) (no_space : HasNoSpaces test) (code : List ℕ → Option ℕ) (word_of : X → List ℕ) (Small : X → Type 0) where
  -- the words that are left, after these items were read
  pub record LeftWords (at : ℕ) (text rest : List ℕ) (items : List X) : Type 0 where
    pub whole : List (List ℕ)
    pub left : List (List ℕ)
    pub some : 0 < length whole
    pub whole_right : AreWords test whole
    pub left_right : AreWords test left
    pub whole_is : text ≡ spaced whole
    pub left_is : rest ≡ spaced left
    pub short : length rest ≤ length text
    pub refusal : words_refusal code at whole ≡ words_refusal code (at + (length text - length rest)) left
    pub named : whole ≡ map word_of items ++ left
    pub small : All Small items

  pub all_left : (at : ℕ) (text : List ℕ) → ((words : List (List ℕ)) × ((0 < length words) × AreWords test words) × (text ≡ spaced words)) → LeftWords at text text []
  all_left at text h = record {
    whole = h.0;
    left = h.0;
    some = h.1.0;
    whole_right = h.1.1;
    left_right = h.1.1;
    whole_is = h.2;
    left_is = h.2;
    short = omega arith;
    refusal = let none : at + (length text - length text) ≡ at = omega arith in rw none refl;
    named = refl;
    small = All-nil Small;
  }

  named_more : (items : List X) (item : X) (more : List (List ℕ)) → map word_of (items ++ (item ∷ [])) ++ more ≡ map word_of items ++ (word_of item ∷ more)
  named_more [] item more = refl
  named_more (first ∷ items) item more = ap (λ words. word_of first ∷ words) (named_more items item more)

  module _ (at : ℕ) (text rest inner word further : List ℕ) (items : List X) (h : LeftWords at text rest items) (e : rest ≡ 32 ∷ inner) (cut : IsCut inner word further) where
    next : NextWord test h.left word further
    next = next_word test no_space h.left inner word further h.left_right (sym e ∙ h.left_is) cut

    pub word_right : IsTrue (test word)
    word_right = next.right

    abbrev p : ℕ
    p = at + (length text - length rest)

    over_word : (found : Option ℕ) → code word ≡ found → words_refusal code p h.left ≡ refused_or found (p + 1) (words_refusal code (p + 1 + length word) next.more)
    over_word found is = ap (words_refusal code p) next.left_is ∙ ap (λ c. refused_or c (p + 1) (words_refusal code (p + 1 + length word) next.more)) is

    pub one_refused : (n : ℕ) → code word ≡ Some n → words_refusal code at h.whole ≡ Some (record { code = n; at = at + (length text - length inner) })
    one_refused n is =
        let there : p + 1 ≡ at + (length text - length inner) = omega (arith, ap length e, h.short) in
        h.refusal ∙ over_word (Some n) is ∙ ap (λ q. Some (record { code = n; at = q })) there

    pub one_read : (item : X) → code word ≡ None → word ≡ word_of item → Small item → LeftWords at text further (items ++ (item ∷ []))
    one_read item is named small =
        let past : p + 1 + length word ≡ at + (length text - length further) = omega (arith, ap length e, ap length cut.0, length-append word further, h.short) in record {
          whole = h.whole;
          left = next.more;
          some = h.some;
          whole_right = h.whole_right;
          left_right = next.more_right;
          whole_is = h.whole_is;
          left_is = next.behind_is;
          short = omega (arith, ap length e, ap length cut.0, length-append word further, h.short);
          refusal = h.refusal ∙ over_word None is ∙ ap (λ q. words_refusal code q next.more) past;
          named = h.named ∙ ap (λ words. map word_of items ++ words) (next.left_is ∙ ap (λ w. w ∷ next.more) named) ∙ sym (named_more items item next.more);
          small = All-append Small items (item ∷ []) h.small (All-cons Small item [] small (All-nil Small));
        }

  module _ (at : ℕ) (text rest : List ℕ) (items : List X) (h : LeftWords at text rest items) (none : (further : List ℕ) → rest ≢ 32 ∷ further) where
    no_left : h.left ≡ []
    no_left = no_word_left h.left rest none h.left_is

    pub all_clean : words_refusal code at h.whole ≡ None
    all_clean = h.refusal ∙ ap (words_refusal code (at + (length text - length rest))) no_left

    pub all_named : h.whole ≡ map word_of items
    all_named = h.named ∙ ap (λ words. map word_of items ++ words) no_left ∙ append-nil (map word_of items)

    pub some_items : (xs : List X) → h.whole ≡ map word_of xs → 0 < length xs
    some_items [] is = absurd (omega (arith, h.some, ap length is))
    some_items (x ∷ xs) is = omega arith

abbrev pub LeftTargets : ℕ → List ℕ → List ℕ → List RuleTarget → Type 0
LeftTargets = LeftWords is_target target_no_space target_code target_word IsSmallTarget

abbrev pub LeftNumbers : ℕ → List ℕ → List ℕ → List ℕ → Type 0
LeftNumbers = LeftWords is_number number_no_space (number_code (2 ^ 32)) decimal (λ number. number < 2 ^ 32)

module _ (task : Task) (at : ℕ) (text rest : List ℕ) where
  pub targets_read : (targets : List RuleTarget) → LeftTargets at text rest targets → ((further : List ℕ) → rest ≢ 32 ∷ further) → Means task at Targets text targets
  targets_read targets h none =
      let named = all_named is_target target_no_space target_code target_word IsSmallTarget at text rest targets h none in record {
        value = h.whole;
        right = (h.some, h.whole_right);
        text_is = h.whole_is;
        clean = all_clean is_target target_no_space target_code target_word IsSmallTarget at text rest targets h none;
        ordered = refl;
        of = (some_items is_target target_no_space target_code target_word IsSmallTarget at text rest targets h none targets named, h.small);
        same = h.whole_is ∙ ap spaced named;
      }

  pub numbers_read : (numbers : List ℕ) → LeftNumbers at text rest numbers → ((further : List ℕ) → rest ≢ 32 ∷ further) → Means task at Shorts text numbers
  numbers_read numbers h none =
      let Small = λ (number : ℕ). number < 2 ^ 32 in
      let named = all_named is_number number_no_space (number_code (2 ^ 32)) decimal Small at text rest numbers h none in record {
        value = h.whole;
        right = (h.some, h.whole_right);
        text_is = h.whole_is;
        clean = all_clean is_number number_no_space (number_code (2 ^ 32)) decimal Small at text rest numbers h none;
        ordered = refl;
        of = (some_items is_number number_no_space (number_code (2 ^ 32)) decimal Small at text rest numbers h none numbers named, h.small);
        same = h.whole_is ∙ ap spaced named;
      }

  pub target_among : (inner word further : List ℕ) (targets : List RuleTarget) → LeftTargets at text rest targets → rest ≡ 32 ∷ inner → IsCut inner word further → target_code word ≡ Some TOO_LARGE →
      IsValueRefused task at Targets text (record { code = TOO_LARGE; at = at + (length text - length inner) })
  target_among inner word further targets h e cut wrong = record {
    value = h.whole;
    right = (h.some, h.whole_right);
    text_is = h.whole_is;
    wrong = rw (one_refused is_target target_no_space target_code target_word IsSmallTarget at text rest inner word further targets h e cut TOO_LARGE wrong) refl;
  }

  pub number_among : (inner word further : List ℕ) (numbers : List ℕ) → LeftNumbers at text rest numbers → rest ≡ 32 ∷ inner → IsCut inner word further → 2 ^ 32 ≤ digits_value 10 word →
      IsValueRefused task at Shorts text (record { code = TOO_LARGE; at = at + (length text - length inner) })
  number_among inner word further numbers h e cut large = record {
    value = h.whole;
    right = (h.some, h.whole_right);
    text_is = h.whole_is;
    wrong =
        rw (one_refused is_number number_no_space (number_code (2 ^ 32)) decimal (λ number. number < 2 ^ 32) at text rest inner word further numbers h e cut TOO_LARGE (number_above (2 ^ 32) word large)) refl;
  }

-- a number is read of those that are left
pub number_more : (at : ℕ) (text rest inner word further : List ℕ) (numbers : List ℕ) (number : ℕ) → LeftNumbers at text rest numbers → rest ≡ 32 ∷ inner → IsCut inner word further → ReadsNumber word number →
    LeftNumbers at text further (numbers ++ (number ∷ []))
number_more at text rest inner word further numbers number h e cut read =
    one_read is_number number_no_space (number_code (2 ^ 32)) decimal (λ number. number < 2 ^ 32) at text rest inner word further numbers h e cut number (number_below (2 ^ 32) word read.0) read.1 read.2
