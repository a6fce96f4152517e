-- What spells a meaning of a task: it is right and not refused, and it tells the meaning.
use Rattle.std.proofs.Common.{◌≡◌, ℕ, zero, suc, ◌+◌, ◌<◌, ◌≤◌, ◌^◌, ◌==◌, ◌&&◌, ◌||◌, not, ◌∙◌, nat_lt, Bool, true, false, IsTrue, List, [], ◌∷◌, Option, Some, None, All, length, map, get_or, codes, if◌then◌else◌, refl, sym, ap, arith}
use Rattle.std.specs.Char.{is_ascii_digit}
use Rattle.std.specs.Fmt.{decimal}
use Rattle.std.specs.List.{list_all}
use Rattle.std.specs.Str.{bytes_eq}
use Rattle.std.specs.Str.Parse.{digits_value}
use Rattle.std.proofs.lemmas.Bool.{and_parts}
use Rattle.std.proofs.lemmas.Bool.Decides.{nat_tests}
use Rattle.std.proofs.lemmas.Fmt.{decimal_injective, decimal_nonempty, digits_decimal, first_decimal, length-decimal-le_succ}
use Rattle.std.proofs.lemmas.List.{length-map}
use Rattle.std.proofs.lemmas.List.Elements.{All-head, All-tail, All-map}
use Rattle.fond_task.specs.Numbers.{act_number}
use Rattle.fond_task.specs.declared.task.Task.{Task}
use Rattle.fond_task.specs.declared.rule.Target.{Target as RuleTarget}
use Rattle.fond_task.specs.declared.rule.Target.TheVariants.{Goal, Rule as ToRule}
use Rattle.fond_policy.specs.Sizes.{IsSmallTarget}
use Rattle.fond_form.specs.Lines.{group_text, is_number, is_target, AreWords}
use Rattle.fond_form.specs.Forms.{Field, text_of, form, IsProperValue, value_text, AreProperValues, line_text, IsProper}
use Rattle.fond_form.specs.declared.table.LineKind.{LineKind}
use Rattle.fond_form.specs.declared.table.Sort.{Sort}
use Rattle.fond_form.specs.declared.table.Sort.TheVariants.{Nothing, Action, Short, Long, Target, Shorts, Targets, Literals}
use Rattle.fond_form.proofs.Clear.{clear, same_values}
use Rattle.fond_form.proofs.Longest.{number_is_target}
use Rattle.fond_form.proofs.Numbers.{model, value_is}
use Rattle.fond_cert.specs.declared.code.TheConstants.{UNKNOWN_ACTION, TOO_LARGE}
use Rattle.fond_cert.specs.Spellings.{act_leaves, target_word, Meaning, spelled, IsOfTask, Meanings, all_spelled, AreOfTask, spelled_line}
use Rattle.fond_cert.specs.Words.{unknown, number_code, target_code, Refused, or_else, refused_or, words_refusal, value_refusal, values_refusal, is_ordered, are_ordered, refusal_or_order, fields_refusal, line_refusal}
use Rattle.fond_cert.proofs.OwnLiterals.{cube_proper, cube_clean, cube_ordered, same_cube}
use Rattle.fond_cert.proofs.TaskNames.{act_found, act_group}

-- the digits of a number

numeral : (digits : List ℕ) → 0 < length digits → list_all is_ascii_digit digits ≡ true → 48 < get_or digits 0 0 → is_number digits ≡ true
numeral [] some all first = absurd (omega (arith, some))
numeral (b ∷ rest) some all first =
    let parts = and_parts (is_ascii_digit b) (list_all is_ascii_digit rest) all in
    let other : (b == 48) ≡ false = grind (arith, nat_tests, first) in
    rw (parts.0, other, parts.1) refl

or_true : (a : Bool) → (a || true) ≡ true
or_true true = refl
or_true false = refl

one_digit : (digits : List ℕ) → length digits ≡ 1 → list_all is_ascii_digit digits ≡ true → is_number digits ≡ true
one_digit [] one all = absurd (omega (arith, one))
one_digit (b ∷ []) one all = rw ((and_parts (is_ascii_digit b) true all).0, or_true (not (b == 48))) refl
one_digit (b ∷ c ∷ rest) one all = absurd (omega (arith, one))

long_right : (n : ℕ) → n < 2 ^ 64 → is_number (decimal n) ≡ true
long_right zero small =
    let some = decimal_nonempty 0 small in
    let most = length-decimal-le_succ 0 small in
    one_digit (decimal 0) (omega (arith, some, most)) (digits_decimal model 0 small)
long_right (suc n) small = numeral (decimal (suc n)) (decimal_nonempty (suc n) small) (digits_decimal model (suc n) small) (first_decimal (suc n) (omega arith) small)

number_clean : (bound n : ℕ) → bound ≤ 2 ^ 64 → n < bound → number_code bound (decimal n) ≡ None
number_clean bound n fits below =
    let value = value_is (decimal n) n (omega (arith, fits, below)) refl in
    let test : nat_lt (digits_value 10 (decimal n)) bound ≡ true = rw (sym value) (grind (arith, nat_tests, below)) in
    ap (λ v. if v then None else Some TOO_LARGE) test

-- a number is below 2^32
abbrev IsShort : ℕ → Type 0
IsShort n = n < 2 ^ 32

short_right : (n : ℕ) → IsShort n → is_number (decimal n) ≡ true
short_right n small = long_right n (omega (arith, small))

short_clean : (n : ℕ) → IsShort n → number_code (2 ^ 32) (decimal n) ≡ None
short_clean n small = number_clean (2 ^ 32) n (omega arith) small

same_short : (n m : ℕ) → IsShort n → IsShort m → decimal n ≡ decimal m → n ≡ m
same_short n m small other_small e = decimal_injective n m (omega (arith, small)) (omega (arith, other_small)) e

-- the word of a target

target_right : (target : RuleTarget) → IsSmallTarget target → is_target (target_word target) ≡ true
target_right Goal small = refl
target_right (ToRule n) small = number_is_target (decimal n) (short_right n small)

either_none : (b : Bool) (code : Option ℕ) → code ≡ None → (if b then None else code) ≡ None
either_none true code e = refl
either_none false code e = e

target_clean : (target : RuleTarget) → IsSmallTarget target → target_code (target_word target) ≡ None
target_clean Goal small = refl
target_clean (ToRule n) small = either_none (bytes_eq (decimal n) (codes "goal")) (number_code (2 ^ 32) (decimal n)) (short_clean n small)

goal_no_number : (n : ℕ) → IsShort n → ¬ codes "goal" ≡ decimal n
goal_no_number n small e = let clash : is_number (codes "goal") ≡ true = ap is_number e ∙ short_right n small in absurd (cc)

same_target : (target other : RuleTarget) → IsSmallTarget target → IsSmallTarget other → target_word target ≡ target_word other → target ≡ other
same_target Goal Goal small other_small e = refl
same_target Goal (ToRule n) small other_small e = absurd (goal_no_number n other_small e)
same_target (ToRule n) Goal small other_small e = absurd (goal_no_number n small (sym e))
same_target (ToRule n) (ToRule m) small other_small e = ap ToRule (same_short n m small other_small e)

-- words of several of which each fits
module _ {X : Type 0} (Fits : X → Type 0) (word : X → List ℕ) where
  words_right : (test : List ℕ → Bool) → ((x : X) → Fits x → test (word x) ≡ true) → (xs : List X) → (0 < length xs) × All Fits xs → (0 < length (map word xs)) × AreWords test (map word xs)
  words_right test each xs h = (omega (arith, h.0, length-map xs word), All-map (λ (w : List ℕ). IsTrue (test w)) word xs (λ k d lt. each (get_or xs k d) (h.1 k d lt)))

  words_clean : (code : List ℕ → Option ℕ) → ((x : X) → Fits x → code (word x) ≡ None) → (xs : List X) (at : ℕ) → All Fits xs → words_refusal code at (map word xs) ≡ None
  words_clean code each [] at h = refl
  words_clean code each (x ∷ xs) at h =
      ap (λ c. refused_or c (at + 1) (words_refusal code (at + 1 + length (word x)) (map word xs))) (each x (All-head Fits x xs h))
      ∙ words_clean code each xs (at + 1 + length (word x)) (All-tail Fits x xs h)

  same_words : ((x y : X) → Fits x → Fits y → word x ≡ word y → x ≡ y) → (xs ys : List X) → All Fits xs → All Fits ys → map word xs ≡ map word ys → xs ≡ ys
  same_words each [] [] h k e = refl
  same_words each [] (y ∷ ys) h k e = absurd (cc)
  same_words each (x ∷ xs) [] h k e = absurd (cc)
  same_words each (x ∷ xs) (y ∷ ys) h k e =
      let first : word x ≡ word y = cc in
      let rest : map word xs ≡ map word ys = cc in
      let same = each x y (All-head Fits x xs h) (All-head Fits y ys k) first in
      let more = same_words each xs ys (All-tail Fits x xs h) (All-tail Fits y ys k) rest in
      λ i. same i ∷ more i

same_act : (task : Task) (act other : ℕ) → act < length task.acts → other < length task.acts → act_leaves task act ≡ act_leaves task other → act ≡ other
same_act task act other there other_there e =
    let some : Some act ≡ Some other = sym (act_found task act there) ∙ ap (λ leaves. act_number task (group_text leaves)) e ∙ act_found task other other_there in
    cc

module _ (task : Task) where
  pub spelled_right : (sort : Sort) (meaning : Meaning sort) → IsOfTask task sort meaning → IsProperValue sort (spelled task sort meaning)
  spelled_right Nothing meaning of = tt
  spelled_right Action act of = act_group task act of
  spelled_right Short n of = short_right n of
  spelled_right Long n of = long_right n of
  spelled_right Target target of = target_right target of
  spelled_right Shorts numbers of = words_right IsShort decimal is_number short_right numbers of
  spelled_right Targets targets of = words_right IsSmallTarget target_word is_target target_right targets of
  spelled_right Literals cube of = cube_proper task cube

  pub spelled_clean : (sort : Sort) (meaning : Meaning sort) → IsOfTask task sort meaning → (at : ℕ) → value_refusal task at sort (spelled task sort meaning) ≡ None
  spelled_clean Nothing meaning of at = refl
  spelled_clean Action act of at = ap (λ number. refused_or (unknown UNKNOWN_ACTION number) at None) (act_found task act of)
  spelled_clean Short n of at = ap (λ code. refused_or code at None) (short_clean n of)
  spelled_clean Long n of at = ap (λ code. refused_or code at None) (number_clean (2 ^ 64) n (omega arith) of)
  spelled_clean Target target of at = ap (λ code. refused_or code at None) (target_clean target of)
  spelled_clean Shorts numbers of at = words_clean IsShort decimal (number_code (2 ^ 32)) short_clean numbers at of.1
  spelled_clean Targets targets of at = words_clean IsSmallTarget target_word target_code target_clean targets at of.1
  spelled_clean Literals cube of at = cube_clean task cube at

  pub spelled_ordered : (sort : Sort) (meaning : Meaning sort) → is_ordered task sort (spelled task sort meaning) ≡ true
  spelled_ordered Literals cube = cube_ordered task cube
  spelled_ordered _ meaning = refl

  pub spelled_same : (sort : Sort) (meaning other : Meaning sort) → IsOfTask task sort meaning → IsOfTask task sort other → spelled task sort meaning ≡ spelled task sort other → meaning ≡ other
  spelled_same Nothing meaning other of other_of e = refl
  spelled_same Action act other of other_of e = same_act task act other of other_of e
  spelled_same Short n m of other_of e = same_short n m of other_of e
  spelled_same Long n m of other_of e = decimal_injective n m of other_of e
  spelled_same Target target other of other_of e = same_target target other of other_of e
  spelled_same Shorts numbers others of other_of e = same_words IsShort decimal same_short numbers others of.1 other_of.1 e
  spelled_same Targets targets others of other_of e = same_words IsSmallTarget target_word same_target targets others of.1 other_of.1 e
  spelled_same Literals cube other of other_of e = same_cube task cube other of other_of e

  pub all_right : (fields : List Field) (meanings : Meanings fields) → AreOfTask task fields meanings → AreProperValues fields (all_spelled task fields meanings)
  all_right [] meanings of = tt
  all_right (field ∷ fields) meanings of = (spelled_right field.1 meanings.0 of.0, all_right fields meanings.1 of.1)

  none_refused : (fields : List Field) (meanings : Meanings fields) → AreOfTask task fields meanings → (at : ℕ) → values_refusal task at fields (all_spelled task fields meanings) ≡ None
  none_refused [] meanings of at = refl
  none_refused (field ∷ fields) meanings of at =
      let text = length (text_of field.0) in
      let further = at + text + length (value_text field.1 (spelled task field.1 meanings.0)) in
      ap (λ (refused : Option Refused). or_else refused (values_refusal task further fields (all_spelled task fields meanings.1))) (spelled_clean field.1 meanings.0 of.0 (at + text))
      ∙ none_refused fields meanings.1 of.1 further

  all_ordered : (fields : List Field) (meanings : Meanings fields) → are_ordered task fields (all_spelled task fields meanings) ≡ true
  all_ordered [] meanings = refl
  all_ordered (field ∷ fields) meanings = ap (λ ordered. ordered && are_ordered task fields (all_spelled task fields meanings.1)) (spelled_ordered field.1 meanings.0) ∙ all_ordered fields meanings.1

  pub all_clean : (fields : List Field) (meanings : Meanings fields) → AreOfTask task fields meanings → (at : ℕ) → fields_refusal task at fields (all_spelled task fields meanings) ≡ None
  all_clean fields meanings of at =
      ap (λ refused. refusal_or_order refused (are_ordered task fields (all_spelled task fields meanings))) (none_refused fields meanings of at) ∙ ap (refusal_or_order None) (all_ordered fields meanings)

  pub all_same : (fields : List Field) (meanings others : Meanings fields) → AreOfTask task fields meanings → AreOfTask task fields others → all_spelled task fields meanings ≡ all_spelled task fields others → meanings ≡ others
  all_same [] meanings others of other_of e = refl
  all_same (field ∷ fields) meanings others of other_of e =
      let first = spelled_same field.1 meanings.0 others.0 of.0 other_of.0 (λ i. (e i).0) in
      let more = all_same fields meanings.1 others.1 of.1 other_of.1 (λ i. (e i).1) in
      λ i. (first i, more i)

  -- the line that spells meanings of the task is proper and not refused
  pub line_good : (kind : LineKind) (meanings : Meanings (form kind)) → AreOfTask task (form kind) meanings → IsProper (spelled_line task kind meanings) × (line_refusal task (spelled_line task kind meanings) ≡ None)
  line_good kind meanings of = (all_right (form kind) meanings of, all_clean (form kind) meanings of 0)

  -- equal lines of a kind spell the same meanings
  pub line_same : (kind : LineKind) (meanings others : Meanings (form kind)) → AreOfTask task (form kind) meanings → AreOfTask task (form kind) others →
      spelled_line task kind meanings ≡ spelled_line task kind others → meanings ≡ others
  line_same kind meanings others of other_of e =
      all_same (form kind) meanings others of other_of
      (same_values (form kind) (clear kind) (all_spelled task (form kind) meanings) (all_spelled task (form kind) others) (all_right (form kind) meanings of) (all_right (form kind) others other_of) (ap line_text e))
