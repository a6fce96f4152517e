-- Texts split into lines in one way.
use Rattle.std.proofs.Common.{◌≡◌, ℕ, List, [], ◌∷◌, ◌++◌, All, Bool, true, false, IsTrue, codes, refl, sym, ap, ◌∙◌, arith}
use Rattle.std.specs.Char.{is_ascii_digit}
use Rattle.std.specs.List.{list_all}
use Rattle.std.proofs.lemmas.Bool.{and_parts}
use Rattle.std.proofs.lemmas.Bool.Decides.{nat_tests}
use Rattle.std.proofs.lemmas.List.Elements.{All-head, All-tail}
use Rattle.std.proofs.lemmas.List.Folds.{list_all-append}
use Rattle.fond_form.specs.Feeds.{is_in_line, HasNoFeed}
use Rattle.std.specs.Str.{bytes_eq}
use Rattle.std.proofs.lemmas.Slice.Eq.{bytes_eq-Decides}
use Rattle.fond_form.specs.Lines.{is_plain_byte, IsPlainLeaf, IsGroup, spaced, group_text, is_number, is_target, AreWords, WrittenLiteral, AreProper, sign_text, literal_text, literals_text}
use Rattle.fond_form.specs.Forms.{Field, text_of, form, Value, IsProperValue, value_text, Values, AreProperValues, fields_text, Line, line_text, IsProper}
use Rattle.fond_form.specs.declared.table.Sort.{Sort}
use Rattle.fond_form.specs.declared.table.Sort.TheVariants.{Nothing, Action, Short, Long, Target, Shorts, Targets, Literals}
use Rattle.fond_form.specs.declared.table.Text.{Text}
use Rattle.fond_form.specs.declared.table.Text.TheVariants as t
use Rattle.fond_form.proofs.Cuts.{either}
use Rattle.fond_form.proofs.Literals.{same_head, same_tail}
use Rattle.fond_form.proofs.Numbers.{number_digits}

no_feed_append : (a b : List ℕ) → HasNoFeed a → HasNoFeed b → HasNoFeed (a ++ b)
no_feed_append a b h k = list_all-append is_in_line a b ∙ rw h k

plain_in_line : (b : ℕ) → is_plain_byte b ≡ true → is_in_line b ≡ true
plain_in_line b h = grind (arith, nat_tests)

digit_in_line : (b : ℕ) → is_ascii_digit b ≡ true → is_in_line b ≡ true
digit_in_line b h = grind (arith, nat_tests)

all_in_line : (test : ℕ → Bool) → ((b : ℕ) → test b ≡ true → is_in_line b ≡ true) → (text : List ℕ) → list_all test text ≡ true → HasNoFeed text
all_in_line test each [] h = refl
all_in_line test each (b ∷ text) h =
    let parts = and_parts (test b) (list_all test text) h in
    rw (each b parts.0) (all_in_line test each text parts.1)

leaf_no_feed : (leaf : List ℕ) → IsPlainLeaf leaf → HasNoFeed leaf
leaf_no_feed leaf h = all_in_line is_plain_byte plain_in_line leaf h.1

spaced_no_feed : (leaves : List (List ℕ)) → All IsPlainLeaf leaves → HasNoFeed (spaced leaves ++ codes ")")
spaced_no_feed [] h = refl
spaced_no_feed (leaf ∷ leaves) h =
    no_feed_append (spaced (leaf ∷ leaves)) (codes ")") (no_feed_append (codes " " ++ leaf) (spaced leaves) (no_feed_append (codes " ") leaf refl (leaf_no_feed leaf (All-head IsPlainLeaf leaf leaves h))) (open_part leaves (All-tail IsPlainLeaf leaf leaves h))) refl
  where
    open_part : (leaves : List (List ℕ)) → All IsPlainLeaf leaves → HasNoFeed (spaced leaves)
    open_part [] h = refl
    open_part (leaf ∷ leaves) h = no_feed_append (codes " " ++ leaf) (spaced leaves) (no_feed_append (codes " ") leaf refl (leaf_no_feed leaf (All-head IsPlainLeaf leaf leaves h))) (open_part leaves (All-tail IsPlainLeaf leaf leaves h))

group_no_feed : (leaves : List (List ℕ)) → IsGroup leaves → HasNoFeed (group_text leaves)
group_no_feed [] h = absurd (omega (arith, h.0))
group_no_feed (leaf ∷ leaves) h =
    no_feed_append (codes "(") (leaf ++ (spaced leaves ++ codes ")")) refl
    (no_feed_append leaf (spaced leaves ++ codes ")") (leaf_no_feed leaf (All-head IsPlainLeaf leaf leaves h.1)) (spaced_no_feed leaves (All-tail IsPlainLeaf leaf leaves h.1)))

number_no_feed : (digits : List ℕ) → IsTrue (is_number digits) → HasNoFeed digits
number_no_feed digits h = all_in_line is_ascii_digit digit_in_line digits (number_digits digits h)

sign_no_feed : (sign : Bool) → HasNoFeed (sign_text sign)
sign_no_feed true = refl
sign_no_feed false = refl

literals_no_feed : (literals : List WrittenLiteral) → AreProper literals → HasNoFeed (literals_text literals)
literals_no_feed [] h = refl
literals_no_feed (literal ∷ literals) h =
    let P = λ (literal : WrittenLiteral). IsGroup literal.leaves in
    no_feed_append (literal_text literal) (literals_text literals)
    (no_feed_append (codes " ") (sign_text literal.sign ++ group_text literal.leaves) refl
    (no_feed_append (sign_text literal.sign) (group_text literal.leaves) (sign_no_feed literal.sign) (group_no_feed literal.leaves (All-head P literal literals h))))
    (literals_no_feed literals (All-tail P literal literals h))

target_no_feed : (word : List ℕ) → IsTrue (is_target word) → HasNoFeed word
target_no_feed word h =
    either (bytes_eq word (codes "goal")) (is_number word) h (HasNoFeed word) (λ goal. rw ((bytes_eq-Decides word (codes "goal")).0 goal) refl) (number_no_feed word)

module _ (test : List ℕ → Bool) (each : (word : List ℕ) → IsTrue (test word) → HasNoFeed word) where
  words_no_feed : (words : List (List ℕ)) → AreWords test words → HasNoFeed (spaced words)
  words_no_feed [] h = refl
  words_no_feed (word ∷ words) h =
      let P = λ (word : List ℕ). IsTrue (test word) in
      no_feed_append (codes " " ++ word) (spaced words) (no_feed_append (codes " ") word refl (each word (All-head P word words h))) (words_no_feed words (All-tail P word words h))

value_no_feed : (sort : Sort) (value : Value sort) → IsProperValue sort value → HasNoFeed (value_text sort value)
value_no_feed Nothing value h = refl
value_no_feed Action value h = group_no_feed value h
value_no_feed Short value h = number_no_feed value h
value_no_feed Long value h = number_no_feed value h
value_no_feed Target value h = target_no_feed value h
value_no_feed Shorts value h = words_no_feed is_number number_no_feed value h.1
value_no_feed Targets value h = words_no_feed is_target target_no_feed value h.1
value_no_feed Literals value h = literals_no_feed value h

text_no_feed : (text : Text) → HasNoFeed (text_of text)
text_no_feed t.PolicyHeader = refl
text_no_feed t.RefusalHeader = refl
text_no_feed t.CoverHeader = refl
text_no_feed t.TableHeader = refl
text_no_feed t.BestHeader = refl
text_no_feed t.Layer = refl
text_no_feed t.Cube = refl
text_no_feed t.Pair = refl
text_no_feed t.Rule = refl
text_no_feed t.Fair = refl
text_no_feed t.Unfair = refl
text_no_feed t.Reach = refl
text_no_feed t.GoalItem = refl
text_no_feed t.Item = refl
text_no_feed t.Rank = refl
text_no_feed t.Start = refl
text_no_feed t.Far = refl
text_no_feed t.Do = refl
text_no_feed t.End = refl
text_no_feed t.Space = refl
text_no_feed t.Colon = refl
text_no_feed t.Empty = refl

fields_no_feed : (fields : List Field) (values : Values fields) → AreProperValues fields values → HasNoFeed (fields_text fields values)
fields_no_feed [] values h = refl
fields_no_feed (field ∷ fields) values h =
    no_feed_append (text_of field.0) (value_text field.1 values.0 ++ fields_text fields values.1) (text_no_feed field.0)
    (no_feed_append (value_text field.1 values.0) (fields_text fields values.1) (value_no_feed field.1 values.0 h.0) (fields_no_feed fields values.1 h.1))

-- a proper line has no line feed
pub line_no_feed : (line : Line) → IsProper line → HasNoFeed (line_text line)
line_no_feed line h = fields_no_feed (form line.kind) line.values h

-- a text has one first line
pub same_split : (a b s t : List ℕ) → HasNoFeed a → HasNoFeed b → a ++ (10 ∷ s) ≡ b ++ (10 ∷ t) → (a ≡ b) × (s ≡ t)
same_split [] [] s t h k e = (refl, same_tail 10 10 s t e)
same_split [] (y ∷ b) s t h k e =
    let yes : is_in_line y ≡ true = (and_parts (is_in_line y) (list_all is_in_line b) k).0 in
    let clash : is_in_line 10 ≡ true = ap is_in_line (same_head 10 y s (b ++ (10 ∷ t)) e) ∙ yes in
    absurd (cc)
same_split (x ∷ a) [] s t h k e =
    let yes : is_in_line x ≡ true = (and_parts (is_in_line x) (list_all is_in_line a) h).0 in
    let clash : is_in_line 10 ≡ true = ap is_in_line (sym (same_head x 10 (a ++ (10 ∷ s)) t e)) ∙ yes in
    absurd (cc)
same_split (x ∷ a) (y ∷ b) s t h k e =
    let first = same_head x y (a ++ (10 ∷ s)) (b ++ (10 ∷ t)) e in
    let more = same_split a b s t (and_parts (is_in_line x) (list_all is_in_line a) h).1 (and_parts (is_in_line y) (list_all is_in_line b) k).1 (same_tail x y (a ++ (10 ∷ s)) (b ++ (10 ∷ t)) e) in
    ((λ n. first n ∷ more.0 n), more.1)

-- a text with a line feed in it is not without one
pub feed_inside : (a s : List ℕ) → ¬ HasNoFeed (a ++ (10 ∷ s))
feed_inside [] s h = absurd (cc)
feed_inside (x ∷ a) s h = feed_inside a s (and_parts (is_in_line x) (list_all is_in_line (a ++ (10 ∷ s))) h).1
