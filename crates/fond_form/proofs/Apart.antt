-- Lines of one text are the same line.
use Rattle.std.proofs.Common.{◌≡◌, ℕ, ◌==◌, ◌&&◌, not, ◌⊎◌, inl, inr, Bool, true, false, List, [], ◌∷◌, ◌++◌, if◌then◌else◌, refl, sym, subst, ap, ◌∙◌, arith}
use Rattle.std.specs.Char.{is_ascii_digit}
use Rattle.std.proofs.lemmas.Bool.{and_parts}
use Rattle.std.proofs.lemmas.Bool.Decides.{nat_tests}
use Rattle.std.proofs.lemmas.List.{append_assoc}
use Rattle.std.proofs.lemmas.List.Elements.{All-head}
use Rattle.fond_form.specs.Cutting.{is_ended}
use Rattle.fond_form.specs.Lines.{is_number, spaced}
use Rattle.fond_form.specs.Forms.{Field, text_of, form, Value, IsProperValue, value_text, Values, AreProperValues, fields_text, HasForm, Line, line_text, IsProper}
use Rattle.fond_form.specs.declared.table.LineKind.{LineKind}
use Rattle.fond_form.specs.declared.table.LineKind.TheVariants as k
use Rattle.fond_form.specs.declared.table.Sort.{Sort}
use Rattle.fond_form.specs.declared.table.Sort.TheVariants.{Nothing, Action, Short, Long, Target, Shorts, Targets, Literals}
use Rattle.fond_form.proofs.Clear.{clear, ended, same_values}
use Rattle.fond_form.proofs.Cuts.{number_first}
use Rattle.fond_form.proofs.Literals.{same_head, same_tail}
use Rattle.fond_form.proofs.Sames.{same_group, same_value}

-- whether the texts of values of a sort begin otherwise than with this byte and those after it: a number begins with a digit, and
-- several numbers with a space and a digit
abbrev starts_otherwise : Sort → ℕ → List ℕ → Bool
starts_otherwise Short y b = not (is_ascii_digit y)
starts_otherwise Long y b = not (is_ascii_digit y)
starts_otherwise Shorts y (z ∷ b) = not (is_ascii_digit z)
starts_otherwise s y b = false

-- whether two texts, each with a value of a sort after it, differ at some byte: where both have a byte, or where one ends and the value
-- after it begins otherwise. If they are the same, what comes after them decides
abbrev apart_texts : List ℕ → List ℕ → Sort → Sort → Bool → Bool
apart_texts [] [] s t more = more
apart_texts [] (y ∷ b) s t more = starts_otherwise s y b
apart_texts (x ∷ a) [] s t more = starts_otherwise t x a
apart_texts (x ∷ a) (y ∷ b) s t more = if x == y then apart_texts a b s t more else true

-- whether values of two sorts are passed over: actions, and numbers that end before the fields after them
abbrev is_passed : Sort → Sort → List Field → List Field → Bool
is_passed Action Action fields others = true
is_passed Short Short fields others = is_ended Short fields && is_ended Short others
is_passed s t fields others = false

-- whether no text has both forms
abbrev apart : List Field → List Field → Bool
apart [] others = false
apart (field ∷ fields) [] = false
apart (field ∷ fields) (other ∷ others) = apart_texts (text_of field.0) (text_of other.0) field.1 other.1 (is_passed field.1 other.1 fields others && apart fields others)

not_true : (b : Bool) → not b ≡ true → b ≡ true → ⊥
not_true true e f = absurd (cc)
not_true false e f = absurd (cc)

-- a number begins with a digit
digit_first : (v : List ℕ) → is_number v ≡ true → (y : ℕ) (rest b : List ℕ) → not (is_ascii_digit y) ≡ true → v ++ rest ≡ y ∷ b → ⊥
digit_first [] right y rest b wrong e = absurd (cc)
digit_first (d ∷ v) right y rest b wrong e = not_true (is_ascii_digit y) wrong (ap is_ascii_digit (sym (same_head d y _ b e)) ∙ (number_first d v right).0)

-- the text of a value does not begin otherwise than those of its sort
starts : (s : Sort) (v : Value s) → IsProperValue s v → (y : ℕ) (b rest further : List ℕ) → starts_otherwise s y b ≡ true → value_text s v ++ rest ≡ y ∷ (b ++ further) → ⊥
starts Short v right y b rest further wrong e = digit_first v right y rest (b ++ further) wrong e
starts Long v right y b rest further wrong e = digit_first v right y rest (b ++ further) wrong e
starts Shorts [] right y (z ∷ b) rest further wrong e = absurd (omega (arith, right.0))
starts Shorts (word ∷ words) right y (z ∷ b) rest further wrong e =
    digit_first word (All-head (λ w. is_number w ≡ true) word words right.1) z (spaced words ++ rest) (b ++ further) wrong
    (sym (append_assoc word (spaced words) rest) ∙ same_tail 32 y _ _ e)
starts Shorts v right y [] rest further wrong e = absurd (cc)
starts Nothing v right y b rest further wrong e = absurd (cc)
starts Action v right y b rest further wrong e = absurd (cc)
starts Target v right y b rest further wrong e = absurd (cc)
starts Targets v right y b rest further wrong e = absurd (cc)
starts Literals v right y b rest further wrong e = absurd (cc)

module _ (s t : Sort) (v : Value s) (w : Value t) (right : IsProperValue s v) (other_right : IsProperValue t w) (m n : List ℕ) (more : Bool) where
  -- texts that begin with equal bytes go on with equal texts, and others differ
  differ_at : (x y : ℕ) (a b : List ℕ) (same : Bool) → (x == y) ≡ same → (if same then apart_texts a b s t more else true) ≡ true → (x ∷ a) ++ (value_text s v ++ m) ≡ (y ∷ b) ++ (value_text t w ++ n) →
      (apart_texts a b s t more ≡ true → a ++ (value_text s v ++ m) ≡ b ++ (value_text t w ++ n) → ⊥) → ⊥
  differ_at x y a b true is h e go = go h (same_tail x y _ _ e)
  differ_at x y a b false is h e go = let same : x ≡ y = same_head x y _ _ e in let clash : (x == y) ≡ true = rw same (grind (arith, nat_tests)) in absurd (cc)

  differ_texts : (a b : List ℕ) → apart_texts a b s t more ≡ true → a ++ (value_text s v ++ m) ≡ b ++ (value_text t w ++ n) → (more ≡ true → value_text s v ++ m ≡ value_text t w ++ n → ⊥) → ⊥
  differ_texts [] [] h e after = after h e
  differ_texts [] (y ∷ b) h e after = starts s v right y b m (value_text t w ++ n) h e
  differ_texts (x ∷ a) [] h e after = starts t w other_right x a n (value_text s v ++ m) h (sym e)
  differ_texts (x ∷ a) (y ∷ b) h e after = differ_at x y a b (x == y) refl h e (λ k f. differ_texts a b k f after)

-- values that are passed over are the same, and so are the fields after them
after_passed : (s t : Sort) (fields others : List Field) (more : Bool) → (is_passed s t fields others && more) ≡ true → (v : Value s) (w : Value t) → IsProperValue s v → IsProperValue t w →
    (values : Values fields) (other_values : Values others) → AreProperValues fields values → AreProperValues others other_values →
    (more ≡ true → fields_text fields values ≡ fields_text others other_values → ⊥) → ¬ value_text s v ++ fields_text fields values ≡ value_text t w ++ fields_text others other_values
after_passed Action Action fields others more h v w right other_right values other_values all other_all go e = go h (same_group v w _ _ right other_right e).1
after_passed Short Short fields others more h v w right other_right values other_values all other_all go e =
    let parts = and_parts (is_ended Short fields && is_ended Short others) more h in
    let ends = and_parts (is_ended Short fields) (is_ended Short others) parts.0 in
    go parts.1 (same_value Short v w _ _ right other_right (ended Short fields ends.0 values all) (ended Short others ends.1 other_values other_all) e).1
after_passed s t fields others more h v w right other_right values other_values all other_all go e = absurd (cc)

-- no text has two forms that are apart
differ : (fields others : List Field) → apart fields others ≡ true → (values : Values fields) (other_values : Values others) → AreProperValues fields values → AreProperValues others other_values →
    ¬ fields_text fields values ≡ fields_text others other_values
differ [] others h values other_values right other_right e = absurd (cc)
differ (field ∷ fields) [] h values other_values right other_right e = absurd (cc)
differ (field ∷ fields) (other ∷ others) h values other_values right other_right e =
    let rest = fields_text fields values.1 in
    let other_rest = fields_text others other_values.1 in
    differ_texts field.1 other.1 values.0 other_values.0 right.0 other_right.0 rest other_rest (is_passed field.1 other.1 fields others && apart fields others) (text_of field.0) (text_of other.0) h e
    (λ more same. after_passed field.1 other.1 fields others (apart fields others) more values.0 other_values.0 right.0 other_right.0 values.1 other_values.1 right.1 other_right.1
    (λ apart_more same_more. differ fields others apart_more values.1 other_values.1 right.1 other_right.1 same_more) same)

same_or_apart : (kind other : LineKind) → (kind ≡ other) ⊎ (apart (form kind) (form other) ≡ true)
same_or_apart k.PolicyHeader k.PolicyHeader = inl refl
same_or_apart k.RefusalHeader k.RefusalHeader = inl refl
same_or_apart k.CoverHeader k.CoverHeader = inl refl
same_or_apart k.TableHeader k.TableHeader = inl refl
same_or_apart k.BestHeader k.BestHeader = inl refl
same_or_apart k.Layer k.Layer = inl refl
same_or_apart k.Cube k.Cube = inl refl
same_or_apart k.Pair k.Pair = inl refl
same_or_apart k.FairRule k.FairRule = inl refl
same_or_apart k.UnfairRule k.UnfairRule = inl refl
same_or_apart k.Reach k.Reach = inl refl
same_or_apart k.GoalItem k.GoalItem = inl refl
same_or_apart k.RuleItem k.RuleItem = inl refl
same_or_apart k.RankedItem k.RankedItem = inl refl
same_or_apart k.Start k.Start = inl refl
same_or_apart k.Far k.Far = inl refl
same_or_apart k.Row k.Row = inl refl
same_or_apart k.End k.End = inl refl
same_or_apart kind other = inr refl

abbrev line_of : (kind : LineKind) → Values (form kind) → Line
line_of kind values = record { kind = kind; values = values }

-- the line that a text is, if it is one of this kind
abbrev IsOnly : Line → LineKind → Type 0
IsOnly line kind = (values : Values (form kind)) → AreProperValues (form kind) values → line_text line ≡ fields_text (form kind) values → line ≡ line_of kind values

only_own : (line : Line) → IsProper line → IsOnly line line.kind
only_own line right values other_right e = ap (line_of line.kind) (same_values (form line.kind) (clear line.kind) line.values values right other_right e)

only : (line : Line) → IsProper line → (kind : LineKind) → (line.kind ≡ kind) ⊎ (apart (form line.kind) (form kind) ≡ true) → IsOnly line kind
only line right kind (inl same) = subst (IsOnly line) same (only_own line right)
only line right kind (inr differs) = λ values other_right e. absurd (differ (form line.kind) (form kind) differs line.values values right other_right e)

-- proper lines of one text are the same
pub same_line : (line other : Line) → IsProper line → IsProper other → line_text line ≡ line_text other → line ≡ other
same_line line other right other_right e = only line right other.kind (same_or_apart line.kind other.kind) other.values other_right e

-- a proper line has the form of its own kind alone
pub same_kind : (line : Line) (kind : LineKind) → IsProper line → HasForm (form kind) (line_text line) → line.kind ≡ kind
same_kind line kind right has = ap (λ (line : Line). line.kind) (only line right kind (same_or_apart line.kind kind) has.0 has.1 has.2)
