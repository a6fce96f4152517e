-- Forms in which each value ends before the next field, and the lines that have one.
use Rattle.std.proofs.Common.{◌≡◌, ℕ, ◌==◌, Bool, true, false, List, [], ◌∷◌, ◌++◌, codes, refl, sym, subst, ap, ◌∙◌, arith}
use Rattle.std.proofs.lemmas.Bool.{and_parts}
use Rattle.std.proofs.lemmas.List.{append_cancel_left}
use borrow.Author.Tests.{eqb-true}
use Rattle.fond_form.specs.Lines.{is_number, is_target}
use Rattle.fond_form.specs.Parts.{EndsWord, HasNoWord}
use Rattle.fond_form.specs.Forms.{Field, text_of, form, Value, IsProperValue, value_text, Values, AreProperValues, fields_text, HasForm}
use Rattle.fond_form.specs.Cutting.{Ends, HasNoField, IsFieldOf, is_space_first, is_colon_first, is_ended, is_clear}
use Rattle.fond_form.specs.declared.part.Part.{Part}
use Rattle.fond_form.specs.declared.table.LineKind.{LineKind}
use Rattle.fond_form.specs.declared.table.LineKind.TheVariants as k
use Rattle.fond_form.specs.declared.table.Sort.{Sort}
use Rattle.fond_form.specs.declared.table.Sort.TheVariants.{Nothing, Action, Short, Long, Target, Shorts, Targets, Literals}
use Rattle.fond_form.proofs.Longest.{colon_no_target, colon_no_number}
use Rattle.fond_form.proofs.Sames.{same_value}

nothing_more : (test : List ℕ → Bool) → HasNoWord test []
nothing_more test word rest h ends e = absurd (cc)

ends_by_space : (text : List ℕ) (sort : Sort) → is_space_first text sort ≡ true → (value : Value sort) → IsProperValue sort value → (rest : List ℕ) → EndsWord (text ++ (value_text sort value ++ rest))
ends_by_space (b ∷ text) _ e value right rest = eqb-true b 32 e
ends_by_space [] Shorts e [] right rest = absurd (omega (arith, right.0))
ends_by_space [] Shorts e (word ∷ words) right rest = refl
ends_by_space [] Targets e [] right rest = absurd (omega (arith, right.0))
ends_by_space [] Targets e (word ∷ words) right rest = refl
ends_by_space [] Nothing e value right rest = absurd (cc)
ends_by_space [] Action e value right rest = absurd (cc)
ends_by_space [] Short e value right rest = absurd (cc)
ends_by_space [] Long e value right rest = absurd (cc)
ends_by_space [] Target e value right rest = absurd (cc)
ends_by_space [] Literals e value right rest = absurd (cc)

module _ (test : List ℕ → Bool) (none : (l : List ℕ) → HasNoWord test (codes " :" ++ l)) where
  ends_by_colon : (text rest : List ℕ) → is_colon_first text ≡ true → EndsWord (text ++ rest) × HasNoWord test (text ++ rest)
  ends_by_colon [] rest e = absurd (cc)
  ends_by_colon (b ∷ []) rest e = absurd (cc)
  ends_by_colon (b ∷ c ∷ text) rest e =
      let parts = and_parts (b == 32) (c == 58) e in
      let space = eqb-true b 32 parts.0 in
      let colon = eqb-true c 58 parts.1 in
      (space, rw (space, colon) (none (text ++ rest)))

-- a value ends before the fields that follow it
pub ended : (sort : Sort) (fields : List Field) → is_ended sort fields ≡ true → (values : Values fields) → AreProperValues fields values → Ends sort (fields_text fields values)
ended Action fields e values right = tt
ended Nothing [] e values right = refl
ended Short [] e values right = tt
ended Long [] e values right = tt
ended Target [] e values right = tt
ended Shorts [] e values right = (tt, nothing_more is_number)
ended Targets [] e values right = (tt, nothing_more is_target)
ended Literals [] e values right = refl
ended Nothing (field ∷ fields) e values right = absurd (cc)
ended Short (field ∷ fields) e values right = ends_by_space (text_of field.0) field.1 e values.0 right.0 (fields_text fields values.1)
ended Long (field ∷ fields) e values right = ends_by_space (text_of field.0) field.1 e values.0 right.0 (fields_text fields values.1)
ended Target (field ∷ fields) e values right = ends_by_space (text_of field.0) field.1 e values.0 right.0 (fields_text fields values.1)
ended Shorts (field ∷ fields) e values right = ends_by_colon is_number colon_no_number (text_of field.0) (value_text field.1 values.0 ++ fields_text fields values.1) e
ended Targets (field ∷ fields) e values right = ends_by_colon is_target colon_no_target (text_of field.0) (value_text field.1 values.0 ++ fields_text fields values.1) e
ended Literals (field ∷ fields) e values right = absurd (cc)

-- each form is clear
pub clear : (kind : LineKind) → is_clear (form kind) ≡ true
clear k.PolicyHeader = refl
clear k.RefusalHeader = refl
clear k.CoverHeader = refl
clear k.TableHeader = refl
clear k.BestHeader = refl
clear k.Layer = refl
clear k.Cube = refl
clear k.Pair = refl
clear k.FairRule = refl
clear k.UnfairRule = refl
clear k.Reach = refl
clear k.GoalItem = refl
clear k.RuleItem = refl
clear k.RankedItem = refl
clear k.Start = refl
clear k.Far = refl
clear k.Row = refl
clear k.End = refl

-- fields of one text have the same values
pub same_values : (fields : List Field) → is_clear fields ≡ true → (values others : Values fields) → AreProperValues fields values → AreProperValues fields others → fields_text fields values ≡ fields_text fields others → values ≡ others
same_values [] c values others h k e = refl
same_values (field ∷ fields) c values others h k e =
    let parts = and_parts (is_ended field.1 fields) (is_clear fields) c in
    let rest = fields_text fields values.1 in
    let other_rest = fields_text fields others.1 in
    let first = same_value field.1 values.0 others.0 rest other_rest h.0 k.0 (ended field.1 fields parts.0 values.1 h.1) (ended field.1 fields parts.0 others.1 k.1)
    (append_cancel_left (text_of field.0) _ _ e) in
    let more = same_values fields parts.1 values.1 others.1 h.1 k.1 first.1 in
    λ i. (first.0 i, more i)

module _ (field : Field) (fields : List Field) (c : is_clear (field ∷ fields) ≡ true) (rest : Part) where
  pub no_form : HasNoField field rest.text.now → ¬ HasForm (field ∷ fields) rest.text.now
  no_form none h =
      none h.0.0 (fields_text fields h.0.1) h.1.0 (ended field.1 fields (and_parts (is_ended field.1 fields) (is_clear fields) c).0 h.0.1 h.1.1) h.2

  module _ (part next : Part) (found : IsFieldOf field rest part next) where
    pub form_more : HasForm fields next.text.now → HasForm (field ∷ fields) rest.text.now
    form_more h = (
      (found.value, h.0),
      (found.right, h.1),
      found.split ∙ ap (λ t. text_of field.0 ++ (t ++ next.text.now)) found.part_is ∙ ap (λ t. text_of field.0 ++ (value_text field.1 found.value ++ t)) h.2,
    )

    -- the values of the fields from the one that was cut on
    pub first_is : (values : Values (field ∷ fields)) → AreProperValues (field ∷ fields) values → rest.text.now ≡ fields_text (field ∷ fields) values →
        (found.value ≡ values.0) × (next.text.now ≡ fields_text fields values.1)
    first_is values right e =
        same_value field.1 found.value values.0 next.text.now (fields_text fields values.1) found.right right.0 found.ends
        (ended field.1 fields (and_parts (is_ended field.1 fields) (is_clear fields) c).0 values.1 right.1)
        (ap (λ t. t ++ next.text.now) (sym found.part_is) ∙ append_cancel_left (text_of field.0) _ _ (sym found.split ∙ e))

    pub form_less : HasForm (field ∷ fields) rest.text.now → HasForm fields next.text.now
    form_less h = (h.0.1, h.1.1, (first_is h.0 h.1 h.2).1)

-- the fields from the second on have the form of what follows the first
pub form_by_first : (all : List Field) (field : Field) (fields : List Field) (rest part next : Part) (r : Bool) → all ≡ field ∷ fields → is_clear all ≡ true → IsFieldOf field rest part next →
    ((r ≡ true → HasForm fields next.text.now) × (HasForm fields next.text.now → r ≡ true)) → (r ≡ true → HasForm all rest.text.now) × (HasForm all rest.text.now → r ≡ true)
form_by_first all field fields rest part next r e c found h =
    let clear_form = subst (λ all. is_clear all ≡ true) e c in (
      λ yes. subst (λ all. HasForm all rest.text.now) (sym e) (form_more field fields clear_form rest part next found (h.0 yes)),
      λ has. h.1 (form_less field fields clear_form rest part next found (subst (λ all. HasForm all rest.text.now) e has)),
    )

pub no_form_by_first : (all : List Field) (field : Field) (fields : List Field) (rest : Part) → all ≡ field ∷ fields → is_clear all ≡ true → HasNoField field rest.text.now →
    (false ≡ true → HasForm all rest.text.now) × (HasForm all rest.text.now → false ≡ true)
no_form_by_first all field fields rest e c none = (
  λ f. absurd (cc),
  λ has. absurd (no_form field fields (subst (λ all. is_clear all ≡ true) e c) rest none (subst (λ all. HasForm all rest.text.now) e has)),
)
