-- The values of fields from left to right, with what they mean and how they are refused.
use Rattle.std.proofs.Common.{◌≡◌, ℕ, ◌+◌, ◌&&◌, Bool, true, false, List, [], ◌∷◌, ◌++◌, Option, Some, None, length, Result, Ok, Err, OnOk, IfErr, refl, sym, subst, ap, ◌∙◌, arith}
use Rattle.std.proofs.lemmas.Bool.{and_parts}
use Rattle.fond_task.specs.declared.task.Task.{Task}
use Rattle.fond_form.specs.declared.part.Part.{Part}
use Rattle.fond_form.specs.declared.table.Sort.{Sort}
use Rattle.fond_form.specs.declared.table.Sort.TheVariants.{Nothing, Action, Short, Long, Target, Shorts, Targets, Literals}
use Rattle.fond_form.specs.Cutting.{HasNoField, IsFieldOf, is_ended, is_clear}
use Rattle.fond_form.specs.Forms.{Field, text_of, Value, value_text, Values, fields_text, HasForm}
use Rattle.fond_form.proofs.Clear.{form_less, no_form}
use Rattle.fond_cert.specs.Checked.{IsValueText, IsValueRefused, IsFilled, AreFilled, AreFieldsRefused}
use Rattle.fond_cert.specs.Filled.{with_meanings}
use Rattle.fond_cert.specs.Refusals.{LineRefuses}
use Rattle.fond_cert.specs.Spellings.{spelled}
use Rattle.fond_cert.specs.Words.{Refused, or_else, value_refusal, values_refusal, is_ordered, are_ordered, refusal_or_order, fields_refusal}
use Rattle.fond_cert.specs.declared.error.LineError.{LineError}
use Rattle.fond_cert.specs.declared.error.LineError.TheVariants.{Refused as RefusedLine, NoMemory}
use Rattle.fond_cert.specs.declared.values.LineValues.{LineValues}

-- what refuses a line also refuses a longer one
pub refuses_more : (P Q : Refused → Type 0) (error : LineError) → ((refused : Refused) → P refused → Q refused) → LineRefuses P error → LineRefuses Q error
refuses_more P Q (RefusedLine code at) f h = f (record { code = code; at = at }) h
refuses_more P Q NoMemory f h = tt

-- no fields mean nothing
pub nothing_filled : (task : Task) (at : ℕ) (text : List ℕ) (values : LineValues) → HasForm [] text → AreFilled task at [] text values values
nothing_filled task at text values h = (tt, record { values = tt; right = tt; text_is = h.2; clean = refl; of = tt; same = h.2 }, refl)

-- a value whose atoms are out of order is the last one
last_unordered : (task : Task) (sort : Sort) (fields : List Field) → is_ended sort fields ≡ true → (value : Value sort) → is_ordered task sort value ≡ false → (at : ℕ) (values : Values fields) → values_refusal task at fields values ≡ None
last_unordered task Literals [] last value e at values = refl
last_unordered task Literals (field ∷ fields) last value e at values = absurd (cc)
last_unordered task Nothing fields last value e at values = absurd (cc)
last_unordered task Action fields last value e at values = absurd (cc)
last_unordered task Short fields last value e at values = absurd (cc)
last_unordered task Long fields last value e at values = absurd (cc)
last_unordered task Target fields last value e at values = absurd (cc)
last_unordered task Shorts fields last value e at values = absurd (cc)
last_unordered task Targets fields last value e at values = absurd (cc)

refused_first : (first : Option Refused) (ordered : Bool) (more : Option Refused) (more_ordered : Bool) (refused : Refused) → refusal_or_order first ordered ≡ Some refused → (ordered ≡ false → more ≡ None) →
    refusal_or_order (or_else first more) (ordered && more_ordered) ≡ Some refused
refused_first (Some found) ordered more more_ordered refused e last = e
refused_first None true more more_ordered refused e last = absurd (cc)
refused_first None false more more_ordered refused e last = rw (last refl) e

module _ (task : Task) (field : Field) (fields : List Field) (rest part next : Part) (found : IsFieldOf field rest part next) where
  pub value_there : IsValueText field.1 part.text.now
  value_there = (found.value, found.right, found.part_is)

  abbrev start : ℕ
  start = rest.at + length (text_of field.0)

  next_start : (value : Value field.1) → part.text.now ≡ value_text field.1 value → start + length (value_text field.1 value) ≡ next.at
  next_start value is = omega (arith, found.part_at, found.next_at, ap length is)

  whole_text : (value : Value field.1) (values : Values fields) → part.text.now ≡ value_text field.1 value → next.text.now ≡ fields_text fields values → rest.text.now ≡ fields_text (field ∷ fields) (value, values)
  whole_text value values is more = found.split ∙ ap (λ t. text_of field.0 ++ (t ++ next.text.now)) is ∙ ap (λ t. text_of field.0 ++ (value_text field.1 value ++ t)) more

  -- after a value that is right, the others decide
  over_value : (value : Value field.1) (values : Values fields) → part.text.now ≡ value_text field.1 value → value_refusal task part.at field.1 value ≡ None → is_ordered task field.1 value ≡ true →
      fields_refusal task rest.at (field ∷ fields) (value, values) ≡ fields_refusal task next.at fields values
  over_value value values is clean ordered =
      let more = values_refusal task (start + length (value_text field.1 value)) fields values in
      let all = are_ordered task fields values in
      ap (λ first. refusal_or_order (or_else first more) (is_ordered task field.1 value && all)) (ap (λ p. value_refusal task p field.1 value) (sym found.part_at) ∙ clean)
      ∙ ap (λ first. refusal_or_order more (first && all)) ordered
      ∙ ap (λ p. refusal_or_order (values_refusal task p fields values) all) (next_start value is)

  pub filled_more : (before between after : LineValues) → IsFilled task part.at field.1 part.text.now before between → AreFilled task next.at fields next.text.now between after →
      AreFilled task rest.at (field ∷ fields) rest.text.now before after
  filled_more before between after one more =
      let m = one.1 in
      let n = more.1 in (
        (one.0, more.0),
        record {
          values = (m.value, n.values);
          right = (m.right, n.right);
          text_is = whole_text m.value n.values m.text_is n.text_is;
          clean = over_value m.value n.values m.text_is m.clean m.ordered ∙ n.clean;
          of = (m.of, n.of);
          same = found.split ∙ ap (λ t. text_of field.0 ++ (t ++ next.text.now)) m.same ∙ ap (λ t. text_of field.0 ++ (value_text field.1 (spelled task field.1 one.0) ++ t)) n.same;
        },
        more.2 ∙ ap (λ (values : LineValues). with_meanings values fields more.0) one.2,
      )

  pub refused_later : (before between : LineValues) (refused : Refused) → IsFilled task part.at field.1 part.text.now before between → AreFieldsRefused task next.at fields next.text.now refused →
      AreFieldsRefused task rest.at (field ∷ fields) rest.text.now refused
  refused_later before between refused one more =
      let m = one.1 in record {
        values = (m.value, more.values);
        right = (m.right, more.right);
        text_is = whole_text m.value more.values m.text_is more.text_is;
        wrong = over_value m.value more.values m.text_is m.clean m.ordered ∙ more.wrong;
      }

  -- the refusal of fields if the first value begins at this byte
  abbrev refusal_at : ℕ → Value field.1 → Values fields → Option Refused
  refusal_at p value values =
      refusal_or_order (or_else (value_refusal task p field.1 value) (values_refusal task (start + length (value_text field.1 value)) fields values)) (is_ordered task field.1 value && are_ordered task fields values)

  module _ (c : is_clear (field ∷ fields) ≡ true) (h : HasForm (field ∷ fields) rest.text.now) where
    pub form_left : HasForm fields next.text.now
    form_left = form_less field fields c rest part next found h

    pub refused_here : (refused : Refused) → IsValueRefused task part.at field.1 part.text.now refused → AreFieldsRefused task rest.at (field ∷ fields) rest.text.now refused
    refused_here refused r =
        let left = form_left in
        let ends = (and_parts (is_ended field.1 fields) (is_clear fields) c).0 in
        let more = start + length (value_text field.1 r.value) in record {
          values = (r.value, left.0);
          right = (r.right, left.1);
          text_is = whole_text r.value left.0 r.text_is left.2;
          wrong =
              ap (λ p. refusal_at p r.value left.0) (sym found.part_at)
              ∙ refused_first (value_refusal task part.at field.1 r.value) (is_ordered task field.1 r.value) (values_refusal task more fields left.0) (are_ordered task fields left.0) refused r.wrong
              (λ unordered. last_unordered task field.1 fields ends r.value unordered more left.0);
        }

-- the same for fields that are a first one and others
module _ (task : Task) (all : List Field) (field : Field) (fields : List Field) (e : all ≡ field ∷ fields) (c : is_clear all ≡ true) (rest : Part) (h : HasForm all rest.text.now) where
  clear_first : is_clear (field ∷ fields) ≡ true
  clear_first = subst (λ all. is_clear all ≡ true) e c

  form_first : HasForm (field ∷ fields) rest.text.now
  form_first = subst (λ all. HasForm all rest.text.now) e h

  pub clear_rest : is_clear fields ≡ true
  clear_rest = (and_parts (is_ended field.1 fields) (is_clear fields) clear_first).1

  pub is_there : ¬ HasNoField field rest.text.now
  is_there none = no_form field fields clear_first rest none form_first

  module _ (part next : Part) (found : IsFieldOf field rest part next) where
    pub form_rest : HasForm fields next.text.now
    form_rest = form_left task field fields rest part next found clear_first form_first

    pub error_here : (error : LineError) → LineRefuses (IsValueRefused task part.at field.1 part.text.now) error → LineRefuses (AreFieldsRefused task rest.at all rest.text.now) error
    error_here error r =
        subst (λ all. LineRefuses (AreFieldsRefused task rest.at all rest.text.now) error) (sym e)
        (refuses_more _ _ error (λ refused. refused_here task field fields rest part next found clear_first form_first refused) r)

    pub error_later : (before between : LineValues) (error : LineError) → IsFilled task part.at field.1 part.text.now before between → LineRefuses (AreFieldsRefused task next.at fields next.text.now) error →
        LineRefuses (AreFieldsRefused task rest.at all rest.text.now) error
    error_later before between error one r =
        subst (λ all. LineRefuses (AreFieldsRefused task rest.at all rest.text.now) error) (sym e)
        (refuses_more _ _ error (λ refused. refused_later task field fields rest part next found before between refused one) r)

    pub all_filled : (before between after : LineValues) → IsFilled task part.at field.1 part.text.now before between → AreFilled task next.at fields next.text.now between after → AreFilled task rest.at all rest.text.now before after
    all_filled before between after one more = subst (λ all. AreFilled task rest.at all rest.text.now before after) (sym e) (filled_more task field fields rest part next found before between after one more)

    pub ok_filled : {T E : Type 0} (r : Result T E) (before between after : LineValues) → IsFilled task part.at field.1 part.text.now before between → OnOk r (AreFilled task next.at fields next.text.now between after) →
        OnOk r (AreFilled task rest.at all rest.text.now before after)
    ok_filled (Ok value) before between after one more = all_filled before between after one more
    ok_filled (Err error) before between after one more = tt

    pub err_refused : {T : Type 0} (r : Result T LineError) (before between : LineValues) → IsFilled task part.at field.1 part.text.now before between → IfErr r (LineRefuses (AreFieldsRefused task next.at fields next.text.now)) →
        IfErr r (LineRefuses (AreFieldsRefused task rest.at all rest.text.now))
    err_refused (Ok value) before between one r = tt
    err_refused (Err error) before between one r = error_later before between error one r
