-- Copies of forms, forms that are true together, and the meanings of entries with them.
use Rattle.std.proofs.Common.{◌≡◌, ℕ, List, [], ◌∷◌, ◌&&◌, Bool, true, false, Option, Vec, Global, map, refl, sym, ap, ◌∙◌}
use Rattle.std.specs.List.{list_all}
use Rattle.std.proofs.lemmas.List.Folds.{list_all-map}
use Rattle.fond_task.specs.declared.form.Form.{Form}
use Rattle.fond_task.specs.declared.form.Form.TheVariants.{Truth, And, Or, rolls-Or}
use Rattle.fond_task.specs.declared.form.Form.TheOpen as open_form
use Rattle.fond_task.specs.declared.form.Form.TheFolds.{fold-roll-Form}
use Rattle.fond_task.specs.declared.form.Kleene.{Kleene}
use Rattle.fond_task.specs.declared.form.Kleene.TheVariants.{Yes}
use Rattle.fond_task.specs.declared.task.Entry.{Entry}
use Rattle.fond_task.specs.Values.{greatest, least, lesser, value, value_step}
use Rattle.fond_task.specs.Within.{is_form_within, within_step}
use Rattle.fond_task.proofs.Forms.{value-Truth, value-And, within-Truth, within-And}
use Rattle.fond_oneof.specs.Shown.{AreSameForms, IsAlwaysTrue, IsBoth, IsSameForm, shown, shown_under}
use Rattle.fond_oneof.proofs.Meanings.{lesser_last}

value-Or : (cube : List (Option Bool)) (parts : Vec Form Global) → value cube (Or parts) ≡ greatest (map (value cube) parts.items)
value-Or cube parts = ap (value cube) (sym (rolls-Or parts)) ∙ fold-roll-Form Kleene (value_step cube) (open_form.Or parts)

within-Or : (atoms : ℕ) (parts : Vec Form Global) → is_form_within atoms (Or parts) ≡ list_all (λ part. part) (map (is_form_within atoms) parts.items)
within-Or atoms parts = ap (is_form_within atoms) (sym (rolls-Or parts)) ∙ fold-roll-Form Bool (within_step atoms) (open_form.Or parts)

over-And : (atoms : ℕ) (parts : Vec Form Global) → is_form_within atoms (And parts) ≡ list_all (λ part. part) (map (is_form_within atoms) parts.items)
over-And atoms parts = within-And atoms parts ∙ sym (list_all-map (λ part. part) (is_form_within atoms) parts.items)

pub same_and : (parts copies : Vec Form Global) → AreSameForms parts.items copies.items → IsSameForm (And parts) (And copies)
same_and parts copies same = record {
  valued = λ cube. value-And cube copies ∙ ap least (same.valued cube) ∙ sym (value-And cube parts);
  over = λ atoms. over-And atoms copies ∙ ap (list_all (λ part. part)) (same.over atoms) ∙ sym (over-And atoms parts);
}

pub same_or : (parts copies : Vec Form Global) → AreSameForms parts.items copies.items → IsSameForm (Or parts) (Or copies)
same_or parts copies same = record {
  valued = λ cube. value-Or cube copies ∙ ap greatest (same.valued cube) ∙ sym (value-Or cube parts);
  over = λ atoms. within-Or atoms copies ∙ ap (list_all (λ part. part)) (same.over atoms) ∙ sym (within-Or atoms parts);
}

pub always_true : (form : Form) (truth : Bool) → form ≡ Truth truth → truth ≡ true → IsAlwaysTrue form
always_true form truth is yes_is = record {
  valued = λ cube. ap (value cube) (is ∙ ap Truth yes_is) ∙ value-Truth cube true;
  over = λ atoms. ap (is_form_within atoms) is ∙ within-Truth atoms truth;
}

and_last : (a : Bool) → (a && true) ≡ a
and_last true = refl
and_last false = refl

pub both_first : (form other first : Form) → IsAlwaysTrue other → IsSameForm form first → IsBoth form other first
both_first form other first always same = record {
  valued = λ cube. same.valued cube ∙ sym (ap (lesser (value cube form)) (always.valued cube) ∙ lesser_last (value cube form));
  over = λ atoms. same.over atoms ∙ sym (ap (λ b. is_form_within atoms form && b) (always.over atoms) ∙ and_last (is_form_within atoms form));
}

pub both_pair : (form other first second : Form) (forms : Vec Form Global) → forms.items ≡ first ∷ second ∷ [] → IsSameForm form first → IsSameForm other second → IsBoth form other (And forms)
both_pair form other first second forms is one two = record {
  valued = λ cube. value-And cube forms ∙ ap (λ items. least (map (value cube) items)) is ∙ (λ i. lesser (one.valued cube i) (two.valued cube i));
  over = λ atoms. within-And atoms forms ∙ ap (list_all (is_form_within atoms)) is ∙ (λ i. one.over atoms i && and_last (two.over atoms i) i);
}

-- the meaning of a copy of an entry
pub shown_same : (entry : Entry) (cond : Form) → IsSameForm entry.cond cond → shown (record { cond = cond; atom = entry.atom; add = entry.add }) ≡ shown entry
shown_same entry cond same = λ i. record { atom = entry.atom; add = entry.add; value = λ cube. same.valued cube i; within = λ atoms. same.over atoms i }

-- the meaning of an entry under one more condition
pub shown_both : (condition : Form) (entry : Entry) (cond : Form) → IsBoth condition entry.cond cond → shown (record { cond = cond; atom = entry.atom; add = entry.add }) ≡ shown_under condition (shown entry)
shown_both condition entry cond is = λ i. record { atom = entry.atom; add = entry.add; value = λ cube. is.valued cube i; within = λ atoms. is.over atoms i }

-- the meaning of an entry without condition
pub shown_alone : (atom : ℕ) (add : Bool) → shown (record { cond = Truth true; atom = atom; add = add }) ≡ record { atom = atom; add = add; value = λ cube. Yes; within = λ atoms. true }
shown_alone atom add = λ i. record { atom = atom; add = add; value = λ cube. value-Truth cube true i; within = λ atoms. within-Truth atoms true i }
