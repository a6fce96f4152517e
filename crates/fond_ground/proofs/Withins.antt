-- Ground conditions over the fluent atoms, by their parts.
use Rattle.std.proofs.Common.{◌≡◌, ℕ, ◌∙◌, Bool, true, List, Option, Vec, Global, sym, ap, nat_lt}
use Rattle.std.specs.Prelude.{if◌then◌else◌}
use Rattle.std.specs.List.{list_all}
use Rattle.std.proofs.lemmas.List.Folds.{list_all-map}
use Rattle.fond_task.specs.declared.form.Form.{Form, Truth, Lit, And, Or}
use Rattle.fond_task.specs.declared.form.Form.TheOpen as open_form
use Rattle.fond_task.specs.declared.form.Form.TheViews.{rolls-Truth, rolls-Lit, rolls-And, rolls-Or}
use Rattle.fond_task.specs.declared.form.Form.TheFolds.{fold-roll-Form}
use Rattle.fond_task.specs.declared.form.Kleene.{Kleene}
use Rattle.fond_task.specs.declared.form.Kleene.TheVariants.{No, Yes}
use Rattle.fond_task.specs.Values.{value, value_step}
use Rattle.fond_task.specs.Within.{is_form_within, within_step}

pub within-And : (atoms : ℕ) (parts : Vec Form Global) → list_all (is_form_within atoms) parts.items ≡ true → is_form_within atoms (And parts) ≡ true
within-And atoms parts h =
    ap (is_form_within atoms) (sym (rolls-And parts)) ∙ fold-roll-Form Bool (within_step atoms) (open_form.And parts) ∙ list_all-map (λ b. b) (is_form_within atoms) parts.items ∙ h

pub within-Or : (atoms : ℕ) (parts : Vec Form Global) → list_all (is_form_within atoms) parts.items ≡ true → is_form_within atoms (Or parts) ≡ true
within-Or atoms parts h =
    ap (is_form_within atoms) (sym (rolls-Or parts)) ∙ fold-roll-Form Bool (within_step atoms) (open_form.Or parts) ∙ list_all-map (λ b. b) (is_form_within atoms) parts.items ∙ h

pub within-Lit : (atoms atom : ℕ) (sign : Bool) → is_form_within atoms (Lit atom sign) ≡ nat_lt atom atoms
within-Lit atoms atom sign = ap (is_form_within atoms) (sym (rolls-Lit atom sign)) ∙ fold-roll-Form Bool (within_step atoms) (open_form.Lit atom sign)

pub value-Truth : (cube : List (Option Bool)) (truth : Bool) → value cube (Truth truth) ≡ (if truth then Yes else No)
value-Truth cube truth = ap (value cube) (sym (rolls-Truth truth)) ∙ fold-roll-Form Kleene (value_step cube) (open_form.Truth truth)
