-- Values, truth and atoms of forms, constructor by constructor.
use Rattle.std.proofs.Common.{◌≡◌, ℕ, List, Bool, true, Option, map, sym, ap, ◌∙◌}
use Rattle.std.specs.Prelude.{nat_lt, if◌then◌else◌}
use Rattle.std.specs.List.{list_all}
use Rattle.fond_state.specs.Cubes.{truth_at, literal_at}
use Rattle.fond_task.specs.declared.form.Form.{Form}
use Rattle.std.specs.declared.vec.Vec.{Vec}
use Rattle.std.specs.declared.alloc.Global.{Global}
use Rattle.std.proofs.lemmas.List.Folds.{list_all-map}
use Rattle.fond_task.specs.declared.form.Form.TheVariants.{Truth, Lit, And, rolls-Truth, rolls-Lit, rolls-And}
use Rattle.fond_task.specs.declared.form.Form.TheOpen.{Truth as TruthOf, Lit as LitOf, And as AndOf}
use Rattle.fond_task.specs.declared.form.Form.TheFolds.{fold-roll-Form}
use Rattle.fond_task.specs.declared.form.Kleene.{Kleene}
use Rattle.fond_task.specs.declared.form.Kleene.TheVariants.{No, Yes}
use Rattle.fond_task.specs.Within.{is_form_within, within_step}
use Rattle.fond_task.specs.Truth.{is_true, is_true_step}
use Rattle.fond_text.specs.Bools.{is_same}
use Rattle.fond_task.specs.Values.{least, literal_value, value, value_step}

pub value-Truth : (cube : List (Option Bool)) (b : Bool) → value cube (Truth b) ≡ (if b then Yes else No)
value-Truth cube b = ap (value cube) (sym (rolls-Truth b)) ∙ fold-roll-Form Kleene (value_step cube) (TruthOf b)

pub value-Lit : (cube : List (Option Bool)) (atom : ℕ) (sign : Bool) → value cube (Lit atom sign) ≡ literal_value (literal_at cube atom) sign
value-Lit cube atom sign = ap (value cube) (sym (rolls-Lit atom sign)) ∙ fold-roll-Form Kleene (value_step cube) (LitOf atom sign)

pub is_true-Truth : (state : List Bool) (b : Bool) → is_true state (Truth b) ≡ b
is_true-Truth state b = ap (is_true state) (sym (rolls-Truth b)) ∙ fold-roll-Form Bool (is_true_step state) (TruthOf b)

pub is_true-Lit : (state : List Bool) (atom : ℕ) (sign : Bool) → is_true state (Lit atom sign) ≡ is_same (truth_at state atom) sign
is_true-Lit state atom sign = ap (is_true state) (sym (rolls-Lit atom sign)) ∙ fold-roll-Form Bool (is_true_step state) (LitOf atom sign)

pub within-Truth : (atoms : ℕ) (b : Bool) → is_form_within atoms (Truth b) ≡ true
within-Truth atoms b = ap (is_form_within atoms) (sym (rolls-Truth b)) ∙ fold-roll-Form Bool (within_step atoms) (TruthOf b)

pub within-Lit : (atoms atom : ℕ) (sign : Bool) → is_form_within atoms (Lit atom sign) ≡ nat_lt atom atoms
within-Lit atoms atom sign = ap (is_form_within atoms) (sym (rolls-Lit atom sign)) ∙ fold-roll-Form Bool (within_step atoms) (LitOf atom sign)

-- the value of a conjunction, and whether it is over atoms
pub value-And : (cube : List (Option Bool)) (parts : Vec Form Global) → value cube (And parts) ≡ least (map (value cube) parts.items)
value-And cube parts = ap (value cube) (sym (rolls-And parts)) ∙ fold-roll-Form Kleene (value_step cube) (AndOf parts)

pub within-And : (atoms : ℕ) (parts : Vec Form Global) → is_form_within atoms (And parts) ≡ list_all (is_form_within atoms) parts.items
within-And atoms parts = ap (is_form_within atoms) (sym (rolls-And parts)) ∙ fold-roll-Form Bool (within_step atoms) (AndOf parts) ∙ list_all-map (λ part. part) (is_form_within atoms) parts.items
