-- Truth and atoms of conjunctions and disjunctions, by those of their parts.
use Rattle.std.proofs.Common.{◌≡◌, ℕ, List, Bool, map, sym, ap, ◌∙◌}
use Rattle.std.specs.List.{list_all, list_any}
use Rattle.std.specs.declared.vec.Vec.{Vec}
use Rattle.std.specs.declared.alloc.Global.{Global}
use Rattle.fond_task.specs.declared.form.Form.{Form}
use Rattle.fond_task.specs.declared.form.Form.TheVariants.{And, Or, rolls-And, rolls-Or}
use Rattle.fond_task.specs.declared.form.Form.TheOpen.{And as AndOf, Or as OrOf}
use Rattle.fond_task.specs.declared.form.Form.TheFolds.{fold-roll-Form}
use Rattle.fond_task.specs.Within.{is_form_within, within_step}
use Rattle.fond_task.specs.Truth.{is_true, is_true_step}

-- a conjunction is true if each part is, and a disjunction if some part is
pub is_true-And : (state : List Bool) (parts : Vec Form Global) → is_true state (And parts) ≡ list_all (λ part. part) (map (is_true state) parts.items)
is_true-And state parts = ap (is_true state) (sym (rolls-And parts)) ∙ fold-roll-Form Bool (is_true_step state) (AndOf parts)

pub is_true-Or : (state : List Bool) (parts : Vec Form Global) → is_true state (Or parts) ≡ list_any (λ part. part) (map (is_true state) parts.items)
is_true-Or state parts = ap (is_true state) (sym (rolls-Or parts)) ∙ fold-roll-Form Bool (is_true_step state) (OrOf parts)

-- both are over some atoms if each part is
pub within-parts-And : (atoms : ℕ) (parts : Vec Form Global) → is_form_within atoms (And parts) ≡ list_all (λ part. part) (map (is_form_within atoms) parts.items)
within-parts-And atoms parts = ap (is_form_within atoms) (sym (rolls-And parts)) ∙ fold-roll-Form Bool (within_step atoms) (AndOf parts)

pub within-parts-Or : (atoms : ℕ) (parts : Vec Form Global) → is_form_within atoms (Or parts) ≡ list_all (λ part. part) (map (is_form_within atoms) parts.items)
within-parts-Or atoms parts = ap (is_form_within atoms) (sym (rolls-Or parts)) ∙ fold-roll-Form Bool (within_step atoms) (OrOf parts)
