-- The truth of ground forms in a state.
use Rattle.std.specs.Prelude.{List, Bool}
use Rattle.std.specs.List.{list_all, list_any}
use Rattle.fond_text.specs.Bools.{is_same}
use Rattle.fond_state.specs.Cubes.{truth_at}
use Rattle.fond_task.specs.declared.form.Form.{Form}
use Rattle.fond_task.specs.declared.form.Form.TheOpen.{Form-F, Truth, Lit, And, Or}
use Rattle.fond_task.specs.declared.form.Form.TheFolds.{fold-Form}

-- whether one layer of a form is true in a state, given the answers for its parts
abbrev pub is_true_step : List Bool → Form-F Bool → Bool
is_true_step state (Truth value) = value
is_true_step state (Lit atom sign) = is_same (truth_at state atom) sign
is_true_step state (And parts) = list_all (λ part. part) parts.items
is_true_step state (Or parts) = list_any (λ part. part) parts.items

-- whether a form is true in a state: a literal if the atom has its sign, a conjunction if each part is true, a
-- disjunction if some part is
abbrev pub is_true : List Bool → Form → Bool
is_true state = fold-Form Bool (is_true_step state)
