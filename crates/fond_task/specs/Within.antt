-- Forms, entries and actions whose numbers all name atoms.
use Rattle.std.specs.Prelude.{ℕ, ◌&&◌, Bool, true, nat_le, nat_lt, length}
use Rattle.std.specs.List.{list_all}
use Rattle.fond_text.specs.declared.code.TheConstants.{MOST_OUTCOMES}
use Rattle.fond_task.specs.declared.form.Form.{Form}
use Rattle.fond_task.specs.declared.form.Form.TheOpen.{Form-F, Truth, Lit, And, Or}
use Rattle.fond_task.specs.declared.form.Form.TheFolds.{fold-Form}
use Rattle.fond_task.specs.declared.task.Entry.{Entry}
use Rattle.fond_task.specs.declared.task.Act.{Act}

-- whether one layer of a form is over this many atoms, given the answers for its parts
abbrev pub within_step : ℕ → Form-F Bool → Bool
within_step atoms (Truth value) = true
within_step atoms (Lit atom sign) = nat_lt atom atoms
within_step atoms (And parts) = list_all (λ part. part) parts.items
within_step atoms (Or parts) = list_all (λ part. part) parts.items

-- whether each literal of a form is over one of this many atoms
abbrev pub is_form_within : ℕ → Form → Bool
is_form_within atoms = fold-Form Bool (within_step atoms)

-- whether an entry changes one of this many atoms, and its condition is over them
abbrev pub is_entry_within : ℕ → Entry → Bool
is_entry_within atoms entry = nat_lt entry.atom atoms && is_form_within atoms entry.cond

-- whether an action has 1 to 256 outcomes, and its precondition and the entries of its outcomes are over this many atoms
abbrev pub is_act_within : ℕ → Act → Bool
is_act_within atoms act =
    is_form_within atoms act.pre && nat_lt 0 (length act.outcomes) && nat_le (length act.outcomes) MOST_OUTCOMES
    && list_all (list_all (is_entry_within atoms)) act.outcomes
