-- Effects whose numbers all name atoms, and effects whose choices have members.
use Rattle.std.specs.Prelude.{ℕ, ◌==◌, ◌&&◌, nat_lt, Bool, true, not, length}
use Rattle.std.specs.List.{list_all}
use Rattle.fond_task.specs.Within.{is_form_within}
use Rattle.fond_oneof.specs.declared.effect.GroundEffect.{GroundEffect}
use Rattle.fond_oneof.specs.declared.effect.GroundEffect.TheOpen.{GroundEffect-F, Literal, And, OneOf, When}
use Rattle.fond_oneof.specs.declared.effect.GroundEffect.TheFolds.{fold-GroundEffect}

abbrev pub over_step : ℕ → GroundEffect-F Bool → Bool
over_step atoms (Literal atom add) = nat_lt atom atoms
over_step atoms (And parts) = list_all (λ part. part) parts.items
over_step atoms (OneOf parts) = list_all (λ part. part) parts.items
over_step atoms (When condition part) = is_form_within atoms condition && part.value

-- whether each literal and each condition of an effect is over this many atoms
abbrev pub is_effect_over : ℕ → GroundEffect → Bool
is_effect_over atoms = fold-GroundEffect Bool (over_step atoms)

abbrev pub members_step : GroundEffect-F Bool → Bool
members_step (Literal atom add) = true
members_step (And parts) = list_all (λ part. part) parts.items
members_step (OneOf parts) = not (length parts.items == 0) && list_all (λ part. part) parts.items
members_step (When condition part) = part.value

-- whether each choice in an effect has a member
abbrev pub has_members : GroundEffect → Bool
has_members = fold-GroundEffect Bool members_step
