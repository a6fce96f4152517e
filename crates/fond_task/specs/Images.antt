-- The image of a cube under an outcome, which is again a cube.
use Rattle.std.specs.Prelude.{ℕ, ◌==◌, ◌&&◌, List, Bool, true, false, not, Option, Some, None, map, filter}
use Rattle.fond_task.specs.declared.form.Kleene.{Kleene}
use Rattle.fond_task.specs.declared.form.Kleene.TheVariants.{No, Unknown, Yes}
use Rattle.fond_task.specs.declared.task.Entry.{Entry}
use Rattle.fond_task.specs.Steps.{by_index}
use Rattle.fond_task.specs.Values.{greatest, value}

-- the greatest value, on the cube, of the conditions of the entries that add the atom
abbrev pub added_value : List (Option Bool) → List Entry → ℕ → Kleene
added_value cube outcome atom = greatest (map (λ entry. value cube entry.cond) (filter (λ entry. entry.add && entry.atom == atom) outcome))

-- the greatest value, on the cube, of the conditions of the entries that delete the atom
abbrev pub deleted_value : List (Option Bool) → List Entry → ℕ → Kleene
deleted_value cube outcome atom = greatest (map (λ entry. value cube entry.cond) (filter (λ entry. not entry.add && entry.atom == atom) outcome))

-- what is known of an atom after the deletes: what was known if no delete happens, that it is false if one does,
-- and if one may happen, only that an atom that was false is still false
abbrev pub after_deletes : Kleene → Option Bool → Option Bool
after_deletes No known = known
after_deletes Unknown None = None
after_deletes Unknown (Some true) = None
after_deletes Unknown (Some false) = Some false
after_deletes Yes known = Some false

-- what is known of an atom after the adds: what was known if no add happens, that it is true if one does, and if
-- one may happen, only that an atom that was true is still true
abbrev pub after_adds : Kleene → Option Bool → Option Bool
after_adds No known = known
after_adds Unknown None = None
after_adds Unknown (Some true) = Some true
after_adds Unknown (Some false) = None
after_adds Yes known = Some true

-- the greatest value, on the cube, of the conditions of the entries that add the atom, or of those that delete it
abbrev pub changed_value : Bool → List (Option Bool) → List Entry → ℕ → Kleene
changed_value true cube outcome atom = added_value cube outcome atom
changed_value false cube outcome atom = deleted_value cube outcome atom

-- what is known of an atom after the adds, or after the deletes
abbrev pub after_changes : Bool → Kleene → Option Bool → Option Bool
after_changes true greatest known = after_adds greatest known
after_changes false greatest known = after_deletes greatest known

-- the image of a cube under an outcome: the cube of what is known of each atom after its deletes and then its adds
abbrev pub image : List (Option Bool) → List Entry → List (Option Bool)
image cube outcome = by_index (λ atom known. after_adds (added_value cube outcome atom) (after_deletes (deleted_value cube outcome atom) known)) cube
