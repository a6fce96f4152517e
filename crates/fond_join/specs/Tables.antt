-- The initial atoms in tables, one for each predicate.
use Rattle.std.specs.Prelude.{◌≡◌, ℕ, Bool, List, [], ◌||◌, is_some, slice_index_or}
use Rattle.std.specs.Ordering.{eq_by_cmp}
use Rattle.fond_text.specs.declared.atom.Atom.{Atom}
use Rattle.fond_store.specs.Texts.{number_beside}
use Rattle.fond_ast.specs.States.{atom_cmp}

-- whether a list of objects is in the table of a predicate
abbrev pub is_entered : List (List (List ℕ × ℕ)) → ℕ → List ℕ → Bool
is_entered tables predicate objects = is_some (number_beside (slice_index_or tables predicate []) objects)

-- tables have those of others and an atom
abbrev pub IsEnteredBeside : List (List (List ℕ × ℕ)) → Atom → List (List (List ℕ × ℕ)) → Type 0
IsEnteredBeside tables atom others =
    (predicate : ℕ) (objects : List ℕ) → is_entered others predicate objects ≡ (eq_by_cmp atom_cmp (record { predicate = predicate; objects = objects }) atom || is_entered tables predicate objects)
