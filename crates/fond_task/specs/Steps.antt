-- The effect of an outcome on a state.
use Rattle.std.specs.Prelude.{ℕ, ◌==◌, ◌&&◌, ◌||◌, List, Bool, not, map}
use Rattle.std.specs.List.{list_any, enumerate_from}
use Rattle.fond_task.specs.declared.task.Entry.{Entry}
use Rattle.fond_task.specs.Truth.{is_true}

-- whether some entry of the outcome adds the atom: one whose condition is true in the state before
abbrev pub adds : List Bool → List Entry → ℕ → Bool
adds state outcome atom = list_any (λ entry. entry.add && entry.atom == atom && is_true state entry.cond) outcome

-- whether some entry of the outcome deletes the atom: one whose condition is true in the state before
abbrev pub deletes : List Bool → List Entry → ℕ → Bool
deletes state outcome atom = list_any (λ entry. not entry.add && entry.atom == atom && is_true state entry.cond) outcome

-- a list with each element replaced by a function of its index and itself
abbrev pub by_index : {A : Type 0} → (ℕ → A → A) → List A → List A
by_index change xs = map (λ item. change item.0 item.1) (enumerate_from 0 xs)

-- the state after an outcome: the atoms that it adds, and those that were true and that it does not delete
abbrev pub next_state : List Bool → List Entry → List Bool
next_state state outcome = by_index (λ atom value. adds state outcome atom || (value && not (deletes state outcome atom))) state
