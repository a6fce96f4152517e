-- Moves whose targets are kept in one list.
use Rattle.std.specs.Prelude.{ℕ, ◌≤◌, ◌-◌, List, take, drop}
use Rattle.fond_fixpoint.specs.declared.moves.Head.{Head}
use Rattle.fond_fixpoint.specs.Moves.{Move}

-- the move of a head, whose targets are a range of this list
abbrev pub move_of : List ℕ → Head → Move
move_of targets head = record { source = head.source; act = head.act; unfair = head.unfair; targets = take (head.end - head.begin) (drop head.begin targets) }

-- a head has a range of a list that is this long
abbrev pub IsHead : ℕ → Head → Type 0
IsHead count head = (head.begin ≤ head.end) × (head.end ≤ count)
