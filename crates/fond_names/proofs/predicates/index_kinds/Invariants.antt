use Rattle.std.proofs.Common.{◌≡◌, ◌||◌, ℕ, List, drop, is_some}
use Rattle.fond_store.specs.Texts.{number_beside}
use Rattle.fond_names.specs.Names.{is_among}
use Rattle.fond_names.specs.Same.{kind_names}
use Rattle.fond_names.proofs.predicates.index_kinds.Given as goal

-- a name is one of the types if and only if it is one of those so far or of those that are left
abbrev pub invariant-loop-i : goal.invariant-loop-i
invariant-loop-i l =
    (name : List ℕ) → (is_some (number_beside l.index name) || is_among (kind_names (drop l.i l.kinds)) name) ≡ is_among (kind_names l.kinds) name
