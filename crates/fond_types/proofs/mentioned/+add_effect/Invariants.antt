use Rattle.std.proofs.Common.{◌≡◌, ◌||◌, ℕ, List, drop, map, is_some}
use Rattle.std.specs.List.{list_any}
use Rattle.fond_store.specs.Texts.{number_beside}
use Rattle.fond_types.specs.Resolves.{mentions}
use Rattle.fond_types.proofs.mentioned.+add_effect.Given as goal

-- a name is there at the end if and only if it is there now or a part that is left mentions it
abbrev pub invariant-loop-part : goal.invariant-loop-part
invariant-loop-part l = (name : List ℕ) →
    (is_some (number_beside l.index name) || list_any (λ part. part) (map (mentions name) (drop l.part-index l.part-items)))
    ≡ (is_some (number_beside l.initial.index name) || list_any (λ part. part) (map (mentions name) l.part-items))
