use Rattle.std.proofs.Common.{◌≡◌, ◌||◌, ℕ, List, drop, is_some}
use Rattle.std.specs.List.{list_any}
use Rattle.fond_store.specs.Texts.{number_beside}
use Rattle.fond_types.specs.Resolves.{mentions}
use Rattle.fond_types.specs.Sound.{is_mentioned}
use Rattle.fond_types.proofs.mentioned.mentioned.Given as goal

-- a name is there at the end if and only if it is there now or a schema that is left mentions it
abbrev pub invariant-loop-i : goal.invariant-loop-i
invariant-loop-i l = (name : List ℕ) →
    (is_some (number_beside l.index name) || list_any (λ schema. mentions name schema.effect) (drop l.i l.domain.schemas)) ≡ is_mentioned l.domain name
