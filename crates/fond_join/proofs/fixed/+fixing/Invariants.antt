use Rattle.std.proofs.Common.{◌≡◌, map, drop}
use Rattle.std.specs.Prelude.{fold}
use Rattle.fond_task.specs.Junctions.{joined, joined_all}
use Rattle.fond_join.specs.Fixed.{fixed_value}
use Rattle.fond_join.proofs.fixed.+fixing.Given as goal

abbrev pub invariant-members_value-loop-part : goal.invariant-members_value-loop-part
invariant-members_value-loop-part l =
    fold (joined l.junction) l.all (map (fixed_value l.bare) (drop l.part-index l.parts)) ≡ joined_all l.junction (map (fixed_value l.bare) l.parts)
