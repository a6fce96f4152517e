-- The fates of nodes before the first round.
use Rattle.std.specs.Prelude.{Bool, true, false}
use Rattle.fond_fixpoint.specs.declared.fate.Fate.{Fate}
use Rattle.fond_fixpoint.specs.declared.fate.Fate.TheVariants.{Open, Goal}

-- the fate of a node at the beginning: a goal is one, and any other node is open
abbrev pub begun : Bool → Fate
begun true = Goal
begun false = Open
