-- The flat game of the graph that a policy reaches.
use Rattle.std.specs.Prelude.{⊤, ◌<◌, ℕ, List, [], Bool, true, false, Option, Some, None, length, slice_get}
use Rattle.fond_task.specs.declared.task.Act.{Act}
use Rattle.fond_task.specs.declared.task.Task.{Task}
use Rattle.fond_reach.specs.declared.node.Node.{Node}
use Rattle.fond_reach.specs.declared.node.Node.TheVariants.{Goal, Stuck, Acts}
use Rattle.fond_games.specs.declared.kind.Kind as kinds
use Rattle.fond_games.specs.declared.kind.Kind.{Kind}
use Rattle.fond_games.specs.declared.kind.Kind.TheVariants.{Fair, Unfair}

-- the task has the action of a node, if the node has one
abbrev pub HasAct : Task → Node → Type 0
HasAct task Goal = ⊤
HasAct task Stuck = ⊤
HasAct task (Acts act nexts) = act < length task.acts

-- who picks among the edges: an opponent if this is true, and chance if it is not
abbrev pub picker : Bool → Kind
picker true = Unfair
picker false = Fair

-- who picks the outcome of an action: chance if there is no action
abbrev pub picker_of : Option Act → Kind
picker_of None = Fair
picker_of (Some act) = picker act.unfair

-- the kind of a node: a dead end is fair
abbrev pub kind_of : Task → Node → Kind
kind_of task Goal = kinds.TheVariants.Goal
kind_of task Stuck = Fair
kind_of task (Acts act nexts) = picker_of (slice_get task.acts act)

-- the edges out of a node: none out of a goal or a dead end
abbrev pub edges_of : Node → List ℕ
edges_of Goal = []
edges_of Stuck = []
edges_of (Acts act nexts) = nexts
