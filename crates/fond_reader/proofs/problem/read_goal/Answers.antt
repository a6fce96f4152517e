use Rattle.std.proofs.Common.{[]}
use Rattle.fond_tree.specs.declared.role.Role.TheVariants as role
use Rattle.fond_reader.proofs.Operators.{first_of}
use Rattle.fond_reader.proofs.problem.read_goal.Goals as goal

pub read_condition-requires : goal.read_condition-requires
read_condition-requires c = record { fits = first_of role.Condition [] _ c.tree-item.result c.requires.fit c.tree-item.is }
