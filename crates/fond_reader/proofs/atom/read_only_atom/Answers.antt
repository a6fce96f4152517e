use Rattle.std.proofs.Common.{[]}
use Rattle.fond_tree.specs.declared.role.Role.TheVariants as role
use Rattle.fond_reader.proofs.Operators.{first_of}
use Rattle.fond_reader.proofs.atom.read_only_atom.Goals as goal

pub read_atom-requires : goal.read_atom-requires
read_atom-requires c = first_of role.Atom [] _ c.tree-item.result c.requires.fit c.tree-item.is
