use Rattle.std.proofs.Common.{[], ◌∷◌}
use Rattle.fond_tree.specs.declared.role.Role.TheVariants as role
use Rattle.fond_reader.proofs.Operators.{first_of, second_of}
use Rattle.fond_reader.proofs.condition.read_two_terms.Goals as goal

pub read_term-requires : goal.read_term-requires
read_term-requires c = first_of role.Term (role.Term ∷ []) _ c.term-item.result c.requires.fit c.term-item.is

pub read_term-requires-in-len2 : goal.read_term-requires-in-len2
read_term-requires-in-len2 c = second_of role.Term role.Term [] _ c.other-item.result c.requires.fit c.other-item.is
