use Rattle.fond_reader.proofs.TypeNames.{kind_of_sort}
use Rattle.fond_reader.proofs.typed.kinds_of.Goals as goal

pub read_one_kind-requires : goal.read_one_kind-requires
read_one_kind-requires c = kind_of_sort c.args.sort _ c.args.kind c.in-Some.tree c.in-Names.is c.in-Some.is c.requires

pub read_kinds-requires : goal.read_kinds-requires
read_kinds-requires c = kind_of_sort c.args.sort _ c.args.kind c.in-Some.tree c.in-Variables.is c.in-Some.is c.requires
