use Rattle.std.proofs.Common.{sym, subst}
use Rattle.fond_reader.specs.Sorts.{FitsTyped}
use Rattle.fond_reader.specs.declared.typed.Sort.TheVariants.{Names}
use Rattle.fond_reader.proofs.FileFacts.{names_along}
use Rattle.fond_reader.proofs.domain.read_names.Goals as goal

pub read_typed-requires : goal.read_typed-requires
read_typed-requires c = subst (FitsTyped Names) (sym c.contents_of.ensures) c.requires.types

pub read_typed-requires-2 : goal.read_typed-requires-2
read_typed-requires-2 c = subst (FitsTyped Names) (sym c.contents_of-2.ensures) c.requires.constants

pub returns-clause-types : goal.returns-clause-types
returns-clause-types c = names_along c.in_ok-kinds.kinds _ _ c.contents_of.ensures c.in_ok-kinds.ensures

pub returns-clause-constants : goal.returns-clause-constants
returns-clause-constants c = names_along c.in_ok-constants.constants _ _ c.contents_of-2.ensures c.in_ok-constants.ensures
