use Rattle.fond_kinds.proofs.Types.{subtype_below, below_subtype}
use Rattle.fond_kinds.proofs.table.TypeTable.is_subtype.Goals as goal

pub returns-else-other-eq0 : goal.returns-else-other-eq0
returns-else-other-eq0 c name above one two = (
  (λ on. below_subtype c.args.self.now.types.now c.args.self.now.ancestry c.args.self.now.ascends name above c.args.number c.args.other one two (c.is_below.ensures.0 on)),
  λ sub. c.is_below.ensures.1 (subtype_below c.args.self.now.types.now c.args.self.now.ancestry c.args.self.now.ascends name above c.args.number c.args.other one two c.if-other-eq0.false sub),
)
