use Rattle.std.proofs.Common.{ap, ◌∙◌}
use Rattle.std.specs.Option.{is_some}
use Rattle.fond_kinds.proofs.Types.{known}
use Rattle.fond_kinds.proofs.table.TypeTable.number.Goals as goal

pub returns-clause-known : goal.returns-clause-known
returns-clause-known c = ap is_some (c.find.ensures ∙ c.args.self.now.numbered c.args.name.now) ∙ known c.args.self.now.types.now c.args.name.now
