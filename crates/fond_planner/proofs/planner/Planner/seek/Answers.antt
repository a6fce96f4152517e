use Rattle.std.proofs.Common.{◌∙◌, sym, ap}
use Rattle.std.specs.Option.{is_some}
use Rattle.fond_draft.proofs.Rules.{has_selected}
use Rattle.fond_draft.proofs.Turned.{reached_long}
use Rattle.fond_planner.proofs.Kept.{rules_over}
use Rattle.fond_planner.proofs.planner.Planner.seek.Goals as goal

pub select-requires : goal.select-requires
select-requires g c = rules_over c.in_ok-seek_all.ensures c.args.state.now (reached_long c.args.self.now.task.now c.args.state.now c.requires.reachable)

pub returns-clause-ruled : goal.returns-clause-ruled
returns-clause-ruled g c = λ yes. has_selected c.seek_all.new.self.draft.rules c.args.state.now (ap is_some (sym c.select.ensures) ∙ sym c.is_some.ensures ∙ yes)
