use Rattle.std.proofs.Common.{◌∙◌, sym}
use Rattle.fond_planner.proofs.Barred.{dead_lies}
use Rattle.fond_planner.proofs.Kept.{layers_over}
use Rattle.fond_draft.proofs.Turned.{reached_long}
use Rattle.fond_planner.proofs.planner.Planner.find_by_search.Goals as goal

pub dead-requires : goal.dead-requires
dead-requires g c = layers_over c.in_ok-seek.ensures.keeps c.args.state.now (reached_long c.args.self.now.task.now c.args.state.now c.requires.reachable)

pub returns-then-is_some-clause-found : goal.returns-then-is_some-clause-found
returns-then-is_some-clause-found g c = dead_lies c.args.state.now c.seek.new.self.draft.layers c.dead.result c.dead.ensures (sym c.is_some.ensures ∙ c.if-is_some.true)
