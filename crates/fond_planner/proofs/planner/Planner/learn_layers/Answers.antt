use Rattle.std.proofs.Common.{◌∙◌, sym}
use Rattle.fond_planner.proofs.Barred.{dead_lies}
use Rattle.fond_planner.proofs.Kept.{layers_over}
use Rattle.fond_planner.proofs.planner.Planner.learn_layers.Goals as goal

pub dead-requires : goal.dead-requires
dead-requires g c = layers_over c.in_ok-learn_proposed.ensures c.args.state.now c.requires.long

pub returns-clause-lies : goal.returns-clause-lies
returns-clause-lies g c = λ yes. dead_lies c.args.state.now c.learn_proposed.new.self.draft.layers c.dead.result c.dead.ensures (sym c.is_some.ensures ∙ yes)
