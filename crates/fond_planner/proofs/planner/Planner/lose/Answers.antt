use Rattle.std.proofs.Common.{◌≡◌, ◌∙◌, List, Bool, length, sym, subst}
use Rattle.fond_task.specs.declared.task.Task.{Task}
use Rattle.fond_explicit.specs.Answers.{AreStuck}
use Rattle.fond_planner.proofs.Barred.{dead_lies}
use Rattle.fond_planner.proofs.Kept.{layers_over}
use Rattle.fond_planner.proofs.planner.Planner.lose.Goals as goal

pub dead-requires : goal.dead-requires
dead-requires g c = layers_over c.in_ok-learn_lost.ensures c.args.state.now c.requires.long

pub returns-then-is_some-clause-lies : goal.returns-then-is_some-clause-lies
returns-then-is_some-clause-lies g c = dead_lies c.args.state.now c.learn_lost.new.self.draft.layers c.dead.result c.dead.ensures (sym c.is_some.ensures ∙ c.if-is_some.true)

pub learn-requires-clause-stuck : goal.learn-requires-clause-stuck
learn-requires-clause-stuck g c =
    subst (λ (task : Task). (from : List Bool) × (length from ≡ length task.atoms) × AreStuck task from c.args.layers) (sym c.in_ok-learn_lost.ensures.planner.same_task)
    (c.args.state.now, c.requires.long, c.requires.stuck)

pub returns-clause-lies : goal.returns-clause-lies
returns-clause-lies g c = c.in_ok-learn.ensures.has c.args.state.now c.requires.lies
