use Rattle.std.proofs.Common.{subst}
use Rattle.fond_explicit.specs.Answers.{IsRight}
use Rattle.fond_draft.proofs.Turned.{reached_long}
use Rattle.fond_planner.proofs.Walked.{past_through}
use Rattle.fond_planner.proofs.planner.Planner.find_by_states.Goals as goal

pub solve_by-requires-clause-long : goal.solve_by-requires-clause-long
solve_by-requires-clause-long g c = reached_long c.args.self.now.task.now c.args.state.now c.requires.reachable

pub win-requires-clause-long : goal.win-requires-clause-long
win-requires-clause-long g c = reached_long c.args.self.now.task.now c.args.state.now c.requires.reachable

pub lose-requires-clause-long : goal.lose-requires-clause-long
lose-requires-clause-long g c = reached_long c.args.self.now.task.now c.args.state.now c.requires.reachable

pub lose-requires-clause-stuck : goal.lose-requires-clause-stuck
lose-requires-clause-stuck g c = (subst (IsRight c.args.self.now.task.now c.args.state.now c.args.budget) c.in-Lost.is c.in_ok-choices.ensures).0

pub lose-requires-clause-lies : goal.lose-requires-clause-lies
lose-requires-clause-lies g c = (subst (IsRight c.args.self.now.task.now c.args.state.now c.args.budget) c.in-Lost.is c.in_ok-choices.ensures).1

pub returns-clause-past : goal.returns-clause-past
returns-clause-past g c = λ none.
    past_through c.args.self.now.task.now c.args.state.now c.args.budget c.requires.reachable
    (subst (IsRight c.args.self.now.task.now c.args.state.now c.args.budget) c.in-Spent.is c.in_ok-choices.ensures)
