use Rattle.std.proofs.Common.{map, ap, ◌∙◌}
use Rattle.std.specs.FinSet as set
use Rattle.fond_ast.specs.Solutions.{initial}
use Rattle.fond_ground.proofs.Actions.{handed_on}
use Rattle.fond_ground.proofs.ground.parts_by.Goals as goal

pub returns-in_err-acts-clause-refused : goal.returns-in_err-acts-clause-refused
returns-in_err-acts-clause-refused c = handed_on _ _ _ c.from_residual.ensures.1 c.in_err-acts.ensures.refused

pub returns-clause-parts : goal.returns-clause-parts
returns-clause-parts c = record {
  acts = c.in_ok-acts.ensures.acts;
  init = c.in_ok-init.ensures ∙ ap (map (set.contains (initial c.args.table.now.facts.task.now))) c.requires.all;
  goal = c.in_ok-goal.ensures.value;
  goal_within = c.in_ok-goal.ensures.within;
}
