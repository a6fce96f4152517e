use Rattle.std.proofs.Common.{subst}
use Rattle.std.specs.Prelude.{IfOk, IfErr}
use Rattle.fond_text.specs.Faults.{Refuses}
use Rattle.fond_ast.specs.declared.task.LiftedTask.{LiftedTask}
use Rattle.fond_ground.specs.Faults.{IsGroundFault}
use Rattle.fond_ground.specs.Parts.{ArePartsOf}
use Rattle.fond_ground.proofs.ground.parts_of.Goals as goal

pub returns-clause-parts : goal.returns-clause-parts
returns-clause-parts c = subst (λ (t : LiftedTask). IfOk c.parts_by.result (ArePartsOf t)) c.in_ok-table.ensures c.parts_by.ensures.parts

pub returns-clause-refused : goal.returns-clause-refused
returns-clause-refused c = subst (λ (t : LiftedTask). IfErr c.parts_by.result (Refuses (IsGroundFault t))) c.in_ok-table.ensures c.parts_by.ensures.refused
