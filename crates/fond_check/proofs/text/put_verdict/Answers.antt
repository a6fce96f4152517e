use Rattle.fond_check.proofs.text.put_verdict.Goals as goal

pub returns-in-LayerGoal : goal.returns-in-LayerGoal
returns-in-LayerGoal c = rw c.in-LayerGoal.is c.put_goal.ensures

pub returns-in-LayerAct : goal.returns-in-LayerAct
returns-in-LayerAct c = rw c.in-LayerAct.is c.put_act.ensures
