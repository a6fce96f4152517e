use Rattle.fond_text.proofs.Outs.{adds_same}
use Rattle.fond_cert.proofs.Printed.{act_text_is}
use Rattle.fond_cert.proofs.put.put_act.Goals as goal

pub returns : goal.returns
returns g c =
    adds_same g.O.Out.adds (act_text_is c.args.task.now c.args.act c.get.result.now c.get.ensures) c.put_action.ensures
