use Rattle.std.proofs.Common.{subst}
use Rattle.std.specs.Prelude.{IfSome}
use Rattle.fond_task.specs.declared.form.Form.{Form}
use Rattle.fond_explicit.specs.Filings.{Needs}
use Rattle.fond_explicit.proofs.Filed.{filed_more}
use Rattle.fond_explicit.proofs.filing.file_act.Goals as goal

pub returns : goal.returns
returns c = λ before. filed_more c.args.t.now c.args.number c.args.index.now c.file.new.index c.get.result.now c.needed-atom.result c.get.ensures
    (subst (λ (form : Form). IfSome c.needed-atom.result (Needs form)) c.deref.ensures c.needed-atom.ensures) c.in_ok-file.ensures before
