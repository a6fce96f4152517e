use Rattle.std.proofs.Common.{List, subst}
use Rattle.std.specs.Prelude.{IfSome}
use Rattle.fond_task.specs.declared.form.Form.{Form}
use Rattle.fond_explicit.proofs.Filed.{IsNeededByPart, needs_part}
use Rattle.fond_explicit.proofs.filing.needed.Goals as goal

pub returns-in-And : goal.returns-in-And
returns-in-And c =
    let P : List Form → Type 0 = λ parts. IfSome c.rarest.result (IsNeededByPart parts) in
    needs_part c.args.form.now c.in-And.parts c.in-And.is c.rarest.result (subst P c.deref.ensures.value c.rarest.ensures)
