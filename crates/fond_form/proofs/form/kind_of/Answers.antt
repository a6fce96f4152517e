use Rattle.fond_form.proofs.EachKind.{kind_or_no_line}
use Rattle.fond_form.proofs.form.kind_of.Goals as goal

pub returns : goal.returns
returns c = kind_or_no_line c.args.text.now _ c.kinds.ensures _ c.kind_among.ensures
