use Rattle.fond_form.proofs.EachKind.{none_by_first}
use Rattle.fond_form.proofs.form.+kind_among.Goals as goal

pub returns-else-is_line_of : goal.returns-else-is_line_of
returns-else-is_line_of t c =
    none_by_first c.args.text.now c.args.kinds.now c.in_ok-kind.kind.now c.in_ok-kind.more.now c.is_line_of.result c.kind_among.result c.in_ok-kind.ensures.cases.0 c.is_line_of.ensures c.if-is_line_of.false c.kind_among.ensures
