use Rattle.fond_form.proofs.Clear.{form_by_first, no_form_by_first}
use Rattle.fond_form.proofs.form.+has_fields.Goals as goal

pub returns-in-Some-cut_field : goal.returns-in-Some-cut_field
returns-in-Some-cut_field t c =
    form_by_first c.args.fields.now c.in-Some.field.now c.in-Some.more.now c.args.rest c.in-Some-cut_field.field-0-0 c.in-Some-cut_field.next c.has_fields.result c.in-Some.ensures.cases.0 c.requires c.in-Some-cut_field.ensures c.has_fields.ensures

pub returns-in-None : goal.returns-in-None
returns-in-None t c = no_form_by_first c.args.fields.now c.in-Some.field.now c.in-Some.more.now c.args.rest c.in-Some.ensures.cases.0 c.requires c.in-None.ensures
