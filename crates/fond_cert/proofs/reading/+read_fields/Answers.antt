use Rattle.std.proofs.Common.{arith}
use Rattle.fond_cert.proofs.Fields.{clear_rest, is_there, form_rest, error_here, ok_filled, err_refused}
use Rattle.fond_cert.proofs.Refusals.{handed_on}
use Rattle.fond_cert.proofs.reading.+read_fields.Goals as goal

pub unreachable-requires : goal.unreachable-requires
unreachable-requires t c = is_there c.args.index.now c.args.fields.now c.in-Some.field.now c.in-Some.more.now c.in-Some.ensures.cases.0 c.requires.clear c.args.rest c.requires.form c.in_default-cut_field.ensures

pub returns-in_err-read_value-clause-wrong : goal.returns-in_err-read_value-clause-wrong
returns-in_err-read_value-clause-wrong t c =
    handed_on _ _ _ c.from_residual.ensures.1
    (error_here c.args.index.now c.args.fields.now c.in-Some.field.now c.in-Some.more.now c.in-Some.ensures.cases.0 c.requires.clear c.args.rest c.requires.form c.in-Some-cut_field.part c.in-Some-cut_field.next c.in-Some-cut_field.ensures _ c.in_err-read_value.ensures.wrong)

pub read_fields-requires : goal.read_fields-requires
read_fields-requires t c =
    let e = c.in-Some.ensures.cases in (
      omega (arith, e.1),
      (
        clear_rest c.args.index.now c.args.fields.now c.in-Some.field.now c.in-Some.more.now e.0 c.requires.clear c.args.rest c.requires.form,
        form_rest c.args.index.now c.args.fields.now c.in-Some.field.now c.in-Some.more.now e.0 c.requires.clear c.args.rest c.requires.form c.in-Some-cut_field.part c.in-Some-cut_field.next c.in-Some-cut_field.ensures,
      ),
    )

pub returns-clause-read : goal.returns-clause-read
returns-clause-read t c =
    ok_filled c.args.index.now c.args.fields.now c.in-Some.field.now c.in-Some.more.now c.in-Some.ensures.cases.0 c.requires.clear c.args.rest c.requires.form c.in-Some-cut_field.part c.in-Some-cut_field.next c.in-Some-cut_field.ensures
    _ _ _ _ c.in_ok-read_value.ensures.read c.read_fields.ensures.read

pub returns-clause-wrong : goal.returns-clause-wrong
returns-clause-wrong t c =
    err_refused c.args.index.now c.args.fields.now c.in-Some.field.now c.in-Some.more.now c.in-Some.ensures.cases.0 c.requires.clear c.args.rest c.requires.form c.in-Some-cut_field.part c.in-Some-cut_field.next c.in-Some-cut_field.ensures
    _ _ _ c.in_ok-read_value.ensures.read c.read_fields.ensures.wrong
