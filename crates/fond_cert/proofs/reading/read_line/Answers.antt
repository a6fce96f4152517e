use Rattle.std.proofs.Common.{subst, sym, OnOk}
use Rattle.fond_form.specs.Forms.{HasForm}
use Rattle.fond_cert.specs.Checked.{AreFilled}
use Rattle.fond_cert.specs.Filled.{no_values}
use Rattle.fond_cert.proofs.reading.read_line.Goals as goal

pub read_fields-requires-clause-form : goal.read_fields-requires-clause-form
read_fields-requires-clause-form c = subst (λ fields. HasForm fields c.args.line.now) (sym c.form.ensures) c.requires.form

pub returns-clause-read : goal.returns-clause-read
returns-clause-read c =
    subst (λ fields. OnOk c.read_fields.result (AreFilled c.args.index.now 0 fields c.args.line.now no_values c.read_fields.new.values)) c.form.ensures
    (subst (λ values. OnOk c.read_fields.result (AreFilled c.args.index.now 0 c.form.result.now c.args.line.now values c.read_fields.new.values)) c.requires.empty c.read_fields.ensures.read)
