use Rattle.std.proofs.Common.{◌≡◌, true, subst}
use Rattle.fond_form.specs.Forms.{HasForm}
use Rattle.fond_form.proofs.form.is_line_of.Goals as goal

pub returns : goal.returns
returns c = subst (λ fields. (c.has_fields.result ≡ true → HasForm fields c.args.text.now) × (HasForm fields c.args.text.now → c.has_fields.result ≡ true)) c.form.ensures c.has_fields.ensures
