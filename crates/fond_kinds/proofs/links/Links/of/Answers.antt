use Rattle.std.proofs.Common.{◌∙◌, sym}
use Rattle.fond_kinds.proofs.links.Links.of.Goals as goal

pub returns-clause-over : goal.returns-clause-over
returns-clause-over c = (
  sym c.in_ok-vec.field-0.ok.0 ∙ c.in_ok-vec.ensures.len,
  sym c.in_ok-vec-2.field-0.ok.0 ∙ c.in_ok-vec-2.ensures.len,
  sym c.in_ok-vec-3.field-0.ok.0 ∙ c.in_ok-vec-3.ensures.len,
  sym c.in_ok-vec-4.field-0.ok.0 ∙ c.in_ok-vec-4.ensures.len,
)
