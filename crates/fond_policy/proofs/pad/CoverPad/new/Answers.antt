use Rattle.std.proofs.Common.{◌∙◌, None, length, ap}
use Rattle.std.proofs.lemmas.List.{length-replicate}
use Rattle.fond_policy.proofs.pad.CoverPad.new.Goals as goal

pub returns : goal.returns
returns c = ap length c.in_ok-image.ensures ∙ length-replicate c.args.atoms None
