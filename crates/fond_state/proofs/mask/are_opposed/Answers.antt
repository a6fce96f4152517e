use Rattle.std.proofs.lemmas.Bool.Decides.{Decides-ltb}
use Rattle.fond_state.proofs.Words.{opposed_from, opposed_to}
use Rattle.fond_state.proofs.mask.are_opposed.Goals as goal

pub returns : goal.returns
returns c =
    let told = Decides-ltb 0 _ in (
      λ is. opposed_from (record { care = c.args.care; sign = c.args.sign }) c.args.other (c.ranges.care.fits) (told.0 is),
      λ opposed. told.1 (opposed_to (record { care = c.args.care; sign = c.args.sign }) c.args.other opposed),
    )
