use Rattle.fond_form.proofs.Literals.{literals_more, literals_less, literals_decided}
use Rattle.fond_form.proofs.scan.are_literals.Goals as goal

pub loop-further-preserved : goal.loop-further-preserved
loop-further-preserved c =
    let e = c.in-Some.ensures in (
      λ h. c.loop-further.invariant.0 (literals_more _ _ _ _ e.0 e.1 h),
      λ h. literals_less _ _ _ _ e.0 e.1 (c.loop-further.invariant.1 h),
    )

pub returns : goal.returns
returns c = literals_decided _ _ _ c.is_empty.ensures c.in_default.ensures c.loop-further.invariant.0 c.loop-further.invariant.1
