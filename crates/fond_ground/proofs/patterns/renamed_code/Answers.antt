use Rattle.std.proofs.Common.{◌<◌, length, arith}
use Rattle.std.proofs.lemmas.Option.{slice_get-get_or}
use Rattle.fond_ground.proofs.Filed.{renamed_next}
use Rattle.fond_ground.proofs.patterns.renamed_code.Goals as goal

pub loop-i-preserved : goal.loop-i-preserved
loop-i-preserved c =
    let low : c.loop-i.i < length c.args.objects.now = omega (arith, c.loop-i-test.true, c.requires) in
    renamed_next c.args.pattern.now c.args.objects.now c.loop-i.i _ _ c.with_object.result c.loop-i.numbers.items c.put_term.new.numbers.items _
    (slice_get-get_or c.args.pattern.now c.loop-i.i _ c.loop-i-test.true) (slice_get-get_or c.args.objects.now c.loop-i.i _ low) c.with_object.ensures c.in_ok-put_term.ensures c.loop-i.invariant
