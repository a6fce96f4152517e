use Rattle.fond_task.proofs.Images.{image_by_puts}
use Rattle.fond_task.proofs.image.image_of.Goals as goal

pub returns-clause-image : goal.returns-clause-image
returns-clause-image c =
    image_by_puts c.args.cube.now c.copy_from.new.self c.put_all.new.out c.put_all-2.new.out c.args.entries.now c.copy_from.ensures c.put_all.ensures.same_length c.put_all-2.ensures.same_length
    c.put_all.ensures.put c.put_all-2.ensures.put
