use Rattle.std.proofs.Common.{◌∙◌, ap}
use Rattle.fond_ground.specs.Patterns.{code}
use Rattle.fond_ground.proofs.Filed.{filed_next}
use Rattle.fond_ground.proofs.patterns.Patterns.file_all.Goals as goal

pub loop-i-preserved : goal.loop-i-preserved
loop-i-preserved c = record {
  same = c.loop-i.invariant.same;
  filed =
      filed_next c.loop-i.self.all.now c.loop-i.i c.loop-i.self.codes c.insert.new.self c.loop-i.self.shapes c.file_shape.new.shapes c.in_ok-code_of.field-0.items c.get.result.now c.get.ensures
      (c.in_ok-code_of.ensures ∙ ap code c.as_slice.ensures) c.in_ok-insert.ensures.ok c.in_ok-file_shape.ensures.kept c.in_ok-file_shape.ensures.shaped c.loop-i.invariant.filed;
  seen = c.in_ok-file_shape.ensures.seen;
}
