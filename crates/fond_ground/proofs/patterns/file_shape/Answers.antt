use Rattle.std.proofs.Common.{◌∙◌, ap}
use Rattle.fond_ground.specs.Patterns.{code, shape}
use Rattle.fond_ground.proofs.Filed.{kept_new, seen_new, shaped_new}
use Rattle.fond_ground.proofs.patterns.file_shape.Goals as goal

pub returns-in_ok-push-clause-seen : goal.returns-in_ok-push-clause-seen
returns-in_ok-push-clause-seen c =
    seen_new c.args.all.now c.args.i c.args.seen.now c.insert.new.self c.args.shapes.now c.push.new.self c.get.result.now c.in_ok-shape.shape.items c.get.ensures
    (c.in_ok-shape.ensures ∙ ap (λ pattern. code (shape pattern)) c.as_slice.ensures) c.in_ok-insert.ensures.ok c.in_ok-push.ensures.ok c.requires.seen

pub returns-in_ok-push-clause-shaped : goal.returns-in_ok-push-clause-shaped
returns-in_ok-push-clause-shaped c = shaped_new c.args.all.now c.args.i c.args.shapes.now c.push.new.self c.in_ok-push.ensures.ok

pub returns-in_ok-push-clause-kept : goal.returns-in_ok-push-clause-kept
returns-in_ok-push-clause-kept c = kept_new c.args.all.now c.args.i c.args.shapes.now c.push.new.self c.requires.inside c.in_ok-push.ensures.ok
