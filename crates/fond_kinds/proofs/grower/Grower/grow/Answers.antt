use Rattle.std.proofs.Common.{sym, ap, ◌∙◌}
use Rattle.fond_kinds.specs.Forests.{is_marked}
use Rattle.fond_kinds.proofs.Unwind.{end_there, end_waits}
use Rattle.fond_kinds.proofs.grower.Grower.grow.Goals as goal

pub finish-requires-clause-there : goal.finish-requires-clause-there
finish-requires-clause-there c = end_there c.walk.new.self c.walk.new.path.items c.in_ok-last.last c.in_ok-last.ensures.walked

pub finish-requires-clause-waits : goal.finish-requires-clause-waits
finish-requires-clause-waits c = end_waits c.walk.new.self c.walk.new.path.items c.in_ok-last.last c.in_ok-last.ensures.walked

pub returns-then-is_marked_at-clause-added : goal.returns-then-is_marked_at-clause-added
returns-then-is_marked_at-clause-added c =
    c.requires.resting.added c.args.start (sym (c.if-is_marked_at.ensures ∙ ap (λ marks. is_marked marks c.args.start) c.deref.ensures.value))

pub returns-clause-kept : goal.returns-clause-kept
returns-clause-kept c = c.unwind.ensures.kept ∙ c.finish.ensures.kept ∙ c.in_ok-last.ensures.kept

pub returns-clause-added : goal.returns-clause-added
returns-clause-added c =
    let met = c.unwind.ensures.met c.args.start (c.finish.ensures.met c.args.start c.in_ok-last.ensures.start) in
    c.unwind.ensures.resting.added c.args.start met

pub returns-clause-grown : goal.returns-clause-grown
returns-clause-grown c number early =
    c.unwind.ensures.grown number (c.finish.ensures.grown number (ap (λ done. is_marked done number) c.in_ok-last.ensures.done ∙ early))
