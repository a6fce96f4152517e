use Rattle.std.proofs.Common.{◌∙◌, ap, sym, Some}
use Rattle.std.proofs.lemmas.Option.{slice_get-get_or}
use Rattle.fond_ground.proofs.Filed.{no_leader, variable_decides}
use Rattle.fond_ground.proofs.patterns.follows.Goals as goal

pub returns-in-Some : goal.returns-in-Some
returns-in-Some c =
    variable_decides c.args.pattern.now c.args.objects.now c.args.i c.in-Variable.number c.in-Some.first c.requires.counted
    (slice_get-get_or c.args.pattern.now c.args.i _ c.requires.inside ∙ ap Some c.in-Variable.is) (sym c.leader.ensures ∙ c.in-Some.is)

pub returns-in-None : goal.returns-in-None
returns-in-None c =
    absurd (no_leader c.args.pattern.now c.args.i c.in-Variable.number (slice_get-get_or c.args.pattern.now c.args.i _ c.requires.inside ∙ ap Some c.in-Variable.is) (sym c.leader.ensures ∙ c.in-None.is))
