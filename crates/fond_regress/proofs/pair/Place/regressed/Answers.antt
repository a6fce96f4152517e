use Rattle.std.proofs.Common.{◌<◌, ◌∙◌, List, length, slice_get, sym, ap, subst, arith}
use Rattle.std.proofs.lemmas.Grind.{common_steps}
use Rattle.fond_state.specs.Cubes.{CubeLiesIn}
use Rattle.fond_task.specs.declared.task.Entry.{Entry}
use Rattle.fond_task.proofs.Found.{outcome_within}
use Rattle.fond_task.specs.Layers.{CubeView}
use Rattle.fond_regress.proofs.Cubes.{lies_in_empty}
use Rattle.fond_regress.proofs.pair.Place.regressed.Goals as goal

pub regress-requires-clause-within : goal.regress-requires-clause-within
regress-requires-clause-within c =
    let task = c.args.self.now.task.now in
    rw (c.requires.long) (outcome_within _ task.acts c.args.act c.get.result.now c.args.outcome c.get-2.result.now task.acts_within c.get.ensures (ap (λ (all : List (List Entry)). slice_get all c.args.outcome) (sym c.deref.ensures) ∙ c.get-2.ensures))

pub returns-clause-lies : goal.returns-clause-lies
returns-clause-lies c =
    let full = c.args.full.now in
    let Lies : CubeView → Type 0 = λ cube. CubeLiesIn full cube in
    c.regress.ensures.1 (subst Lies (sym c.in_ok-out.ensures) (lies_in_empty full _))

pub get-requires-2 : goal.get-requires-2
get-requires-2 c = subst (λ (all : List (List Entry)). c.args.outcome < length all) (sym c.deref.ensures) (c.requires.outcome_there c.get.result.now c.get.ensures)

pub regress-requires-clause-long : goal.regress-requires-clause-long
regress-requires-clause-long c = grind (arith, common_steps)

pub returns-clause-long : goal.returns-clause-long
returns-clause-long c = grind (arith, common_steps)
