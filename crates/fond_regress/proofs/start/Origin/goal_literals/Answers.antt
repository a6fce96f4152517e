use Rattle.std.proofs.Common.{ℕ, ◌∙◌, sym, subst, arith}
use Rattle.std.specs.Prelude.{IsTrue}
use Rattle.std.proofs.lemmas.Grind.{common_steps}
use Rattle.fond_task.specs.Within.{is_form_within}
use Rattle.fond_state.specs.Cubes.{CubeLiesIn}
use Rattle.fond_task.specs.Layers.{CubeView}
use Rattle.fond_regress.proofs.Cubes.{lies_in_empty}
use Rattle.fond_regress.proofs.start.Origin.goal_literals.Goals as goal

pub returns : goal.returns
returns c =
    let image = c.image_of.new.out in
    let Lies : CubeView → Type 0 = λ cube. CubeLiesIn image cube in
    let taken : CubeLiesIn image c.explain.new.out = c.explain.ensures.1 (subst Lies (sym c.in_ok-wanted.ensures) (lies_in_empty image _)) in
    subst (λ source. CubeLiesIn source c.explain.new.out) c.image_of.ensures.image taken

pub image_of-requires-clause-long : goal.image_of-requires-clause-long
image_of-requires-clause-long c = grind (arith, common_steps)

pub explain-requires-clause-within : goal.explain-requires-clause-within
explain-requires-clause-within c =
    let task = c.args.self.now.task.now in
    let Within : ℕ → Type 0 = λ atoms. IsTrue (is_form_within atoms task.goal) in
    subst Within (sym (c.image_of.ensures.same_length ∙ c.args.self.now.long)) task.goal_within

pub explain-requires-clause-long : goal.explain-requires-clause-long
explain-requires-clause-long c = grind (arith, common_steps)
