use Rattle.std.proofs.Common.{◌≡◌, ◌∙◌, sym, arith}
use Rattle.fond_task.specs.declared.form.Kleene.TheVariants.{No}
use Rattle.fond_task.specs.Layers.{CubeView}
use Rattle.fond_task.specs.Values.{value}
use Rattle.fond_layers.proofs.Tried.{read_at, all_front, all_more, all_of}
use Rattle.fond_layers.proofs.sure.goal_spot.Goals as goal

pub returns-in_default : goal.returns-in_default
returns-in_default c =
    let cubes = c.args.cubes.now in
    let i = c.loop-number.number in
    record {
      cube = c.index-cubes-number.result;
      has_cube = read_at cubes i c.index-cubes-number.result c.loop-number-test.true c.index-cubes-number.is;
      goal = λ no. c.in_default.not-No (c.value.ensures ∙ no);
      first = all_front cubes (λ cube. value cube c.args.t.now.goal ≡ No) i (omega (arith, c.loop-number-test.true)) c.loop-number.invariant;
    }

pub loop-number-preserved : goal.loop-number-preserved
loop-number-preserved c =
    let Out : CubeView → Type 0 = λ cube. value cube c.args.t.now.goal ≡ No in
    all_more c.args.cubes.now Out c.loop-number.number c.index-cubes-number.result c.loop-number-test.true c.index-cubes-number.is (sym c.value.ensures ∙ c.in-No.is) c.loop-number.invariant

pub returns : goal.returns
returns c = all_of c.args.cubes.now (λ cube. value cube c.args.t.now.goal ≡ No) c.loop-number.number (omega (arith, c.loop-number-test.false)) c.loop-number.invariant
