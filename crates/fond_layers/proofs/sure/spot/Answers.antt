use Rattle.std.proofs.Common.{◌≡◌, ◌∙◌, ℕ, List, Some, ap, sym, subst, arith, take}
use Rattle.std.specs.Prelude.{slice_get, Contains}
use Rattle.fond_task.specs.Layers.{CubeView, IsSureCube}
use Rattle.fond_layers.specs.Faults.{cube_number}
use Rattle.fond_layers.proofs.Tried.{read_at, all_front, all_more, all_of}
use Rattle.fond_layers.proofs.sure.spot.Goals as goal

pub returns-in-Some-clause-spot : goal.returns-in-Some-clause-spot
returns-in-Some-clause-spot c =
    let task = c.args.t.now in
    let earlier = c.args.earlier.now in
    let layer = c.args.layer.now in
    let list = c.args.cubes.now in
    let items = c.as_slice-cube-items.result.now in
    let i = c.loop-number.number in
    let spot = c.in-Some.spot in
    let numbered : i ≡ cube_number spot = sym c.in-Some.ensures.numbered in
    let At : ℕ → Type 0 = λ n. slice_get list n ≡ Some c.cube-item.result in
    let Front : ℕ → Type 0 = λ n. (other : CubeView) → Contains (take n list) other → IsSureCube task earlier layer other in
    let Among : List CubeView → Type 0 = λ cubes. (other : CubeView) → Contains (take i cubes) other → IsSureCube task earlier layer other in
    record {
      cube = c.cube-item.result;
      has_cube = subst At numbered (ap (λ cubes. slice_get cubes i) (sym c.as_slice-cube-items.ensures) ∙ read_at items i c.cube-item.result c.loop-number-test.true c.cube-item.is);
      wrong = c.in-Some.ensures.wrong;
      first = subst Front numbered (subst Among c.as_slice-cube-items.ensures (all_front items (IsSureCube task earlier layer) i (omega (arith, c.loop-number-test.true)) c.loop-number.invariant.sure));
    }

pub loop-number-preserved : goal.loop-number-preserved
loop-number-preserved c = record {
  long = c.wrong.ensures.same_length ∙ c.loop-number.invariant.long;
  sure = all_more c.as_slice-cube-items.result.now (IsSureCube c.args.t.now c.args.earlier.now c.args.layer.now) c.loop-number.number c.cube-item.result c.loop-number-test.true c.cube-item.is
      c.in_default.ensures.wrong c.loop-number.invariant.sure;
}

pub returns-clause-spot : goal.returns-clause-spot
returns-clause-spot c = λ cube has.
    let P : List CubeView → Type 0 = λ cubes. Contains cubes cube in
    all_of c.as_slice-cube-items.result.now (IsSureCube c.args.t.now c.args.earlier.now c.args.layer.now) c.loop-number.number (omega (arith, c.loop-number-test.false)) c.loop-number.invariant.sure
    cube (subst P (sym c.as_slice-cube-items.ensures) has)
