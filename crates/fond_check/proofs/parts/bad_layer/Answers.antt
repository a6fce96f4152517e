use Rattle.std.proofs.Common.{◌∙◌, List, take, sym, subst, arith}
use Rattle.fond_task.specs.Layers.{CubeView, AreSureLayers}
use Rattle.fond_task.proofs.Stacked.{AreSureLayers-none, AreSureLayers-push}
use Rattle.fond_policy.proofs.Beginning.{take_next, take_all, element_at}
use Rattle.fond_check.proofs.parts.bad_layer.Goals as goal

pub loop-at-init : goal.loop-at-init
loop-at-init c = record { long = c.requires.long; sure = AreSureLayers-none c.args.t.now }

pub loop-at-preserved : goal.loop-at-preserved
loop-at-preserved c = record {
  long = c.fault.ensures.same_length ∙ c.loop-at.invariant.long;
  sure = (
      let layers = c.args.layers.now in
      let there = element_at layers c.loop-at.at (omega (arith, c.loop-at-test.true, c.len-at-end.ensures)) in
      subst (λ (ls : List (List CubeView)). AreSureLayers c.args.t.now ls) (sym (take_next layers c.loop-at.at there.0 there.1))
      (AreSureLayers-push c.args.t.now (take c.loop-at.at layers) there.0 c.loop-at.invariant.sure (rw c.in_default.is at c.fault.ensures.spot there.0 there.1)));
}

pub returns-in-Some-clause-first : goal.returns-in-Some-clause-first
returns-in-Some-clause-first c =
    let layers = c.args.layers.now in
    let there = element_at layers c.loop-at.at (omega (arith, c.loop-at-test.true, c.len-at-end.ensures)) in
    record {
      layer = there.0;
      has_layer = there.1;
      wrong = c.in-Some.ensures.spot there.0 there.1;
      first = c.loop-at.invariant.sure;
    }

pub returns-clause-first : goal.returns-clause-first
returns-clause-first c =
    subst (λ (ls : List (List CubeView)). AreSureLayers c.args.t.now ls) (take_all c.args.layers.now c.loop-at.at (omega (arith, c.loop-at-test.false, c.len-at-end.ensures))) c.loop-at.invariant.sure
