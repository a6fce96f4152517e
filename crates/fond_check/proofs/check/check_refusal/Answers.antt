use Rattle.std.proofs.Common.{◌∙◌, ap, not, refl}
use Rattle.fond_check.proofs.Layered.{dead_none, dead_some, refused_layer}
use Rattle.fond_check.proofs.check.check_refusal.Goals as goal

pub returns-in-Some : goal.returns-in-Some
returns-in-Some c = refused_layer c.args.t.now c.args.layers.now c.in-Some.layer c.in-Some.spot _ c.layer_verdict.ensures (rw c.in-Some.is at c.in_ok-layer.ensures)

pub returns-then-is_none : goal.returns-then-is_none
returns-then-is_none c =
    (rw c.in_default.is at c.in_ok-layer.ensures, dead_none c.args.t.now.init c.args.layers.now c.dead.result c.dead.ensures (c.is_none.ensures ∙ ap not c.if-is_none.true))

pub returns : goal.returns
returns c = (
  record {
    layers_sure = rw c.in_default.is at c.in_ok-layer.ensures;
    start = dead_some c.args.t.now.init c.args.layers.now c.dead.result c.dead.ensures (c.is_none.ensures ∙ ap not c.if-is_none.false);
  },
  refl,
)
