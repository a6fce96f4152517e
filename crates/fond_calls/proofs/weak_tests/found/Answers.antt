use Rattle.std.proofs.Common.{List, sym, subst}
use Rattle.fond_task.specs.Layers.{AreSureLayers, CubeView}
use Rattle.fond_task.proofs.Stacked.{AreSureLayers-none}
use Rattle.fond_calls.proofs.weak_tests.found.Goals as goal

pub weak_plan-requires-clause-layers_sure : goal.weak_plan-requires-clause-layers_sure
weak_plan-requires-clause-layers_sure c = subst (λ (layers : List (List CubeView)). AreSureLayers c.args.game.now layers) (sym c.new-layers.ensures) (AreSureLayers-none c.args.game.now)
