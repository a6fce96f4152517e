use Rattle.std.proofs.Common.{◌∷◌, ◌++◌, [], List, map, take, sym, ap, ◌∙◌}
use Rattle.fond_state.specs.Cubes.{full_cube}
use Rattle.fond_task.specs.Layers.{CubeView}
use Rattle.fond_weak.proofs.Lists.{map_more}
use Rattle.fond_weak.proofs.breadth.full_cubes.Goals as goal

pub loop-number-preserved : goal.loop-number-preserved
loop-number-preserved c =
    let states = c.args.states.now in
    c.in_ok-push.ensures.ok
    ∙ ap (λ (layer : List CubeView). layer ++ c.in_ok-full.field-0 ∷ []) c.loop-number.invariant
    ∙ ap (λ (cube : CubeView). map full_cube (take c.loop-number.number states) ++ cube ∷ []) c.in_ok-full.ensures
    ∙ sym (map_more full_cube states c.loop-number.number c.get.result.now c.get.ensures)
