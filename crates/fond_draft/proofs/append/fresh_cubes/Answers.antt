use Rattle.std.proofs.Common.{◌∙◌, ◌+◌, List, [], ◌∷◌, ◌++◌, take, refl, sym, ap, subst}
use Rattle.std.proofs.lemmas.Bool.{false≢true}
use Rattle.fond_policy.proofs.Beginning.{take_next}
use Rattle.fond_task.specs.Layers.{CubeView}
use Rattle.fond_draft.specs.Appends.{AreFresh}
use Rattle.fond_draft.proofs.Appended.{fresh_more, fresh_same}
use Rattle.fond_draft.proofs.append.fresh_cubes.Goals as goal

pub loop-at-preserved-then-has_around : goal.loop-at-preserved-then-has_around
loop-at-preserved-then-has_around c =
    let layers = c.args.layers.now in
    let layer = c.args.layer.now in
    let at = c.loop-at.at in
    let cube = c.get-cube.result.now in
    let fresh = c.loop-at.fresh in
    subst (λ (l : List CubeView). AreFresh layers l fresh) (sym (take_next layer at cube c.get-cube.ensures))
    (fresh_same layers (take at layer) fresh cube c.loop-at.invariant (c.if-has_around.ensures.0 refl))

pub loop-at-preserved : goal.loop-at-preserved
loop-at-preserved c =
    let layers = c.args.layers.now in
    let layer = c.args.layer.now in
    let at = c.loop-at.at in
    let cube = c.get-cube.result.now in
    let fresh = c.loop-at.fresh in
    subst (λ (f : List CubeView). AreFresh layers (take (at + 1) layer) f) (sym (c.in_ok-push.ensures.ok ∙ ap (λ (x : CubeView). fresh ++ x ∷ []) c.in_ok-copy.ensures))
    (subst (λ (l : List CubeView). AreFresh layers l (fresh ++ cube ∷ [])) (sym (take_next layer at cube c.get-cube.ensures))
    (fresh_more layers (take at layer) fresh cube c.loop-at.invariant (λ some. false≢true (c.if-has_around.ensures.1 some))))
