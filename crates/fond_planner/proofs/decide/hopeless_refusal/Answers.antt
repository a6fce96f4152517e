use Rattle.std.proofs.Common.{◌≡◌, ◌∙◌, List, [], ◌∷◌, ◌++◌, sym, ap, subst}
use Rattle.fond_task.specs.Layers.{CubeView}
use Rattle.fond_policy.specs.declared.cert.Cert.TheVariants.{Refusal}
use Rattle.fond_planner.specs.Decisions.{IsGoodCert}
use Rattle.fond_planner.proofs.Right.{right_hopeless}
use Rattle.fond_planner.proofs.decide.hopeless_refusal.Goals as goal

pub returns : goal.returns
returns c =
    let layer : c.push.new.self ≡ c.args.cube ∷ [] = c.in_ok-push.ensures.ok ∙ ap (λ cubes. cubes ++ c.args.cube ∷ []) c.new-layer.ensures in
    let layers : c.add_raw.new.self ≡ (c.args.cube ∷ []) ∷ []
    = c.in_ok-add_raw.ensures.ok ∙ ap (λ all. all ++ c.push.new.self ∷ []) c.new-layers.ensures ∙ ap (λ l. l ∷ []) layer in
    subst (λ (all : List (List CubeView)). IsGoodCert c.args.t.now (Refusal all)) (sym layers) (right_hopeless c.args.t.now c.args.cube c.requires)
