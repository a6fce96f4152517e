-- Layers, pairs and rules that are sure or lean in one task are so in one that is the same.
use Rattle.std.proofs.Common.{inl, inr, ℕ, List, sym, ◌∙◌, subst}
use Rattle.std.specs.List.{AllZip}
use Rattle.fond_state.specs.Cubes.{CubeLiesIn, without_literal}
use Rattle.fond_task.specs.Images.{image}
use Rattle.fond_task.specs.declared.task.Act.{Act}
use Rattle.fond_task.specs.declared.task.Entry.{Entry}
use Rattle.fond_task.specs.declared.task.Task.{Task}
use Rattle.fond_task.specs.Layers.{AreSureLayers, CubeView, EachLeads, Forces, IsSureCube, IsSurePair, Leads, LiesInLayer, SomeLeads}
use Rattle.fond_task.specs.Rules.{AreMet, IsLeanPair, IsLeanRule, IsSureRule, Meets}
use Rattle.fond_task.specs.declared.rule.Pair.{Pair}
use Rattle.fond_task.specs.declared.rule.Rule.{Rule}
use Rattle.fond_task.specs.declared.rule.Target.{Target}
use Rattle.fond_task.specs.declared.rule.Target.TheVariants.{Goal, Rule as ToRule}
use Rattle.fond_task.specs.declared.rule.Targets.{Targets}
use Rattle.fond_task.specs.declared.rule.Targets.TheVariants.{One, All}
use Rattle.fond_ground.proofs.Zips.{zip-length}
use Rattle.fond_laws.specs.Alike.{IsSameAct, IsSameEntry, IsSameTask}
use Rattle.fond_laws.proofs.SameActs.{AreSameEntries, same_image, sym_task}
use Rattle.fond_laws.proofs.SameLists.{zip-at, zip-from, zip-had, zip-has}

-- the same outcome leads into the same layer
leads_same : (cube : CubeView) (outcome twin : List Entry) (layer : List CubeView) → AreSameEntries outcome twin → Leads cube outcome layer → Leads cube twin layer
leads_same cube outcome twin layer same leads = subst (λ (c : CubeView). LiesInLayer c layer) (same_image cube outcome twin same) leads

module _ (act twin : Act) (same : IsSameAct act twin) (cube : CubeView) where
  -- some outcome of the same action leads into the same layer
  some_leads : (layer : List CubeView) → SomeLeads cube act layer → SomeLeads cube twin layer
  some_leads layer some =
      let other = zip-has (AllZip IsSameEntry) act.outcomes twin.outcomes same.outcomes some.0 some.1 in
      (other.0, other.1, leads_same cube some.0 other.0 layer other.2 some.2)

  -- each outcome of the same action leads into the same layer
  each_leads : (layer : List CubeView) → EachLeads cube act layer → EachLeads cube twin layer
  each_leads layer each outcome has =
      let other = zip-had (AllZip IsSameEntry) act.outcomes twin.outcomes same.outcomes outcome has in
      leads_same cube other.0 outcome layer other.2 (each other.0 other.1)

  -- the same action leads into a layer again or into an earlier one
  same_forces : (earlier : List (List CubeView)) (layer : List CubeView) → Forces earlier layer cube act → Forces earlier layer cube twin
  same_forces earlier layer (inl before) = inl (before.0, before.1, some_leads before.0 before.2)
  same_forces earlier layer (inr (inl fair)) = inr (inl (sym same.unfair ∙ fair.0, each_leads layer fair.1))
  same_forces earlier layer (inr (inr unfair)) = inr (inr (sym same.unfair ∙ unfair.0, some_leads layer unfair.1))

module _ (game other : Task) (same : IsSameTask game other) where
  -- a cube of a layer is sure in the same task
  pub same_cube : (earlier : List (List CubeView)) (layer : List CubeView) (cube : CubeView) → IsSureCube game earlier layer cube → IsSureCube other earlier layer cube
  same_cube earlier layer cube sure = record {
    no_goal = sym (same.goal cube) ∙ sure.no_goal;
    forced = λ twin has open_.
        let its = zip-had IsSameAct game.acts other.acts same.acts twin has in
        same_forces its.0 twin its.2 cube earlier layer (sure.forced its.0 its.1 (λ no. open_ (sym (its.2.pre cube) ∙ no)));
  }

  -- layers are sure in the same task
  pub same_layers : (layers : List (List CubeView)) → AreSureLayers game layers → AreSureLayers other layers
  same_layers layers sure before layer after is cube has = same_cube before layer cube (sure before layer after is cube has)

  -- a pair is sure in the same task
  pub same_pair : (layers : List (List CubeView)) (pair : Pair) → IsSurePair game layers pair → IsSurePair other layers pair
  same_pair layers pair sure =
      let act = zip-at IsSameAct game.acts other.acts same.acts pair.act sure.act sure.has_act in
      let outcome = zip-at (AllZip IsSameEntry) sure.act.outcomes act.0.outcomes act.2.outcomes pair.outcome sure.outcome sure.has_outcome in
      record {
        layer = sure.layer;
        has_layer = sure.has_layer;
        target = sure.target;
        has_target = sure.has_target;
        act = act.0;
        has_act = act.1;
        outcome = outcome.0;
        has_outcome = outcome.1;
        leads = subst (λ (c : CubeView). CubeLiesIn c sure.target) (same_image pair.cond sure.outcome outcome.0 outcome.2) sure.leads;
      }

  -- a cube meets a target in the same task
  same_meets : (rules : List Rule) (cube : CubeView) (target : Target) → Meets game rules cube target → Meets other rules cube target
  same_meets rules cube Goal met = sym (same.goal cube) ∙ met
  same_meets rules cube (ToRule number) met = met

  -- the image under the same outcome meets a target in the same task
  same_image_meets : (rules : List Rule) (cube : CubeView) (outcome twin : List Entry) (target : Target) → AreSameEntries outcome twin → Meets game rules (image cube outcome) target → Meets other rules (image cube twin) target
  same_image_meets rules cube outcome twin target entries met =
      subst (λ (c : CubeView). Meets other rules c target) (same_image cube outcome twin entries) (same_meets rules (image cube outcome) target met)

  -- targets are met by the same action in the same task
  same_met : (rules : List Rule) (number : ℕ) (cube : CubeView) (act twin : Act) (targets : Targets) → IsSameAct act twin → AreMet game rules number cube act targets → AreMet other rules number cube twin targets
  same_met rules number cube act twin (One outcome target) acts met =
      let its = zip-at (AllZip IsSameEntry) act.outcomes twin.outcomes acts.outcomes outcome met.2.0 met.2.1 in
      (sym acts.unfair ∙ met.0, met.1, (its.0, its.1, same_image_meets rules cube met.2.0 its.0 target its.2 met.2.2))
  same_met rules number cube act twin (All targets) acts met = (
    sym acts.unfair ∙ met.0,
    met.1 ∙ zip-length (AllZip IsSameEntry) act.outcomes twin.outcomes acts.outcomes,
    λ at target entries is also.
        let its = zip-from (AllZip IsSameEntry) act.outcomes twin.outcomes acts.outcomes at entries also in
        let was = met.2 at target its.0 is its.1 in
        (was.0, same_image_meets rules cube its.0 entries target its.2 was.1),
  )

  -- a rule is sure in the same task
  pub same_rule : (pairs : List Pair) (rules : List Rule) (number : ℕ) (rule : Rule) → IsSureRule game pairs rules number rule → IsSureRule other pairs rules number rule
  same_rule pairs rules number rule sure =
      let act = zip-at IsSameAct game.acts other.acts same.acts rule.act sure.act sure.has_act in
      record {
        act = act.0;
        has_act = act.1;
        applicable = sym (act.2.pre rule.cond) ∙ sure.applicable;
        barred = sure.barred;
        met = same_met rules number rule.cond sure.act act.0 rule.targets act.2 sure.met;
      }

-- a pair is lean in the same task
pub same_lean_pair : (game other : Task) → IsSameTask game other → (layers : List (List CubeView)) (pair : Pair) → IsLeanPair game layers pair → IsLeanPair other layers pair
same_lean_pair game other same layers pair lean = record {
  sure = same_pair game other same layers pair lean.sure;
  needs = λ atom sign is sure. lean.needs atom sign is (same_pair other game (sym_task game other same) layers (record pair { cond = without_literal pair.cond atom }) sure);
}

-- a rule is lean in the same task
pub same_lean_rule : (game other : Task) → IsSameTask game other → (pairs : List Pair) (rules : List Rule) (number : ℕ) (rule : Rule) → IsLeanRule game pairs rules number rule → IsLeanRule other pairs rules number rule
same_lean_rule game other same pairs rules number rule lean = record {
  sure = same_rule game other same pairs rules number rule lean.sure;
  needs = λ atom sign is sure. lean.needs atom sign is (same_rule other game (sym_task game other same) pairs rules number (record rule { cond = without_literal rule.cond atom }) sure);
}
