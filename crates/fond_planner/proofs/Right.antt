-- The certificates of what is found out are correct and lean.
use Rattle.std.proofs.Common.{◌≡◌, ℕ, ◌<◌, ◌^◌, List, [], ◌∷◌, Some, length, slice_get, arith}
use Rattle.std.specs.Prelude.{All as Each}
use Rattle.std.proofs.lemmas.Option.{slice_get_within}
use Rattle.fond_task.specs.declared.task.Act.{Act}
use Rattle.fond_task.specs.declared.task.Task.{Task}
use Rattle.fond_task.proofs.Lists.{Contains-here, Contains_numbered}
use Rattle.fond_task.specs.Certificates.{LiesInLayers}
use Rattle.fond_task.specs.Layers.{CubeView}
use Rattle.fond_task.specs.Rules.{AreMet, IsEarlier}
use Rattle.fond_task.specs.declared.rule.Pair.{Pair}
use Rattle.fond_task.specs.declared.rule.Rule.{Rule}
use Rattle.fond_task.specs.declared.rule.Target.{Target}
use Rattle.fond_task.specs.declared.rule.Target.TheVariants.{Goal, Rule as ToRule}
use Rattle.fond_task.specs.declared.rule.Targets.{Targets}
use Rattle.fond_task.specs.declared.rule.Targets.TheVariants.{One, All}
use Rattle.fond_layers.specs.Over.{IsOver}
use Rattle.fond_rules.specs.Belongs.{HasTarget}
use Rattle.fond_policy.specs.Belongs.{BelongAsRules}
use Rattle.fond_policy.specs.Sizes.{AreSmallTargets, IsSmallPair, IsSmallTarget}
use Rattle.fond_policy.specs.declared.cert.Cert.TheVariants.{Refusal, Covered}
use Rattle.fond_policy.specs.declared.item.Item.{Item}
use Rattle.fond_covering.specs.Coverings.{IsCovering}
use Rattle.fond_policy.proofs.Walking.{few_outcomes}
use Rattle.fond_policy.specs.Parts.{AreSureRules}
use Rattle.fond_regress.specs.Stable.{IsHopelessBy}
use Rattle.fond_regress.proofs.Hopeless.{stable_sure}
use Rattle.fond_planner.specs.Decisions.{IsGoodCert}
use Rattle.fond_draft.specs.Drafts.{IsDraft, IsFitting}
use Rattle.fond_draft.specs.declared.draft.Draft.{Draft}
use Rattle.fond_draft.proofs.Lists.{all_numbered, element_at, only_one}
use Rattle.fond_draft.proofs.Sure.{has_outcome}

-- an action has an outcome, so targets that are met are at least one
has_target : (task : Task) (rules : List Rule) (number : ℕ) (cond : CubeView) (act : Act) (act_number : ℕ) (targets : Targets) → slice_get task.acts act_number ≡ Some act → AreMet task rules number cond act targets → HasTarget targets
has_target task rules number cond act act_number (One outcome target) at met = tt
has_target task rules number cond act act_number (All targets) at met = let some = has_outcome task act_number act at in omega (arith, some, met.1)

-- the numbers of the targets of a sure rule are small
module _ (task : Task) (rules : List Rule) (few : length rules < 2 ^ 32) where
  small_target : (number : ℕ) (target : Target) → number < length rules → IsEarlier number target → IsSmallTarget target
  small_target number Goal within earlier = tt
  small_target number (ToRule other) within earlier = omega (arith, within, earlier, few)

  pub small_targets : (number : ℕ) (cond : CubeView) (act : Act) (act_number : ℕ) (targets : Targets) → slice_get task.acts act_number ≡ Some act → number < length rules → AreMet task rules number cond act targets → AreSmallTargets targets
  small_targets number cond act act_number (One outcome target) at within met =
      let outcomes = few_outcomes task act_number act at in
      let there : outcome < length act.outcomes = slice_get_within act.outcomes outcome met.2.0 met.2.1 in
      (omega (arith, outcomes, there), small_target number target within met.1)
  small_targets number cond act act_number (All targets) at within met = all_numbered IsSmallTarget targets (λ i target is.
      let there : i < length targets = slice_get_within targets i target is in
      let entries = element_at act.outcomes i (omega (arith, there, met.1)) in
      small_target number target within (met.2 i target entries.0 is entries.1).0)

module _ (task : Task) (draft : Draft) (is_draft : IsDraft task draft) where
  -- the pair of this number fits the layers
  fitting_at : (number : ℕ) (pair : Pair) → slice_get draft.pairs number ≡ Some pair → IsFitting task draft.layers pair
  fitting_at number pair at = is_draft.pairs pair (Contains_numbered draft.pairs number pair at)

  -- the rules of a draft are sure
  pub rules_sure : AreSureRules task draft.pairs draft.rules
  rules_sure number rule at = (is_draft.rules.lean number rule at).sure

  -- the rules of a draft belong to the task, if they are not too many
  pub belong_as_rules : length draft.rules < 2 ^ 32 → BelongAsRules task draft.rules
  belong_as_rules few_rules = record {
    few = few_rules;
    belong = is_draft.rules.belong;
    targeted = all_numbered (λ (rule : Rule). HasTarget rule.targets) draft.rules (λ number rule at.
        let sure = rules_sure number rule at in has_target task draft.rules number rule.cond sure.act rule.act rule.targets sure.has_act sure.met);
  }

  -- the certificate of a draft with items that cover what its rules reach is correct and lean
  pub right_cover : (items : List Item) (start : ℕ) → length draft.layers < 2 ^ 32 → Each (λ layer. length layer < 2 ^ 32) draft.layers → length draft.rules < 2 ^ 32
      → IsCovering task draft.rules items start → IsGoodCert task (Covered draft.layers draft.pairs draft.rules items start)
  right_cover items start few few_cubes few_rules covering = record {
    belongs = (
      record { few = few; few_cubes = few_cubes; over = is_draft.over },
      record {
        over = all_numbered (λ (pair : Pair). length pair.cond ≡ length task.atoms) draft.pairs (λ number pair at. (fitting_at number pair at).over);
        there = all_numbered (λ (pair : Pair). pair.act < length task.acts) draft.pairs (λ number pair at. let sure = (fitting_at number pair at).lean.sure in slice_get_within task.acts pair.act sure.act sure.has_act);
      },
      belong_as_rules few_rules,
      covering.belong,
    );
    small = (
      all_numbered IsSmallPair draft.pairs (λ number pair at. (fitting_at number pair at).small),
      all_numbered (λ (rule : Rule). AreSmallTargets rule.targets) draft.rules (λ number rule at.
          let sure = rules_sure number rule at in small_targets task draft.rules few_rules number rule.cond sure.act rule.act rule.targets sure.has_act (slice_get_within draft.rules number rule at) sure.met),
      covering.small,
      covering.small_start,
    );
    right = record {
      sure = record {
        layers_sure = is_draft.sure;
        pairs_sure = λ pair has. (is_draft.pairs pair has).lean.sure;
        rules_sure = rules_sure;
      };
      items_sure = λ number item at. (covering.lean number item at).sure;
      starts = covering.starts;
    };
    lean = record {
      lean = record {
        pairs_lean = λ pair has. (is_draft.pairs pair has).lean;
        rules_lean = is_draft.rules.lean;
      };
      items_lean = covering.lean;
    };
  }

  -- the certificate of a draft is a correct refusal if the initial state lies in one of its layers
  pub right_refusal : length draft.layers < 2 ^ 32 → Each (λ layer. length layer < 2 ^ 32) draft.layers → LiesInLayers task.init draft.layers → IsGoodCert task (Refusal draft.layers)
  right_refusal few few_cubes lies = record {
    belongs = record { few = few; few_cubes = few_cubes; over = is_draft.over };
    small = tt;
    right = record { layers_sure = is_draft.sure; start = lies };
    lean = tt;
  }

-- the certificate of the cube by which the initial state is hopeless is correct
pub right_hopeless : (task : Task) (cube : CubeView) → IsHopelessBy task task.init cube → IsGoodCert task (Refusal ((cube ∷ []) ∷ []))
right_hopeless task cube hopeless = record {
  belongs = record {
    few = omega arith;
    few_cubes = only_one (λ (layer : List CubeView). length layer < 2 ^ 32) (cube ∷ []) (omega arith);
    over = only_one (IsOver (length task.atoms)) (cube ∷ []) (only_one (λ (one : CubeView). length one ≡ length task.atoms) cube hopeless.over);
  };
  small = tt;
  right = record {
    layers_sure = stable_sure task cube hopeless.stable hopeless.no_goal;
    start = record { layer = cube ∷ []; one = Contains-here (cube ∷ []) []; cube = cube; has = Contains-here cube []; lies = hopeless.lies };
  };
  lean = tt;
}
