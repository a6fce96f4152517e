-- The ground tasks of a task are the same, and what a certificate is in a ground task, it is in the same one.
use Rattle.std.proofs.Common.{◌≡◌, ◌<◌, ℕ, List, Bool, All, length, sym, ap, ◌∙◌, subst}
use Rattle.std.specs.Bool.{Decides}
use Rattle.std.proofs.lemmas.Bool.Decides.{same_from_decides}
use Rattle.std.specs.List.{AllZip}
use Rattle.std.proofs.lemmas.Option.{same_Some}
use Rattle.fond_text.specs.declared.atom.GroundAction.{GroundAction}
use Rattle.fond_ast.specs.declared.task.LSchema.{LSchema}
use Rattle.fond_ast.specs.declared.task.LiftedTask.{LiftedTask}
use Rattle.fond_ast.specs.Outcomes.{Literal, outcomes}
use Rattle.fond_join.specs.Values.{condition_value}
use Rattle.fond_ground.specs.Grounds.{AreOutcomesOf, IsActOf, IsEntryOf, IsGroundOf, kept_actions}
use Rattle.fond_ground.specs.Values.{atom_value}
use Rattle.fond_task.specs.declared.task.Act.{Act}
use Rattle.fond_task.specs.declared.task.Entry.{Entry}
use Rattle.fond_task.specs.declared.task.Task.{Task}
use Rattle.fond_task.specs.Certificates.{LiesInLayers}
use Rattle.fond_task.specs.Layers.{CubeView}
use Rattle.fond_task.specs.Policies.{selected}
use Rattle.fond_task.specs.declared.rule.Pair.{Pair}
use Rattle.fond_task.specs.declared.rule.Rule.{Rule}
use Rattle.fond_layers.specs.Over.{AreOver}
use Rattle.fond_rules.specs.Belongs.{ArePairsOver}
use Rattle.fond_rules.specs.Select.{AreOver as AreRulesOver}
use Rattle.fond_policy.specs.Belongs.{BelongAsItems, BelongAsLayers, BelongAsPairs, BelongAsRules, Belongs}
use Rattle.fond_policy.specs.declared.cert.Cert.{Cert}
use Rattle.fond_policy.specs.declared.cert.Cert.TheVariants.{Policy, Refusal, Covered}
use Rattle.fond_policy.specs.Parts.{AreAllLean, AreLean, ArePartsSure, IsRight}
use Rattle.fond_policy.specs.declared.item.Item.{Item}
use Rattle.fond_policy.specs.Covers.{IsIn}
use Rattle.fond_policy.specs.Items.{AreItemsOver, firsts_of}
use Rattle.fond_ast.specs.Patterns.{IsUnfairWith}
use Rattle.fond_regress.specs.Stable.{IsHopeless}
use Rattle.fond_ground.proofs.Zips.{zip-length}
use Rattle.fond_laws.specs.Alike.{AreAlike, IsSameAct, IsSameEntry, IsSameTask}
use Rattle.fond_laws.proofs.SameActs.{sym_task}
use Rattle.fond_laws.proofs.SameItems.{same_hopeless, same_lean_item, same_way}
use Rattle.fond_laws.proofs.SameLists.{zip-both}
use Rattle.fond_laws.proofs.SameParts.{same_layers, same_lean_pair, same_lean_rule, same_pair, same_rule}
use Rattle.fond_laws.proofs.SameStates.{same_count, same_reach, same_reached_goal}
use Rattle.fond_laws.proofs.SameTexts.{same_spelling}

module _ (task : LiftedTask) where
  -- the entries of a literal are the same
  entries_same : (literal : Literal) (entry twin : Entry) → IsEntryOf task literal entry → IsEntryOf task literal twin → IsSameEntry entry twin
  entries_same literal entry twin one two = record {
    atom = same_Some entry.atom twin.atom (sym one.numbered ∙ two.numbered);
    add = one.signed ∙ sym two.signed;
    cond = λ cube. one.valued cube ∙ sym (two.valued cube);
  }

  -- the outcomes of a list of literals are the same
  outcomes_same : (literals : List Literal) (outcome twin : List Entry) → AllZip (IsEntryOf task) literals outcome → AllZip (IsEntryOf task) literals twin → AllZip IsSameEntry outcome twin
  outcomes_same literals outcome twin one two = zip-both (IsEntryOf task) (IsEntryOf task) IsSameEntry entries_same literals outcome twin one two

  -- the actions of a ground action are the same
  acts_same : (action : GroundAction) (act twin : Act) → IsActOf task action act → IsActOf task action twin → IsSameAct act twin
  acts_same action act twin one two =
      let schema : two.schema ≡ one.schema = same_Some two.schema one.schema (sym two.numbered ∙ one.numbered) in
      record {
        named = one.named ∙ sym two.named;
        unfair = same_from_decides act.unfair twin.unfair one.unfair (subst (λ (s : LSchema). Decides twin.unfair (IsUnfairWith s action.objects)) schema two.unfair);
        pre = λ cube. one.pre cube ∙ ap (λ (s : LSchema). condition_value (atom_value task cube) action.objects s.pre) (sym schema) ∙ sym (two.pre cube);
        outcomes = zip-both (AllZip (IsEntryOf task)) (AllZip (IsEntryOf task)) (AllZip IsSameEntry) outcomes_same (outcomes action.objects one.schema.effect) act.outcomes twin.outcomes
            one.outcomes
            (subst (λ (s : LSchema). AreOutcomesOf task (outcomes action.objects s.effect) twin.outcomes) schema two.outcomes);
      }

-- the ground tasks of a task are the same but for the forms of their conditions
pub same_ground : (task : LiftedTask) (game other : Task) → IsGroundOf task game → IsGroundOf task other → IsSameTask game other
same_ground task game other one two = record {
  atoms = one.atoms ∙ sym two.atoms;
  acts = zip-both (IsActOf task) (IsActOf task) IsSameAct (acts_same task) (kept_actions task) game.acts other.acts one.acts two.acts;
  init = one.init ∙ sym two.init;
  goal = λ cube. one.goal cube ∙ sym (two.goal cube);
  labels = one.labels ∙ sym two.labels;
}

module _ (game other : Task) (same : IsSameTask game other) where
  -- layers belong to the same task
  pub same_as_layers : (layers : List (List CubeView)) → BelongAsLayers game layers → BelongAsLayers other layers
  same_as_layers layers belong = record {
    few = belong.few;
    few_cubes = belong.few_cubes;
    over = subst (λ (n : ℕ). AreOver n layers) (ap length same.atoms) belong.over;
  }

  -- pairs belong to the same task
  same_as_pairs : (pairs : List Pair) → BelongAsPairs game pairs → BelongAsPairs other pairs
  same_as_pairs pairs belong = record {
    over = subst (λ (n : ℕ). ArePairsOver n pairs) (ap length same.atoms) belong.over;
    there = subst (λ (n : ℕ). All (λ pair. pair.act < n) pairs) (zip-length IsSameAct game.acts other.acts same.acts) belong.there;
  }

  -- rules belong to the same task
  pub same_as_rules : (rules : List Rule) → BelongAsRules game rules → BelongAsRules other rules
  same_as_rules rules belong = record {
    few = belong.few;
    belong = record {
      over = subst (λ (n : ℕ). AreRulesOver n rules) (ap length same.atoms) belong.belong.over;
      there = subst (λ (n : ℕ). All (λ rule. rule.act < n) rules) (zip-length IsSameAct game.acts other.acts same.acts) belong.belong.there;
    };
    targeted = belong.targeted;
  }

  -- items belong to the same task
  pub same_as_items : (items : List Item) → BelongAsItems game items → BelongAsItems other items
  same_as_items items belong = record {
    few = belong.few;
    over = subst (λ (n : ℕ). AreItemsOver n items) (ap length same.atoms) belong.over;
    numbered = belong.numbered;
  }

  -- a certificate belongs to the same task
  same_belongs : (cert : Cert) → Belongs game cert → Belongs other cert
  same_belongs (Policy layers pairs rules reach) belongs = (same_as_layers layers belongs.0, same_as_pairs pairs belongs.1, same_as_rules rules belongs.2)
  same_belongs (Refusal layers) belongs = same_as_layers layers belongs
  same_belongs (Covered layers pairs rules items start) belongs = (same_as_layers layers belongs.0, same_as_pairs pairs belongs.1, same_as_rules rules belongs.2, same_as_items items belongs.3)

  -- layers, pairs and rules are sure in the same task
  same_parts : (layers : List (List CubeView)) (pairs : List Pair) (rules : List Rule) → ArePartsSure game layers pairs rules → ArePartsSure other layers pairs rules
  same_parts layers pairs rules sure = record {
    layers_sure = same_layers game other same layers sure.layers_sure;
    pairs_sure = λ pair has. same_pair game other same layers pair (sure.pairs_sure pair has);
    rules_sure = λ number rule at. same_rule game other same pairs rules number rule (sure.rules_sure number rule at);
  }

  -- a certificate is correct in the same task
  same_right : (cert : Cert) → IsRight game cert → IsRight other cert
  same_right (Policy layers pairs rules reach) right =
      let sure = same_parts layers pairs rules (record { layers_sure = right.layers_sure; pairs_sure = right.pairs_sure; rules_sure = right.rules_sure }) in
      record {
        layers_sure = sure.layers_sure;
        pairs_sure = sure.pairs_sure;
        rules_sure = sure.rules_sure;
        ruled = λ state reached open_.
            let was = same_reach other game (sym_task game other same) (selected rules) state reached in
            right.ruled state was (λ goal. open_ (same_reached_goal game other same (selected rules) state was goal));
        counted = same_count game other same (selected rules) reach right.counted;
      }
  same_right (Refusal layers) right = record {
    layers_sure = same_layers game other same layers right.layers_sure;
    start = subst (λ (state : List Bool). LiesInLayers state layers) same.init right.start;
  }
  same_right (Covered layers pairs rules items start) right = record {
    sure = same_parts layers pairs rules right.sure;
    items_sure = λ number item at. same_way game other same (firsts_of rules) items item.cube item.way (right.items_sure number item at);
    starts = subst (λ (state : List Bool). IsIn items start state) same.init right.starts;
  }

  -- pairs and rules are lean in the same task
  same_lean : (layers : List (List CubeView)) (pairs : List Pair) (rules : List Rule) → AreLean game layers pairs rules → AreLean other layers pairs rules
  same_lean layers pairs rules lean = record {
    pairs_lean = λ pair has. same_lean_pair game other same layers pair (lean.pairs_lean pair has);
    rules_lean = λ number rule at. same_lean_rule game other same pairs rules number rule (lean.rules_lean number rule at);
  }

  -- pairs, rules and items are lean in the same task
  same_items_lean : (layers : List (List CubeView)) (pairs : List Pair) (rules : List Rule) (items : List Item) → AreAllLean game layers pairs rules items → AreAllLean other layers pairs rules items
  same_items_lean layers pairs rules items lean = record {
    lean = same_lean layers pairs rules lean.lean;
    items_lean = λ number item at. same_lean_item game other same (firsts_of rules) items number item (lean.items_lean number item at);
  }

-- what a certificate is in a ground task, it is in one that is the same but for forms
pub alike : (game other : Task) → IsSameTask game other → AreAlike game other
alike game other same = record {
  spelled = same_spelling game other same;
  belongs = same_belongs game other same;
  right = same_right game other same;
  lean = same_lean game other same;
  items_lean = same_items_lean game other same;
  hopeless = λ hopeless. subst (IsHopeless other) same.init (same_hopeless game other same game.init hopeless);
}
