-- Items that are sure or lean in one task are so in one that is the same, and states that are hopeless in one are so in the other.
use Rattle.std.proofs.Common.{ℕ, List, Bool, length, sym, ap, ◌∙◌, subst}
use Rattle.std.specs.List.{AllZip}
use Rattle.fond_state.specs.Cubes.{CubeLiesIn, without_literal}
use Rattle.fond_task.specs.declared.task.Act.{Act}
use Rattle.fond_task.specs.declared.task.Task.{Task}
use Rattle.fond_task.specs.Layers.{CubeView}
use Rattle.fond_regress.specs.Stable.{DoesStay, IsHopeless}
use Rattle.fond_policy.specs.declared.item.Item.{Item}
use Rattle.fond_policy.specs.declared.item.Way.{Way}
use Rattle.fond_policy.specs.declared.item.Way.TheVariants.{Goal, Rule as ByRule}
use Rattle.fond_policy.specs.Items.{First, IsLeanItem, IsSureWay, LeadInto, LiesInItem, dropped}
use Rattle.fond_ground.proofs.Zips.{zip-length}
use Rattle.fond_laws.specs.Alike.{IsSameAct, IsSameEntry, IsSameTask}
use Rattle.fond_laws.proofs.SameActs.{same_image, sym_task}
use Rattle.fond_laws.proofs.SameLists.{zip-at, zip-from}

module _ (act twin : Act) (same : IsSameAct act twin) (cube : CubeView) where
  -- the outcomes of the same action lead into the same items
  lead_same : (items : List Item) (numbers : List ℕ) → LeadInto items act cube numbers → LeadInto items twin cube numbers
  lead_same items numbers leads = record {
    counted = leads.counted ∙ zip-length (AllZip IsSameEntry) act.outcomes twin.outcomes same.outcomes;
    each = λ at number entries is also.
        let its = zip-from (AllZip IsSameEntry) act.outcomes twin.outcomes same.outcomes at entries also in
        subst (λ (c : CubeView). LiesInItem items c number) (same_image cube its.0 entries its.2) (leads.each at number its.0 is its.1);
  }

  -- if an action does not leave a cube, the same action does not
  same_stay : DoesStay cube act → DoesStay cube twin
  same_stay stay open_ at outcome is =
      let its = zip-from (AllZip IsSameEntry) act.outcomes twin.outcomes same.outcomes at outcome is in
      subst (λ (c : CubeView). CubeLiesIn c cube) (same_image cube its.0 outcome its.2) (stay (λ no. open_ (sym (same.pre cube) ∙ no)) at its.0 its.1)

module _ (game other : Task) (same : IsSameTask game other) where
  -- a way is sure in the same task
  pub same_way : (firsts : List First) (items : List Item) (cube : CubeView) (way : Way) → IsSureWay game firsts items cube way → IsSureWay other firsts items cube way
  same_way firsts items cube Goal sure = sym (same.goal cube) ∙ sure
  same_way firsts items cube (ByRule rule numbers) sure =
      let act = zip-at IsSameAct game.acts other.acts same.acts sure.on.first.act sure.act sure.has_act in
      record { on = sure.on; act = act.0; has_act = act.1; leads = lead_same sure.act act.0 act.2 cube items numbers sure.leads }

  -- a state is hopeless in the same task
  pub same_hopeless : (state : List Bool) → IsHopeless game state → IsHopeless other state
  same_hopeless state (cube, hopeless) = (
    cube,
    record {
      over = hopeless.over ∙ ap length same.atoms;
      stable = λ number twin at.
          let its = zip-from IsSameAct game.acts other.acts same.acts number twin at in
          same_stay its.0 twin its.2 cube (hopeless.stable number its.0 its.1);
      lies = hopeless.lies;
      no_goal = sym (same.goal cube) ∙ hopeless.no_goal;
    },
  )

-- an item is lean in the same task
pub same_lean_item : (game other : Task) → IsSameTask game other → (firsts : List First) (items : List Item) (number : ℕ) (item : Item) → IsLeanItem game firsts items number item → IsLeanItem other firsts items number item
same_lean_item game other same firsts items number item lean = record {
  sure = same_way game other same firsts items item.cube item.way lean.sure;
  needs = λ atom sign is sure. lean.needs atom sign is (same_way other game (sym_task game other same) firsts (dropped items number item atom) (without_literal item.cube atom) item.way sure);
}
