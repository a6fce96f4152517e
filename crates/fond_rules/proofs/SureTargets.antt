-- Sure and lean pairs, by the cube that they lead into.
use Rattle.std.proofs.Common.{◌≡◌, List, Some, slice_get, sym, ap, ◌∙◌, subst}
use Rattle.std.proofs.lemmas.Option.{same_Some}
use Rattle.fond_state.specs.Cubes.{CubeLiesIn, without_literal}
use Rattle.fond_task.specs.declared.task.Task.{Task}
use Rattle.fond_task.specs.declared.rule.Pair.{Pair}
use Rattle.fond_task.specs.Layers.{CubeView, IsSurePair}
use Rattle.fond_task.specs.Rules.{IsLeanPair}
use Rattle.fond_rules.specs.Leans.{IsLean}
use Rattle.fond_rules.specs.Targets.{LeadsInto}

module _ (task : Task) (layers : List (List CubeView)) (layer : List CubeView) (dead : CubeView) where
  -- a pair is sure if it leads into the cube that it names
  pub sure_if_leads : (pair : Pair) → slice_get layers pair.layer ≡ Some layer → slice_get layer pair.cube ≡ Some dead → LeadsInto task dead pair → IsSurePair task layers pair
  sure_if_leads pair at there leads = record {
    layer = layer;
    has_layer = at;
    target = dead;
    has_target = there;
    act = leads.act;
    has_act = leads.has_act;
    outcome = leads.outcome;
    has_outcome = leads.has_outcome;
    leads = leads.leads;
  }

  pub leads_if_sure : (pair : Pair) → slice_get layers pair.layer ≡ Some layer → slice_get layer pair.cube ≡ Some dead → IsSurePair task layers pair → LeadsInto task dead pair
  leads_if_sure pair at there sure =
      let same : sure.layer ≡ layer = same_Some sure.layer layer (sym sure.has_layer ∙ at) in
      let one : sure.target ≡ dead = same_Some sure.target dead (sym sure.has_target ∙ ap (λ l. slice_get l pair.cube) same ∙ there) in
      record { act = sure.act; has_act = sure.has_act; outcome = sure.outcome; has_outcome = sure.has_outcome; leads = subst (CubeLiesIn _) one sure.leads }

  abbrev Leads : Pair → CubeView → Type 0
  Leads pair cond = LeadsInto task dead (record pair { cond = cond })

  -- a pair is lean if it leads into the cube that it names, and needs each literal for that
  pub lean_if_leads : (pair : Pair) → slice_get layers pair.layer ≡ Some layer → slice_get layer pair.cube ≡ Some dead → IsLean (Leads pair) pair.cond → IsLeanPair task layers pair
  lean_if_leads pair at there lean = record {
    sure = sure_if_leads pair at there lean.passes;
    needs = λ atom sign is sure. lean.needed atom sign is (leads_if_sure (record pair { cond = without_literal pair.cond atom }) at there sure);
  }

  pub leads_if_lean : (pair : Pair) → slice_get layers pair.layer ≡ Some layer → slice_get layer pair.cube ≡ Some dead → IsLeanPair task layers pair → IsLean (Leads pair) pair.cond
  leads_if_lean pair at there lean = record {
    passes = leads_if_sure pair at there lean.sure;
    needed = λ atom sign is leads. lean.needs atom sign is (sure_if_leads (record pair { cond = without_literal pair.cond atom }) at there leads);
  }
