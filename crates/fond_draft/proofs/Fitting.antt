-- Pairs that fit layers, and layers that are appended.
use Rattle.std.proofs.Common.{◌≡◌, ℕ, List, [], ◌∷◌, ◌++◌, Some, length, slice_get, sym, ◌∙◌, subst, ⊎_elim, arith}
use Rattle.std.proofs.lemmas.Option.{slice_get_within}
use Rattle.std.proofs.lemmas.List.Elements.{Contains-push_cases}
use Rattle.fond_state.specs.Cubes.{without_literal}
use Rattle.fond_task.specs.declared.task.Task.{Task}
use Rattle.fond_task.proofs.Lists.{Contains_numbered}
use Rattle.fond_task.specs.Layers.{CubeView, IsSurePair}
use Rattle.fond_task.specs.declared.rule.Pair.{Pair}
use Rattle.fond_rules.specs.Belongs.{ArePairsOver}
use Rattle.fond_draft.specs.Drafts.{AreFitting, IsFitting}
use Rattle.fond_draft.proofs.Lists.{all_numbered}

-- pairs that fit layers are over the atoms of the task
pub fitting_over : (task : Task) (layers : List (List CubeView)) (pairs : List Pair) → AreFitting task layers pairs → ArePairsOver (length task.atoms) pairs
fitting_over task layers pairs fit = all_numbered (λ (pair : Pair). length pair.cond ≡ length task.atoms) pairs (λ number pair at. (fit pair (Contains_numbered pairs number pair at)).over)

-- with a pair that fits, pairs still fit
pub fitting_more : (task : Task) (layers : List (List CubeView)) (pairs : List Pair) (pair : Pair) → AreFitting task layers pairs → IsFitting task layers pair → AreFitting task layers (pairs ++ pair ∷ [])
fitting_more task layers pairs pair fit one other has = ⊎_elim
    (λ was. fit other was)
    (λ (same : pair ≡ other). subst (λ (p : Pair). IsFitting task layers p) same one)
    (Contains-push_cases pairs pair other has)

module _ (task : Task) (old new : List (List CubeView)) (kept : (number : ℕ) (layer : List CubeView) → slice_get old number ≡ Some layer → slice_get new number ≡ Some layer) where
  sure_kept : (pair : Pair) → IsSurePair task old pair → IsSurePair task new pair
  sure_kept pair sure = record {
    layer = sure.layer;
    has_layer = kept pair.layer sure.layer sure.has_layer;
    target = sure.target;
    has_target = sure.has_target;
    act = sure.act;
    has_act = sure.has_act;
    outcome = sure.outcome;
    has_outcome = sure.has_outcome;
    leads = sure.leads;
  }

  -- a pair of a layer that was there was sure, if it is
  sure_was : (pair : Pair) (layer : List CubeView) → slice_get old pair.layer ≡ Some layer → IsSurePair task new pair → IsSurePair task old pair
  sure_was pair layer at sure = record {
    layer = sure.layer;
    has_layer = at ∙ sym (kept pair.layer layer at) ∙ sure.has_layer;
    target = sure.target;
    has_target = sure.has_target;
    act = sure.act;
    has_act = sure.has_act;
    outcome = sure.outcome;
    has_outcome = sure.has_outcome;
    leads = sure.leads;
  }

  -- pairs that fit layers fit them with further ones behind them
  pub fitting_kept : (pairs : List Pair) → AreFitting task old pairs → AreFitting task new pairs
  fitting_kept pairs fit pair has =
      let one = fit pair has in
      record {
        over = one.over;
        lean = record {
          sure = sure_kept pair one.lean.sure;
          needs = λ atom sign is less. one.lean.needs atom sign is (sure_was (record pair { cond = without_literal pair.cond atom }) one.lean.sure.layer one.lean.sure.has_layer less);
        };
        small = one.small;
      }

-- pairs that fit no layers fit any
pub fitting_none : (task : Task) (old new : List (List CubeView)) → length old ≡ 0 → (pairs : List Pair) → AreFitting task old pairs → AreFitting task new pairs
fitting_none task old new none pairs fit pair has =
    let sure = (fit pair has).lean.sure in
    let within = slice_get_within old pair.layer sure.layer sure.has_layer in
    absurd (omega (arith, within, none))
