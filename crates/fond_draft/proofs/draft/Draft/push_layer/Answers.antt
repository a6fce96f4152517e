use Rattle.std.proofs.Common.{◌≡◌, ◌∙◌, ℕ, [], ◌∷◌, ◌++◌, List, Some, length, slice_get, refl, sym, ap, subst}
use Rattle.std.proofs.lemmas.Bool.{false≢true}
use Rattle.std.proofs.lemmas.List.Elements.{All-push}
use Rattle.fond_task.specs.Layers.{CubeView}
use Rattle.fond_layers.specs.Over.{AreOver, IsOver}
use Rattle.fond_draft.specs.Drafts.{IsDraft}
use Rattle.fond_draft.proofs.Fitting.{fitting_kept}
use Rattle.fond_draft.proofs.Lists.{push_keeps}
use Rattle.fond_draft.proofs.draft.Draft.push_layer.Goals as goal

pub returns-in-Ok-clause-draft : goal.returns-in-Ok-clause-draft
returns-in-Ok-clause-draft c =
    let task = c.args.t.now in
    let draft = c.args.self.now in
    let old = draft.layers in
    let new = c.push.new.self in
    let layer = c.args.layer in
    let made : new ≡ old ++ layer ∷ [] = c.in-Ok.ensures.ok.0 in
    let kept : (number : ℕ) (its : List CubeView) → slice_get old number ≡ Some its → slice_get new number ≡ Some its
    = λ number its at. ap (λ (layers : List (List CubeView)). slice_get layers number) made ∙ push_keeps old (layer ∷ []) number its at in
    record {
      over = subst (AreOver (length task.atoms)) (sym made) (All-push (IsOver (length task.atoms)) old layer c.requires.draft.over c.requires.over);
      sure = c.in-Ok.ensures.sure c.requires.draft.sure;
      pairs = fitting_kept task old new kept draft.pairs c.requires.draft.pairs;
      fresh = fitting_kept task old new kept draft.fresh.items c.requires.draft.fresh;
      more = c.requires.draft.more;
      rules = c.requires.draft.rules;
    }

pub returns-in-Ok-clause-decides : goal.returns-in-Ok-clause-decides
returns-in-Ok-clause-decides c = (λ yes. c.in-Ok.ensures.ok.1, λ sure. refl)

pub returns-clause-draft : goal.returns-clause-draft
returns-clause-draft c = subst (λ (layers : List (List CubeView)). IsDraft c.args.t.now (record c.args.self.now { layers = layers })) (sym c.in-Err.ensures.err) c.requires.draft

pub returns-clause-kept : goal.returns-clause-kept
returns-clause-kept c = λ yes. absurd (false≢true yes)

pub returns-clause-decides : goal.returns-clause-decides
returns-clause-decides c = (λ yes. absurd (false≢true yes), λ sure. absurd (c.in_ok-not_sure-in-Err.ensures c.args.t.now c.args.self.now.layers c.args.layer c.in-Err.ensures.fault sure))
