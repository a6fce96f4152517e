-- A draft with one rule more, and rules for the choices of a plan.
use Rattle.std.proofs.Common.{◌≡◌, ℕ, ◌+◌, List, [], ◌∷◌, ◌++◌, Bool, Some, length, slice_get, sym, ap, ◌∙◌, subst, ⊎_elim, arith}
use Rattle.std.specs.Prelude.{Contains}
use Rattle.std.proofs.lemmas.Bool.{cases_lt}
use Rattle.std.proofs.lemmas.Option.{same_Some}
use Rattle.fond_state.specs.Cubes.{LiesIn, full_cube}
use Rattle.fond_task.specs.declared.task.Task.{Task}
use Rattle.fond_task.specs.Rules.{IsLeanRule}
use Rattle.fond_task.specs.declared.rule.Rule.{Rule}
use Rattle.fond_rules.specs.Targets.{AllContradict}
use Rattle.fond_explicit.specs.Answers.{ChoiceView}
use Rattle.fond_draft.specs.Drafts.{IsDraft, IsRuledIn}
use Rattle.fond_draft.specs.Places.{HavePlaced}
use Rattle.fond_draft.specs.Plans.{IsPlan}
use Rattle.fond_draft.specs.Targets.{HasRule}
use Rattle.fond_draft.specs.declared.draft.Draft.{Draft}
use Rattle.fond_draft.specs.declared.order.Place.{Place}
use Rattle.fond_draft.specs.declared.plan.Plan.{Plan}
use Rattle.fond_draft.proofs.Rules.{holds_last, holds_more}
use Rattle.fond_draft.proofs.Sure.{lean_pushed}
use Rattle.fond_draft.proofs.Unlost.{unbarred}

-- after a lean rule is added that holds in a state, a rule holds there
pub ruled_more : (task : Task) (draft after : Draft) (state : List Bool) (rule : Rule) → IsDraft task draft → length rule.cond ≡ length task.atoms → LiesIn state rule.cond
    → IsLeanRule task draft.pairs draft.rules (length draft.rules) rule → after ≡ record draft { rules = draft.rules ++ rule ∷ [] } → IsRuledIn task state draft after
ruled_more task draft after state rule is over lies lean made = subst (λ (a : Draft). IsRuledIn task state draft a) (sym made) (record {
  has = holds_last draft.rules rule state lies;
  kept = λ other has. holds_more draft.rules (rule ∷ []) other has;
  draft = record {
    over = is.over;
    sure = is.sure;
    pairs = is.pairs;
    fresh = is.fresh;
    more = is.more;
    rules = lean_pushed task draft.pairs draft.rules rule is.rules over lean;
  };
})

-- the full cube of the state of a choice of a plan contradicts each pair of its action
pub free_choice : (task : Task) (draft : Draft) (plan : Plan) → IsDraft task draft → IsPlan task plan → (choice : ChoiceView) → Contains plan.choices choice → AllContradict draft.pairs choice.act (full_cube choice.state)
free_choice task draft plan is is_plan choice one pair has act =
    let fits = is.pairs pair has in
    unbarred task draft.layers is.sure is_plan.from is_plan.long plan.choices is_plan.winning choice one pair fits.lean.sure fits.over act

module _ (choices : List ChoiceView) (places : List Place) (done : ℕ) (before after : List Rule) (placed : HavePlaced choices places done before) (kept : (state : List Bool) → HasRule before state → HasRule after state) where
  -- the choice at one more place has a rule in its state
  pub placed_more : (own : Place) (its : ChoiceView) → slice_get places done ≡ Some own → slice_get choices own.number ≡ Some its → HasRule after its.state → HavePlaced choices places (done + 1) after
  placed_more own its at numbered has number place choice small is its_number = ⊎_elim
      (λ lt. kept choice.state (placed number place choice lt is its_number))
      (λ ge.
      let same : number ≡ done = omega (arith, small, ge) in
      let same_place : place ≡ own = same_Some place own (sym is ∙ ap (slice_get places) same ∙ at) in
      let same_choice : its ≡ choice = same_Some its choice (sym numbered ∙ ap (λ (p : Place). slice_get choices p.number) (sym same_place) ∙ its_number) in
      subst (λ (x : ChoiceView). HasRule after x.state) same_choice has)
      (cases_lt number done)
