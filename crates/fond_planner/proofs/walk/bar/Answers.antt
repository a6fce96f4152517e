use Rattle.std.proofs.Common.{◌≡◌, ◌∙◌, ◌++◌, ℕ, List, [], ◌∷◌, sym, ap, subst}
use Rattle.std.specs.Prelude.{Contains}
use Rattle.std.proofs.lemmas.Bool.{false≢true}
use Rattle.std.proofs.lemmas.List.{append_assoc}
use Rattle.std.proofs.lemmas.List.Elements.{Contains-append_right}
use Rattle.fond_task.proofs.Lists.{Contains-here}
use Rattle.fond_task.specs.declared.rule.Pair.{Pair}
use Rattle.fond_regress.specs.Barred.{IsBarred}
use Rattle.fond_draft.specs.Barring.{EachBarsMore}
use Rattle.fond_draft.specs.Drafts.{AreFitting}
use Rattle.fond_draft.proofs.Barring.{barred_cases, more_pushed}
use Rattle.fond_draft.proofs.Fitting.{fitting_more}
use Rattle.fond_planner.proofs.Walked.{state_long}
use Rattle.fond_planner.proofs.walk.bar.Goals as goal

pub is_barred-requires : goal.is_barred-requires
is_barred-requires c = λ pair has.
    (c.requires.draft.fresh pair (subst (λ (pairs : List Pair). Contains pairs pair) c.as_slice.ensures.value has)).over ∙ sym (state_long c.args.t.now c.args.step.now c.requires.step)

pub returns-clause-draft : goal.returns-clause-draft
returns-clause-draft c =
    let task = c.args.t.now in
    let draft = c.args.draft.now in
    let step = c.args.step.now in
    let pair = c.in_ok-pair.pair in
    let old = draft.pairs ++ draft.fresh.items in
    let not_fresh : ¬ IsBarred draft.fresh.items step.act step.state = λ barred.
    false≢true (c.if-is_barred.ensures.1 (subst (λ (pairs : List Pair). IsBarred pairs step.act step.state) (sym c.as_slice.ensures.value) barred)) in
    let free : ¬ IsBarred old pair.act step.state =
    subst (λ (act : ℕ). ¬ IsBarred old act step.state) (sym c.in_ok-pair.ensures.bars.0) (barred_cases draft.pairs draft.fresh.items step.act step.state c.requires.free not_fresh) in
    let grown : old ++ pair ∷ [] ≡ draft.pairs ++ c.push.new.self.items =
    append_assoc draft.pairs draft.fresh.items (pair ∷ []) ∙ ap (λ (fresh : List Pair). draft.pairs ++ fresh) (sym c.in_ok-push.ensures.items) in
    record {
      over = c.requires.draft.over;
      sure = c.requires.draft.sure;
      pairs = c.requires.draft.pairs;
      fresh = subst (λ (pairs : List Pair). AreFitting task draft.layers pairs) (sym c.in_ok-push.ensures.items)
          (fitting_more task draft.layers draft.fresh.items pair c.requires.draft.fresh c.in_ok-pair.ensures.fitting);
      more = subst (EachBarsMore task) grown
          (more_pushed task old pair c.requires.draft.more
          (record { state = step.state; reachable = c.requires.step.outset.reachable; lies = c.in_ok-pair.ensures.bars.1; free = free }));
      rules = c.requires.draft.rules;
    }

pub returns-clause-barred : goal.returns-clause-barred
returns-clause-barred c =
    let pair = c.in_ok-pair.pair in
    record {
      pair = pair;
      one = subst (λ (pairs : List Pair). Contains pairs pair) (sym c.in_ok-push.ensures.items) (Contains-append_right c.args.draft.now.fresh.items (pair ∷ []) pair (Contains-here pair []));
      bars = c.in_ok-pair.ensures.bars;
    }
