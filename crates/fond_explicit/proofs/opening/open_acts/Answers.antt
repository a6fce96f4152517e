use Rattle.std.proofs.Common.{◌≡◌, ℕ, slice_get, get_or, sym, ap, ◌∙◌, subst, ⊎_elim, arith}
use Rattle.std.proofs.lemmas.Bool.{MatchBool-at_true, cases_lt}
use Rattle.std.proofs.lemmas.Option.{same_Some, slice_get-get_or}
use Rattle.fond_explicit.specs.Spaces.{HasMove}
use Rattle.fond_explicit.proofs.Opened.{opening_then}
use Rattle.fond_explicit.proofs.opening.open_acts.Goals as goal

pub loop-act-preserved : goal.loop-act-preserved
loop-act-preserved c =
    let task = c.args.t.now in
    let state = c.args.state.now in
    let acts = c.args.acts.now in
    let i = c.loop-act.act-index in
    let before = c.loop-act.invariant in
    let opening = c.in_ok-open_act.ensures.opening in
    let node = c.args.space.now.opened in
    record {
      next_long = c.open_act.ensures.next_long;
      few = c.in_ok-open_act.ensures.few;
      opening = opening_then task state c.args.space.now c.loop-act.space c.open_act.new.space before.opening opening;
      done = λ k a small at holds. ⊎_elim
          (λ early. opening.moves_stay node state a (before.done k a early at holds))
          (λ late.
          let same : k ≡ i = omega arith in
          let now : HasMove c.open_act.new.space.states c.open_act.new.space.moves c.loop-act.space.opened state a
          = MatchBool-at_true _ _ c.if-not-branch.false c.in_ok-open_act.ensures.room a (ap (λ j. slice_get task.acts (get_or acts j 0)) (sym same) ∙ at) holds in
          subst (λ (n : ℕ). HasMove c.open_act.new.space.states c.open_act.new.space.moves n state a) before.opening.same now)
          (cases_lt k i);
    }

pub returns-clause-room : goal.returns-clause-room
returns-clause-room c = λ number a at holds.
    let acts = c.args.acts.now in
    let has = c.requires.candidates.all number a at holds in
    let same : get_or acts has.0 0 ≡ number = same_Some _ _ (sym (slice_get-get_or acts has.0 0 has.1) ∙ slice_get-get_or acts has.0 number has.1) ∙ has.2 in
    c.loop-act.invariant.done has.0 a (omega (arith, has.1, c.loop-act-test.false)) (ap (slice_get c.args.t.now.acts) same ∙ at) holds
