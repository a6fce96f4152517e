use Rattle.std.proofs.Common.{ℕ, List, refl, sym, ◌∙◌, subst}
use Rattle.std.proofs.lemmas.Bool.{MatchBool-at_true}
use Rattle.std.proofs.lemmas.Option.{same_Some}
use Rattle.fond_fixpoint.specs.Moves.{Move}
use Rattle.fond_task.specs.declared.task.Act.{Act}
use Rattle.fond_explicit.specs.Openings.{IsMoveKept}
use Rattle.fond_explicit.specs.Spaces.{HasMove, IsMoveOf}
use Rattle.fond_explicit.proofs.Grown.{grown_stay}
use Rattle.fond_explicit.proofs.Opened.{opening_grown, opening_kept, kept_has}
use Rattle.fond_explicit.proofs.opening.open_act.Goals as goal

pub returns-then-not-branch-clause-opening : goal.returns-then-not-branch-clause-opening
returns-then-not-branch-clause-opening c = opening_grown c.args.t.now c.args.state.now c.requires.long c.requires.no_goal c.args.space.now c.reach_all.new.states c.in_ok-reach_all.ensures.grown

pub returns-clause-opening : goal.returns-clause-opening
returns-clause-opening c =
    let task = c.args.t.now in
    let state = c.args.state.now in
    let space = c.args.space.now in
    let act = c.get.result.now in
    let grown = c.in_ok-reach_all.ensures.grown in
    let move : Move = record { source = space.opened; act = c.args.act; unfair = act.unfair; targets = c.reach_all.new.scratch.targets.items } in
    let kept : IsMoveKept space.moves c.keep.new.moves move
    = subst (λ (targets : List ℕ). IsMoveKept space.moves c.keep.new.moves (record { source = space.opened; act = c.args.act; unfair = act.unfair; targets = targets })) c.as_slice.ensures.value c.in_ok-keep.ensures in
    let one : IsMoveOf task c.reach_all.new.states move = record {
      state = state;
      has_state = grown_stay task state space.states c.reach_all.new.states grown space.opened state c.requires.here;
      act = act;
      has_act = c.get.ensures;
      holds = sym (c.applicable.ensures act c.get.ensures) ∙ c.if-not-applicable.false;
      flagged = refl;
      leads = MatchBool-at_true _ _ c.if-not-branch.false c.in_ok-reach_all.ensures.room act c.get.ensures;
    } in
    opening_kept task state c.requires.long c.requires.no_goal space c.reach_all.new.states c.keep.new.moves move grown one kept

pub returns-clause-room : goal.returns-clause-room
returns-clause-room c = λ a at holds.
    let state = c.args.state.now in
    let space = c.args.space.now in
    let act = c.get.result.now in
    let states = c.reach_all.new.states in
    let move : Move = record { source = space.opened; act = c.args.act; unfair = act.unfair; targets = c.reach_all.new.scratch.targets.items } in
    let kept : IsMoveKept space.moves c.keep.new.moves move
    = subst (λ (targets : List ℕ). IsMoveKept space.moves c.keep.new.moves (record { source = space.opened; act = c.args.act; unfair = act.unfair; targets = targets })) c.as_slice.ensures.value c.in_ok-keep.ensures in
    subst (λ (one : Act). HasMove states c.keep.new.moves space.opened state one) (same_Some act a (sym c.get.ensures ∙ at))
    (kept_has states state act space.moves c.keep.new.moves move refl (MatchBool-at_true _ _ c.if-not-branch.false c.in_ok-reach_all.ensures.room act c.get.ensures) kept)
