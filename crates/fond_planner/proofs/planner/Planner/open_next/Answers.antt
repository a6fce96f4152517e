use Rattle.std.proofs.Common.{◌∙◌, ℕ, sym, subst}
use Rattle.fond_layers.specs.Over.{AreOver}
use Rattle.fond_explicit.specs.Answers.{IsReachable}
use Rattle.fond_draft.proofs.Turned.{turn_next, turn_there}
use Rattle.fond_planner.proofs.planner.Planner.open_next.Goals as goal

pub get-requires : goal.get-requires
get-requires g c = turn_there c.args.self.now.task.now c.args.turn.now c.requires.turn

pub dead-requires : goal.dead-requires
dead-requires g c =
    subst (λ (n : ℕ). AreOver n c.args.self.now.draft.layers) (sym (c.first_open.ensures.same_length ∙ c.requires.next_long)) c.requires.planner.draft.over

pub returns-clause-reachable : goal.returns-clause-reachable
returns-clause-reachable g c =
    let task = c.args.self.now.task.now in
    subst (IsReachable task task.init) (sym c.in_ok-copy.ensures) (turn_next task c.args.turn.now c.requires.turn c.in-Some.outcome c.first_open.new.next c.in-Some.ensures.open)
