use Rattle.std.proofs.Common.{ℕ, sym, subst}
use Rattle.fond_task.proofs.Lists.{Contains_numbered}
use Rattle.fond_rules.specs.Select.{AreOver}
use Rattle.fond_draft.proofs.Turned.{turn_long}
use Rattle.fond_planner.proofs.planner.Planner.make_turns.Goals as goal

pub select-requires : goal.select-requires
select-requires g c =
    let own = c.get-turn.result.now in
    let is = c.loop-done.invariant.turns own (Contains_numbered c.args.turns.now _ own c.get-turn.ensures) in
    subst (λ (n : ℕ). AreOver n c.loop-done.self.draft.rules) (sym (turn_long c.loop-done.self.task.now own is)) c.loop-done.invariant.keeps.planner.right.draft.rules.belong.over

pub is_ready-requires-clause-turn : goal.is_ready-requires-clause-turn
is_ready-requires-clause-turn g c = c.loop-done.invariant.turns c.get-turn.result.now (Contains_numbered c.args.turns.now _ c.get-turn.result.now c.get-turn.ensures)

pub open_next-requires-clause-turn : goal.open_next-requires-clause-turn
open_next-requires-clause-turn g c = c.loop-done.invariant.turns c.get-turn.result.now (Contains_numbered c.args.turns.now _ c.get-turn.result.now c.get-turn.ensures)
