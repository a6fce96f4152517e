use Rattle.std.proofs.Common.{ap}
use Rattle.std.specs.List.{flat_map}
use Rattle.fond_text.proofs.Adding.{adds_same}
use Rattle.fond_task.specs.Texts.{state_text}
use Rattle.fond_succ.proofs.successors.put_next_states.Goals as goal

pub returns-clause-ok : goal.returns-clause-ok
returns-clause-ok c a at = adds_same _ _ _ _ (ap (flat_map (state_text c.args.game.now)) (c.in_ok-states.ensures a at)) c.put_states.ensures
