use Rattle.std.proofs.Common.{drop}
use Rattle.std.specs.List.{flat_map}
use Rattle.fond_text.proofs.Adding.{Adding}
use Rattle.fond_task.specs.Texts.{state_text}
use Rattle.fond_succ.proofs.successors.put_states.Given as goal

abbrev pub invariant-loop-i : goal.invariant-loop-i
invariant-loop-i l = Adding l.initial.text l.text (flat_map (state_text l.game) l.states) (flat_map (state_text l.game) (drop l.i l.states))
