use Rattle.std.proofs.Common.{rules}
use Rattle.std.proofs.lemmas.List.{at_drop_all}
use Rattle.std.specs.List.{flat_map}
use Rattle.fond_text.proofs.Adding.{adding_all, adding_more, adding_none}
use Rattle.fond_task.specs.Texts.{state_text}
use Rattle.fond_succ.proofs.Added.{text_more}
use Rattle.fond_succ.proofs.successors.put_states.Goals as goal

pub loop-i-init : goal.loop-i-init
loop-i-init c = adding_all _ _

pub loop-i-preserved : goal.loop-i-preserved
loop-i-preserved c = adding_more _ _ _ _ _ _ _ (text_more (state_text c.args.game.now) c.args.states.now c.loop-i.i c.get.result.now c.get.ensures) c.loop-i.invariant c.put_state.ensures

pub returns : goal.returns
returns c = adding_none _ _ _ _ (at_drop_all (flat_map (state_text c.args.game.now)) c.args.states.now c.loop-i.i (search rules)) c.loop-i.invariant
