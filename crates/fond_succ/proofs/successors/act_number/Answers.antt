use Rattle.std.proofs.Common.{◌<◌, arith, length}
use Rattle.std.proofs.lemmas.Option.{slice_get_within}
use Rattle.fond_succ.proofs.successors.act_number.Goals as goal

pub returns-then-is_same_action-clause-found : goal.returns-then-is_same_action-clause-found
returns-then-is_same_action-clause-found c = (c.get.result.now, c.get.ensures, c.is_same_action.ensures.0 c.if-is_same_action.true)

pub returns-clause-none : goal.returns-clause-none
returns-clause-none c = λ number act at same.
    let within : number < length c.args.game.now.acts = slice_get_within c.args.game.now.acts number act at in
    c.loop-i.invariant number act (omega arith) at same
