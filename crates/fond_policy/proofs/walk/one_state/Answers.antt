use Rattle.fond_policy.proofs.Walking.{begun_states}
use Rattle.fond_policy.proofs.walk.one_state.Goals as goal

pub returns : goal.returns
returns c = begun_states c.args.state.now c.new-states.result c.in_ok-copy.field-0 c.in_ok-add.field-0 c.add.new.self c.new-states.ensures c.in_ok-copy.ensures c.in_ok-add.ensures.ok
