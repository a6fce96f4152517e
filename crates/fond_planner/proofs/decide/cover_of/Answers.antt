use Rattle.fond_planner.proofs.Right.{belong_as_rules, rules_sure}
use Rattle.fond_planner.proofs.decide.cover_of.Goals as goal

pub take_items-requires : goal.take_items-requires
take_items-requires c = belong_as_rules c.args.t.now c.args.draft.now c.requires c.read_count.ensures

pub cover_by_states-requires-clause-belong : goal.cover_by_states-requires-clause-belong
cover_by_states-requires-clause-belong c = belong_as_rules c.args.t.now c.args.draft.now c.requires c.read_count.ensures

pub cover_by_states-requires-clause-sure : goal.cover_by_states-requires-clause-sure
cover_by_states-requires-clause-sure c = rules_sure c.args.t.now c.args.draft.now c.requires
