use Rattle.fond_tree.proofs.RoleMembers.{roles_then_rest}
use Rattle.fond_tree.proofs.walk.Walk.over_shape.Goals as goal

pub returns : goal.returns
returns c = roles_then_rest c.args.shape.rest c.rest_of.result c.rest_of.ensures c.args.shape.first.now
