use Rattle.std.proofs.Common.{sym}
use Rattle.fond_succ.proofs.Names.{leaves_of_node}
use Rattle.fond_succ.proofs.action.find_action.Goals as goal

pub find_named-requires : goal.find_named-requires
find_named-requires c =
    let members = rw c.in-Some.is at c.members.ensures in
    leaves_of_node c.args.action.now c.in-Some.members.now c.requires (sym members)

pub returns : goal.returns
returns c =
    let members = rw c.in-Some.is at c.members.ensures in
    rw (sym members) c.find_named.ensures
