use Rattle.std.proofs.Common.{◌≡◌, ◌≤◌, true, false, length, arith}
use Rattle.std.proofs.lemmas.Bool.Decides.{nat_tests}
use Rattle.fond_tree.specs.Parts.{is_dash}
use Rattle.fond_tree.proofs.RoleMembers.{typed_at_dash, typed_after_type, typed_at_leaf, typed_at_last}
use Rattle.fond_tree.proofs.walk.Pending.next_typed.Goals as goal
use Rattle.fond_tree.proofs.walk.Pending.next_typed.Goals.{else-untyped-via-then-untyped+then-dash+else-not-is_empty, else-untyped-via-then-untyped+else-dash, else-untyped-via-else-untyped}

pub returns-then-not-is_empty : goal.returns-then-not-is_empty
returns-then-not-is_empty c =
    let dash : is_dash c.args.tree.now ≡ true = cc in
    let some : 1 ≤ length c.args.after.now = grind (arith, nat_tests) in
    typed_at_dash c.args.leaf c.args.types c.args.untyped c.args.tree.now c.args.after.now c.if-untyped.true dash some

pub returns-else-untyped : goal.returns-else-untyped
returns-else-untyped c =
    rw c.is_dash-dash.ensures (
    elim c.else-untyped.branch [
      | else-untyped-via-then-untyped+then-dash+else-not-is_empty w ↦
          let last : length c.args.after.now ≡ 0 = grind (arith, nat_tests) in
          typed_at_last c.args.leaf c.args.types c.args.untyped c.args.tree.now c.args.after.now last
      | else-untyped-via-then-untyped+else-dash w ↦
          let other : is_dash c.args.tree.now ≡ false = cc in
          typed_at_leaf c.args.leaf c.args.types c.args.untyped c.args.tree.now c.args.after.now other
      | else-untyped-via-else-untyped w ↦ typed_after_type c.args.leaf c.args.types c.args.untyped c.args.tree.now c.args.after.now w.if-untyped.false
    ]
    )
