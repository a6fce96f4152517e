use Rattle.std.proofs.Common.{◌≡◌, ◌≤◌, ◌+◌, ◌*◌, length, ◌∙◌, arith}
use Rattle.fond_kinds.specs.Tables.{type_names}
use Rattle.fond_kinds.proofs.Numbers.{names_long}
use Rattle.fond_kinds.proofs.table.ancestry_of.Goals as goal

pub of-requires-clause-few : goal.of-requires-clause-few
of-requires-clause-few c =
    let over : length c.in_ok-parents.parents.items ≡ length (type_names c.args.types.now) = c.in_ok-parents.ensures.over ∙ c.requires.over in
    let long : length (type_names c.args.types.now) ≡ 2 * length c.args.types.now + 1 = names_long c.args.types.now in
    let few : length c.args.types.now ≤ 16777216 = c.requires.few in
    omega arith
