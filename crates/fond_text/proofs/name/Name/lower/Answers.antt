use Rattle.std.proofs.Common.{◌≡◌, map, subst, sym, rules}
use Rattle.fond_text.specs.Bytes.{lower}
use Rattle.fond_text.specs.Name.{IsName}
use Rattle.fond_text.proofs.Lowered.{lowered_name}
use Rattle.fond_text.proofs.name.Name.lower.Goals as goal

pub invariant_of-result : goal.invariant_of-result
invariant_of-result c =
    let items : c.in_ok-collect.field-0.items ≡ map lower c.args.b.now = search rules in
    subst IsName (sym items) (lowered_name c.args.b.now c.requires)
