use Rattle.std.proofs.Common.{◌∙◌, sym, subst}
use Rattle.fond_join.proofs.Covering.{beside_covers, HasBeside}
use Rattle.fond_join.proofs.candidates.row_beside.Goals as goal

pub returns : goal.returns
returns c =
    let task = c.args.facts.now.task.now in
    let atom = c.args.atom.now in
    let row = c.in_ok-row.row.now in
    let object = c.in_ok-object.object in
    let beside = subst (λ n. HasBeside task atom row n object c.args.position) c.in_ok-known.ensures (subst (λ n. HasBeside task atom row c.in_ok-known.known object n) c.in_ok-place.ensures c.in_ok-row.ensures) in
    beside_covers task atom c.args.scope.now.env.items c.args.parameter c.args.position c.args.other object c.get.result.now row c.requires.here c.get.ensures (sym c.object_of.ensures ∙ c.in_ok-object.was) beside
