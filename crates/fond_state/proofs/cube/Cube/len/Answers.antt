use Rattle.std.proofs.Common.{length, ap, arith}
use Rattle.fond_state.proofs.Words.{length-literals_from}
use Rattle.fond_state.proofs.cube.Cube.len.Goals as goal

pub returns-clause-counted : goal.returns-clause-counted
returns-clause-counted c =
    let same = ap length c.self.view_is in
    let long = length-literals_from c.self.inside.masks.items 0 c.self.inside.atoms in
    omega (arith, same, long)
