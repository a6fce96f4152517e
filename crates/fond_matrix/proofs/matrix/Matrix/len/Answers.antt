use Rattle.std.proofs.Common.{◌≡◌, ◌∙◌, length, ap, sym, arith}
use Rattle.fond_matrix.proofs.Cubes.{length-cubes_of}
use Rattle.fond_matrix.proofs.matrix.Matrix.len.Goals as goal

pub returns : goal.returns
returns c =
    let counted : c.len.result ≡ length c.self.inside.lengths.items = omega (arith, c.len.ensures, c.self.inside.lengths.ok.0) in
    counted ∙ sym (length-cubes_of c.self.inside.rows 0 c.self.inside.lengths.items) ∙ ap length c.self.view_is
