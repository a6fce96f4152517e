use Rattle.std.proofs.Common.{◌≡◌, ◌∙◌, length, take, min, ap, arith}
use Rattle.std.specs.Prelude.{position}
use Rattle.fond_match.specs.Besides.{is_beside}
use Rattle.fond_matrix.specs.Matrices.{cubes_of}
use Rattle.fond_matrix.proofs.Cubes.{found_is, length-cubes_of}
use Rattle.fond_matrix.proofs.matrix.Matrix.first_beside.Goals as goal

pub returns : goal.returns
returns c =
    let rows = c.self.inside.rows in
    let cubes = cubes_of rows 0 c.self.inside.lengths.items in
    let end : c.min-end.result ≡ min c.args.below (length cubes) = omega (arith, c.min-end.ensures, c.len.ensures, c.self.inside.lengths.ok.0, length-cubes_of rows 0 c.self.inside.lengths.items) in
    found_is cubes rows c.self.invariant.0 c.args.cube.now c.first_beside.result c.args.below c.min-end.result end c.first_beside.ensures.below c.first_beside.ensures.beside c.first_beside.ensures.before c.first_beside.ensures.none
    ∙ ap (λ cs. position (is_beside c.args.cube.now) (take c.args.below cs)) c.self.view_is
