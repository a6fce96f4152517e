use Rattle.std.proofs.Common.{◌≡◌, ◌<◌, ◌-◌, ◌^◌, List, Bool, Option, length, take, min, subst, arith}
use Rattle.std.specs.Prelude.{slice_get, All}
use Rattle.std.specs.Option.{IsSomeAnd}
use Rattle.fond_matrix.specs.Matrices.{cubes_of}
use Rattle.fond_matrix.specs.Rivals.{IsRival, rival_at}
use Rattle.fond_matrix.proofs.Cubes.{length-cubes_of}
use Rattle.fond_matrix.proofs.Soles.{rival_of, none_of}
use Rattle.fond_matrix.proofs.matrix.Matrix.find_rivals.Goals as goal

pub returns-clause-rival : goal.returns-clause-rival
returns-clause-rival c = λ a small.
    let rows = c.self.inside.rows in
    let cubes = cubes_of rows 0 c.self.inside.lengths.items in
    let end : c.min-end.result ≡ min c.args.below (length cubes) = omega (arith, c.min-end.ensures, c.len.ensures, c.self.inside.lengths.ok.0, length-cubes_of rows 0 c.self.inside.lengths.items) in
    let rival = rival_at c.find_rivals.new.rivals a in
    subst (λ (cs : List (List (Option Bool))). rival < 2 ^ 32 - 1 → IsSomeAnd (slice_get (take c.args.below cs) rival) (IsRival c.args.cube.now a)) c.self.view_is
    (rival_of cubes rows c.self.invariant.0 c.args.cube.now c.args.below c.min-end.result end a rival (c.find_rivals.ensures.noted a small))

pub returns-clause-none : goal.returns-clause-none
returns-clause-none c = λ a small.
    let rows = c.self.inside.rows in
    let cubes = cubes_of rows 0 c.self.inside.lengths.items in
    let end : c.min-end.result ≡ min c.args.below (length cubes) = omega (arith, c.min-end.ensures, c.len.ensures, c.self.inside.lengths.ok.0, length-cubes_of rows 0 c.self.inside.lengths.items) in
    let rival = rival_at c.find_rivals.new.rivals a in
    subst (λ (cs : List (List (Option Bool))). rival ≡ 2 ^ 32 - 1 → All (λ other. ¬ IsRival c.args.cube.now a other) (take c.args.below cs)) c.self.view_is
    (none_of cubes rows c.self.invariant.0 c.args.cube.now c.args.below c.min-end.result end a rival (c.find_rivals.ensures.noted a small))
