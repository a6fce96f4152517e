use Rattle.std.proofs.Common.{◌≡◌, length}
use Rattle.fond_layers.specs.Far.{IsFarList, list_before}
use Rattle.fond_policy.proofs.Beginning.{Before}
use Rattle.fond_best.proofs.rate.bad_list.Given as goal

-- the lists so far are far
abbrev pub invariant-loop-at : goal.invariant-loop-at
invariant-loop-at l = record {
  long : length l.image ≡ length l.t.atoms;
  far : Before l.far (λ n cubes. IsFarList l.t l.layers (list_before l.far n) cubes) l.at;
}
