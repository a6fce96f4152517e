use Rattle.fond_kinds.proofs.Fresh.{fresh}
use Rattle.fond_kinds.proofs.grower.Grower.of.Goals as goal
use Rattle.std.proofs.Common.{length, refl}

pub returns-clause-resting : goal.returns-clause-resting
returns-clause-resting c =
    fresh (record { parents = c.args.parents; links = c.in_ok-of.field-0; seen = c.in_ok-vec.field-0; done = c.in_ok-vec-2.field-0; count = 0 }) (length c.args.parents.now) refl
    (c.in_ok-vec.ensures.items_if_clones_equal (λ y same. same)) (c.in_ok-vec-2.ensures.items_if_clones_equal (λ y same. same)) refl c.in_ok-of.ensures.over c.in_ok-of.ensures.empty c.requires
