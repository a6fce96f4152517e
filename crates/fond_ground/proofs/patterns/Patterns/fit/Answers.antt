use Rattle.std.proofs.Common.{length, refl, arith}
use Rattle.fond_ground.proofs.Filed.{contains_at, found_fits, nothing_fits}
use Rattle.fond_ground.proofs.patterns.Patterns.fit.Goals as goal

pub get-pattern-requires : goal.get-pattern-requires
get-pattern-requires c = c.requires.listed c.get.result.now (contains_at c.args.self.now.shapes c.loop-i.i c.get.result.now c.get.ensures)

pub returns-then-branch : goal.returns-then-branch
returns-then-branch c =
    let found = c.in_ok-fits_shape.ensures.0 c.if-branch.true in
    (λ e. found_fits c.args.self.now.all.now (length c.args.self.now.all.now) c.args.self.now.codes c.args.self.now.shapes c.args.objects.now c.as_slice.result.now c.requires found.0 found.1, λ fit. refl)

pub returns : goal.returns
returns c = (
  λ never. absurd cc,
  λ fit. absurd (nothing_fits c.args.self.now.all.now c.args.self.now.codes c.args.self.now.shapes c.args.objects.now c.requires
      (λ i at pattern low. c.loop-i.invariant i at pattern (omega (arith, low))) fit),
)
