use Rattle.std.proofs.Common.{◌≡◌, ℕ, ◌<◌, ◌≤◌, Option, Some, None, length, sym, ap, ◌∙◌, subst, arith}
use Rattle.std.specs.Prelude.{IfSome, slice_index}
use Rattle.fond_kinds.specs.Parents.{parent_of}
use Rattle.fond_kinds.specs.Forests.{IsStep}
use Rattle.fond_kinds.proofs.Unwind.{steps_up, jumps_up}
use Rattle.fond_kinds.proofs.links.Links.step.Goals as goal

pub returns-then-time-clause-some : goal.returns-then-time-clause-some
returns-then-time-clause-some c =
    let (parents, whole) = c.requires.whole in
    let jump : c.jump-jump.result ≡ slice_index c.args.self.now.jumps c.args.at = c.jump-jump.ensures in
    let other : slice_index c.args.self.now.jumps c.args.at ≡ c.args.at → ⊥ = (λ same. c.if-jump-at.true (jump ∙ same)) in
    let within : slice_index c.args.self.now.jumps c.args.at < length c.args.self.now.ups = omega arith in
    let time : c.time.result ≡ slice_index c.args.self.now.times (slice_index c.args.self.now.jumps c.args.at) = c.time.ensures ∙ ap (λ z. slice_index c.args.self.now.times z) jump in
    let late : c.args.time ≤ slice_index c.args.self.now.times (slice_index c.args.self.now.jumps c.args.at) = omega arith in
    subst (λ z. IsStep c.args.self.now c.args.at c.args.time z) (sym jump) (jumps_up parents c.args.self.now whole c.args.at c.args.time c.requires.there c.requires.late other within late)

pub returns-else-jump-at-clause-some : goal.returns-else-jump-at-clause-some
returns-else-jump-at-clause-some c = go c.up.result c.up.ensures
  where
    go : (x : Option ℕ) → x ≡ parent_of c.args.self.now.ups c.args.at → IfSome x (IsStep c.args.self.now c.args.at c.args.time)
    go None known = tt
    go (Some p) known = let (parents, whole) = c.requires.whole in steps_up parents c.args.self.now whole c.args.at c.args.time c.requires.there c.requires.late p (sym known)
