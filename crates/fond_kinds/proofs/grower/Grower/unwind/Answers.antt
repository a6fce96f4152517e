use Rattle.std.proofs.Common.{◌≡◌, ◌∷◌, ◌++◌, [], length, ap, ◌∙◌, subst, arith, rules}
use Rattle.std.specs.Prelude.{◌<◌}
use Rattle.fond_kinds.specs.Forests.{is_marked}
use Rattle.fond_kinds.specs.Growth.{IsUnwinding}
use Rattle.fond_kinds.proofs.Growth.{still_done}
use Rattle.fond_kinds.proofs.Unwind.{unwound, unwound-all, last_there, last_waits, above_there}
use Rattle.fond_kinds.proofs.grower.Grower.unwind.Goals as goal

pub attach-requires-clause-there : goal.attach-requires-clause-there
attach-requires-clause-there c =
    last_there c.loop-number.self c.pop.new.self.items c.in-Some.number c.loop-number.above c.args.last
    (subst (λ z. IsUnwinding c.loop-number.self z c.loop-number.above c.args.last) c.in-Some.ensures.items c.loop-number.invariant.unwinding)

pub attach-requires-clause-waits : goal.attach-requires-clause-waits
attach-requires-clause-waits c =
    last_waits c.loop-number.self c.pop.new.self.items c.in-Some.number c.loop-number.above c.args.last
    (subst (λ z. IsUnwinding c.loop-number.self z c.loop-number.above c.args.last) c.in-Some.ensures.items c.loop-number.invariant.unwinding)

pub attach-requires-clause-parent_there : goal.attach-requires-clause-parent_there
attach-requires-clause-parent_there c =
    above_there c.loop-number.self c.pop.new.self.items c.in-Some.number c.loop-number.above c.args.last
    (subst (λ z. IsUnwinding c.loop-number.self z c.loop-number.above c.args.last) c.in-Some.ensures.items c.loop-number.invariant.unwinding)

pub loop-number-preserved : goal.loop-number-preserved
loop-number-preserved c =
    let (jump, jumps, adds) = c.attach.ensures in
    let before : IsUnwinding c.loop-number.self (c.pop.new.self.items ++ c.in-Some.number ∷ []) c.loop-number.above c.args.last =
    subst (λ z. IsUnwinding c.loop-number.self z c.loop-number.above c.args.last) c.in-Some.ensures.items c.loop-number.invariant.unwinding in
    let there : c.in-Some.number < length c.loop-number.self.parents.now = last_there c.loop-number.self c.pop.new.self.items c.in-Some.number c.loop-number.above c.args.last before in
    let e : length c.loop-number.self.done.items ≡ length c.loop-number.self.parents.now = before.growing.done in
    let within : c.in-Some.number < length c.loop-number.self.done.items = omega arith in
    record {
      unwinding = unwound c.loop-number.self c.attach.new.self c.pop.new.self.items c.in-Some.number c.loop-number.above c.args.last jump before jumps adds;
      kept = adds.parents ∙ c.loop-number.invariant.kept;
      met = λ number met. ap (λ z. is_marked z number) adds.seen ∙ c.loop-number.invariant.met number met;
      grown = λ number done. still_done c.loop-number.self c.attach.new.self c.in-Some.number _ adds within (last_waits c.loop-number.self c.pop.new.self.items c.in-Some.number c.loop-number.above c.args.last before) number (c.loop-number.invariant.grown number done);
    }

pub returns-clause-resting : goal.returns-clause-resting
returns-clause-resting c =
    let empty : c.loop-number.path.items ≡ [] = search rules in
    unwound-all c.loop-number.self c.loop-number.above c.args.last (subst (λ z. IsUnwinding c.loop-number.self z c.loop-number.above c.args.last) empty c.loop-number.invariant.unwinding)
