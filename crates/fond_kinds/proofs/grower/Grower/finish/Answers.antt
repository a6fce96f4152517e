use Rattle.std.proofs.Common.{◌≡◌, true, false, Some, None, sym, ap, ◌∙◌, subst}
use Rattle.fond_kinds.specs.Forests.{is_marked}
use Rattle.fond_kinds.specs.Growth.{is_done}
use Rattle.fond_kinds.proofs.Unwind.{finish_planted, finish_attached}
use Rattle.fond_kinds.proofs.grower.Grower.finish.Goals as goal
use Rattle.fond_kinds.proofs.grower.Grower.finish.Goals.{in_default-via-in-Some+else-is_marked_at, in_default-via-in_default}

pub returns-in-Some-clause-unwinding : goal.returns-in-Some-clause-unwinding
returns-in-Some-clause-unwinding c path walked =
    let (jump, jumps, adds) = c.attach.ensures in
    let done : is_done c.args.self.now c.in-Some.parent ≡ true = ap (λ z. is_marked z c.in-Some.parent) (sym c.deref.ensures.value) ∙ sym c.is_marked_at.ensures ∙ c.if-is_marked_at.true in
    finish_attached c.args.self.now c.attach.new.self path c.args.last walked c.requires.there c.in-Some.parent jump adds (sym c.in-Some.ensures) done jumps

pub returns-in_default-clause-unwinding : goal.returns-in_default-clause-unwinding
returns-in_default-clause-unwinding c path walked =
    finish_planted c.args.self.now c.plant.new.self path c.args.last walked c.requires.there c.plant.ensures (λ p known. elim c.in_default.branch [
      | in_default-via-in-Some+else-is_marked_at w ↦
          let same : Some w.in-Some.parent ≡ Some p = w.in-Some.ensures ∙ known in
          let equal : w.in-Some.parent ≡ p = cc in
          let not : is_done c.args.self.now w.in-Some.parent ≡ false = ap (λ z. is_marked z w.in-Some.parent) (sym w.deref.ensures.value) ∙ sym w.is_marked_at.ensures ∙ w.if-is_marked_at.false in
          subst (λ z. is_done c.args.self.now z ≡ false) equal not
      | in_default-via-in_default w ↦ let clash : None ≡ Some p = w.in_default.ensures ∙ known in cc
    ])
