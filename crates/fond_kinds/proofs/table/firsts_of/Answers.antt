use Rattle.std.proofs.Common.{◌≡◌, ◌+◌, ◌*◌, ℕ, None, Option, length, replicate, sym, subst, arith}
use Rattle.fond_kinds.proofs.Numbers.{AreFirsts, firsts_none, firsts_more, firsts_all}
use Rattle.fond_kinds.proofs.table.firsts_of.Goals as goal

pub loop-i-init : goal.loop-i-init
loop-i-init c =
    let long : c.len.result ≡ length c.args.types.now = c.len.ensures in
    let empty : c.in_ok-firsts.firsts.items ≡ replicate {A = Option ℕ} (2 * length c.args.types.now + 1) None = rw (← long) c.in_ok-firsts.ensures in
    firsts_none c.args.types.now c.in_ok-firsts.firsts.items empty

pub loop-i-preserved : goal.loop-i-preserved
loop-i-preserved c =
    subst (λ z. AreFirsts c.args.types.now z (c.loop-i.i + 1)) (sym c.put_first.ensures)
    (firsts_more c.args.types.now c.args.numbers.now c.loop-i.firsts.items c.loop-i.i c.get.result.now c.requires.numbered c.get.ensures c.loop-i.invariant)

pub returns-clause-declared : goal.returns-clause-declared
returns-clause-declared c = firsts_all c.args.types.now c.loop-i.firsts.items c.loop-i.i (omega arith) c.loop-i.invariant

pub returns-clause-over : goal.returns-clause-over
returns-clause-over c = c.loop-i.invariant.over
