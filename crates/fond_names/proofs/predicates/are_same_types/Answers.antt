use Rattle.std.proofs.Common.{◌≡◌, ◌+◌, ◌&&◌, false, true, drop, sym, ap, ◌∙◌, arith}
use Rattle.std.proofs.lemmas.Bool.Decides.{nat_tests}
use Rattle.fond_names.specs.Same.{are_same_kinds, are_same_types}
use Rattle.fond_names.proofs.SameLemmas.{not_as_long, same_at}
use Rattle.fond_names.proofs.predicates.are_same_types.Goals as goal

pub returns-then-len : goal.returns-then-len
returns-then-len c = not_as_long c.args.ones.now c.args.others.now (grind (arith, nat_tests))

pub returns-then-not-branch : goal.returns-then-not-branch
returns-then-not-branch c =
    let ones = c.args.ones.now in
    let others = c.args.others.now in
    let i = c.loop-i.i in
    let left = same_at ones others i c.get.result.now c.get-in-loop-i.result.now c.get.ensures c.get-in-loop-i.ensures in
    let kinds : are_same_kinds c.get.result.now.kinds c.get-in-loop-i.result.now.kinds ≡ false = sym c.in_ok-are_same_kinds.ensures ∙ c.if-not-branch.true in
    sym (ap (λ b. b && are_same_types (drop (i + 1) ones) (drop (i + 1) others)) kinds) ∙ sym left ∙ c.loop-i.invariant.same

pub loop-i-preserved : goal.loop-i-preserved
loop-i-preserved c =
    let ones = c.args.ones.now in
    let others = c.args.others.now in
    let i = c.loop-i.i in
    let left = same_at ones others i c.get.result.now c.get-in-loop-i.result.now c.get.ensures c.get-in-loop-i.ensures in
    let kinds : are_same_kinds c.get.result.now.kinds c.get-in-loop-i.result.now.kinds ≡ true = sym c.in_ok-are_same_kinds.ensures ∙ c.if-not-branch.false in
    record {
      same = sym (ap (λ b. b && are_same_types (drop (i + 1) ones) (drop (i + 1) others)) kinds) ∙ sym left ∙ c.loop-i.invariant.same;
      long = c.loop-i.invariant.long;
    }
