use Rattle.std.proofs.Common.{◌≡◌, ◌∙◌, List, length, ap, sym, subst, refl, arith}
use Rattle.fond_task.specs.declared.rule.Pair.{Pair}
use Rattle.fond_rules.specs.Belongs.{ArePairsOver}
use Rattle.fond_rules.proofs.pairs.Pairs.are_over.Goals as goal

pub returns-then-len-atoms : goal.returns-then-len-atoms
returns-then-len-atoms c =
    let items = c.as_slice-pair-items.result.now in
    let i = c.loop-pair.pair-index in
    let pair = c.pair-item.result in
    let P : List Pair → Type 0 = λ pairs. ArePairsOver c.args.atoms pairs in (
      λ e. absurd (cc),
      λ all.
          let over = subst P (sym (c.as_slice-pair-items.ensures.value ∙ c.self.view_is)) all in
          let here : length pair.cond ≡ c.args.atoms = ap (λ (p : Pair). length p.cond) c.pair-item.is ∙ over i pair c.loop-pair-test.true in
          absurd (c.if-len-atoms.true (c.len.ensures.counted ∙ here)),
    )

pub returns : goal.returns
returns c =
    let P : List Pair → Type 0 = λ pairs. ArePairsOver c.args.atoms pairs in (
      λ e. subst P (c.as_slice-pair-items.ensures.value ∙ c.self.view_is) (λ k d small. c.loop-pair.invariant k d (omega (arith, small, c.loop-pair-test.false))),
      λ all. refl,
    )
