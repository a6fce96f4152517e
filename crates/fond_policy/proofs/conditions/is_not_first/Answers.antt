use Rattle.std.proofs.Common.{◌≡◌, ◌∙◌, length, sym, subst, arith}
use Rattle.std.proofs.lemmas.Bool.{false≢true, not-true}
use Rattle.std.proofs.lemmas.Option.{same_Some, slice_get_within}
use Rattle.fond_state.specs.Cubes.{CubeLiesIn}
use Rattle.fond_policy.specs.Items.{First, first_of}
use Rattle.fond_policy.proofs.Ruled.{first_at, over_at, rule_of}
use Rattle.fond_policy.proofs.conditions.is_not_first.Goals as goal

pub returns-then-rule-len : goal.returns-then-rule-len
returns-then-rule-len c = λ yes on.
    let rule = rule_of c.args.rules.now c.args.rule on.first on.numbered in
    let within = slice_get_within c.args.rules.now c.args.rule rule.0 rule.1 in
    omega (arith, within, c.if-rule-len.true, c.len.ensures)

pub covers-requires : goal.covers-requires
covers-requires c = over_at c.args.rules.now c.args.rule c.get.result.now (length c.args.c.now) c.requires c.get.ensures

pub returns-then-not-covers : goal.returns-then-not-covers
returns-then-not-covers c = λ yes on.
    let rule = c.get.result.now in
    let same : on.first ≡ first_of rule = same_Some on.first (first_of rule) (sym on.numbered ∙ first_at c.args.rules.now c.args.rule rule c.get.ensures) in
    false≢true (c.if-not-covers.ensures.1 (subst (λ (f : First). CubeLiesIn c.args.c.now f.cond) same on.lies))

pub contradicts-requires : goal.contradicts-requires
contradicts-requires c = sym (over_at c.args.rules.now c.args.rival c.get-2.result.now (length c.args.c.now) c.requires c.get-2.ensures)

pub returns : goal.returns
returns c = λ yes on.
    let rule = c.get-2.result.now in
    let apart = on.apart c.args.rival (first_of rule) c.if-rival-rule.false (first_at c.args.rules.now c.args.rival rule c.get-2.ensures) in
    false≢true (sym (not-true _ yes) ∙ c.contradicts.ensures.1 apart)
