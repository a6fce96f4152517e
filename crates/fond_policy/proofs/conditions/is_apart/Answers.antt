use Rattle.std.proofs.Common.{◌∙◌, length, refl, sym, arith}
use Rattle.std.proofs.lemmas.Bool.{le-leb, leb-true}
use Rattle.fond_policy.proofs.Beside.{apart_all, apart_before, before_apart, rules_over}
use Rattle.fond_policy.specs.Items.{firsts_of}
use Rattle.fond_policy.proofs.Apart.{apart_decided}
use Rattle.fond_policy.proofs.conditions.is_apart.Goals as goal

pub first_beside-requires-2 : goal.first_beside-requires-2
first_beside-requires-2 c = rules_over (length c.args.c.now) c.args.rules.now c.requires.over

pub returns-then-rule-len : goal.returns-then-rule-len
returns-then-rule-len c =
    apart_decided c.args.matrix.now (firsts_of c.args.rules.now) c.requires.first c.args.c.now c.args.rule (omega (arith, c.if-rule-len.true, c.len.ensures)) c.is_none.result c.first_beside.result c.first_beside.ensures c.is_none.ensures

pub returns-in-Some : goal.returns-in-Some
returns-in-Some c =
    let rules = c.args.rules.now in
    let found = sym c.first_beside-2.ensures ∙ c.in-Some.is in
    (λ e. apart_before rules c.args.c.now c.in-Some.first c.args.rule found (leb-true _ _ e), λ apart. le-leb _ _ (before_apart rules c.args.c.now c.in-Some.first c.args.rule found apart))

pub returns-in-None : goal.returns-in-None
returns-in-None c = (λ e. apart_all c.args.rules.now c.args.c.now c.args.rule (sym c.first_beside-2.ensures ∙ c.in-None.is), λ apart. refl)
