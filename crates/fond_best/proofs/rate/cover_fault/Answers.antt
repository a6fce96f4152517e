use Rattle.std.proofs.Common.{refl, sym, subst, arith}
use Rattle.std.proofs.lemmas.Bool.{false≢true}
use Rattle.fond_policy.specs.Items.{Belong, AreSureItems}
use Rattle.fond_policy.proofs.Ruled.{firsts_belong}
use Rattle.fond_best.proofs.rate.cover_fault.Goals as goal

pub first_bad_item-requires-clause-belong : goal.first_bad_item-requires-clause-belong
first_bad_item-requires-clause-belong c = subst (Belong c.args.t.now) (sym c.in_ok-conditions.ensures) (firsts_belong c.args.t.now c.args.cert.now.rules c.requires.belongs.as_rules.belong)

pub returns-in-Some : goal.returns-in-Some
returns-in-Some c = (c.requires.sure, c.in-Some.ensures.first c.args.cert.now.rules c.in_ok-conditions.ensures)

pub returns-then-not-is_in_item : goal.returns-then-not-is_in_item
returns-then-not-is_in_item c = (c.requires.sure, subst (λ firsts. AreSureItems c.args.t.now firsts c.args.cert.now.items) c.in_ok-conditions.ensures (c.in_default.ensures.first c.args.cert.now.rules c.in_ok-conditions.ensures), λ inside. false≢true (c.if-not-is_in_item.ensures.1 inside))

pub returns : goal.returns
returns c = record {
  sure = record { layers_sure = c.requires.sure.layers_sure; pairs_sure = λ pair nowhere. absurd (omega (arith, nowhere.1)); rules_sure = c.requires.sure.rules_sure };
  items_sure = subst (λ firsts. AreSureItems c.args.t.now firsts c.args.cert.now.items) c.in_ok-conditions.ensures (c.in_default.ensures.first c.args.cert.now.rules c.in_ok-conditions.ensures);
  starts = c.if-not-is_in_item.ensures.0 refl;
}
