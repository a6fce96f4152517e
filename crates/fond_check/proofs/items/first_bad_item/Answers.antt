use Rattle.std.proofs.Common.{sym, subst, arith}
use Rattle.std.proofs.lemmas.Bool.{false≢true}
use Rattle.fond_policy.specs.Items.{IsSureItem}
use Rattle.fond_policy.proofs.Beginning.{Before, before_all, element_at}
use Rattle.fond_check.proofs.items.first_bad_item.Goals as goal

pub returns-then-not-sure_item-clause-first : goal.returns-then-not-sure_item-clause-first
returns-then-not-sure_item-clause-first c = λ rules same.
    let task = c.args.t.now in
    let items = c.args.items.now in
    let there = element_at items c.loop-at.at (omega arith) in
    record {
      item = there.0;
      has_item = there.1;
      bad = λ sure. false≢true ((c.if-not-sure_item.ensures.decides there.0 there.1).1 (subst (λ firsts. IsSureItem task firsts items there.0) (sym same) sure));
      first = subst (λ firsts. Before items (λ n item. IsSureItem task firsts items item) c.loop-at.at) same c.loop-at.invariant.sure;
    }

pub returns-clause-first : goal.returns-clause-first
returns-clause-first c = λ rules same.
    let items = c.args.items.now in
    before_all items (λ n item. IsSureItem c.args.t.now c.args.conditions.now items item) c.loop-at.at (omega arith) c.loop-at.invariant.sure
