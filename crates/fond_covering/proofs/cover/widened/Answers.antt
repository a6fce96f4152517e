use Rattle.std.proofs.Common.{sym, subst}
use Rattle.fond_policy.proofs.Ruled.{firsts_belong}
use Rattle.fond_policy.specs.Items.{AreLeanItems, Belong, firsts_of}
use Rattle.fond_covering.proofs.Certified.{lean_covering}
use Rattle.fond_covering.proofs.cover.widened.Goals as goal

pub widen-requires-clause-belong : goal.widen-requires-clause-belong
widen-requires-clause-belong c = subst (Belong c.args.t.now) (sym c.in_ok-conditions.ensures) (firsts_belong c.args.t.now c.args.rules.now c.requires.belong.belong)

pub returns : goal.returns
returns c =
    let task = c.args.t.now in
    let new = c.widen.new.items in
    let lean : AreLeanItems task (firsts_of c.args.rules.now) new = subst (λ firsts. AreLeanItems task firsts new) c.in_ok-conditions.ensures c.in_ok-widen.ensures.lean in
    lean_covering task c.args.rules.now c.requires.belong.few c.args.covering.items new c.args.covering.start c.requires.sure lean c.in_ok-widen.ensures.wider
