use Rattle.std.proofs.Common.{◌∙◌, ℕ, List, length, ap, subst}
use Rattle.std.proofs.lemmas.List.{length-replicate}
use Rattle.fond_lasso.specs.Ordered.{AreNamed}
use Rattle.fond_lasso.proofs.Naming.{both_named}
use Rattle.fond_lasso.proofs.order.rename.Goals as goal

pub returns : goal.returns
returns c =
    let table = c.names-2.new.self.table.items in
    let mid = c.names.new.self.used.items in
    let stem = c.in_ok-stem.stem.items in
    let start = ap length (c.in_ok-vec.ensures.items_if_clones_equal (λ y is. is)) ∙ length-replicate {A = ℕ} c.args.count 0 in
    let P : List ℕ → Type 0 = λ old. AreNamed old c.args.stem.now stem mid in
    let first = subst P c.new.ensures.items c.in_ok-stem.ensures.named in
    both_named c.args.count table c.args.stem.now c.args.cycle.now mid c.names-2.new.self.used.items stem c.in_ok-cycle.cycle.items (c.in_ok-cycle.ensures.long ∙ c.in_ok-stem.ensures.long ∙ start) c.in_ok-cycle.ensures.naming first c.in_ok-cycle.ensures.named
