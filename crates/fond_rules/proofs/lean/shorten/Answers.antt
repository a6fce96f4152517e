use Rattle.std.proofs.Common.{◌≡◌, ◌∙◌, sym, subst, ⊎_elim, arith}
use Rattle.std.proofs.lemmas.Bool.{cases_lt}
use Rattle.fond_rules.specs.Leans.{NeedsLiteral}
use Rattle.fond_rules.proofs.Literals.{needed_each, needs_still}
use Rattle.fond_rules.proofs.lean.shorten.Goals as goal

pub loop-atom-preserved : goal.loop-atom-preserved
loop-atom-preserved g c =
    let Passes = g.T.Test.passes c.args.test.now in
    let before = c.loop-atom.cond in
    let after = c.drop_spare.new.cond in
    let atom = c.loop-atom.atom in
    let inv = c.loop-atom.invariant in
    let told = c.drop_spare.ensures in
    record {
      long = told.long ∙ inv.long;
      image_long = told.same_length ∙ inv.image_long;
      lies = λ k sign is. inv.lies k sign (told.lies k sign is);
      passes = told.passes;
      needed = λ k small. ⊎_elim
          (λ lt. needs_still Passes before after k (g.met.T.Test.grows c.args.test.now) (sym told.long) told.lies (inv.needed k lt))
          (λ ge.
          let same : atom ≡ k = omega (arith, small, ge) in
          subst (λ n. NeedsLiteral Passes after n) same told.needed)
          (cases_lt k atom);
    }

pub returns-clause-lean : goal.returns-clause-lean
returns-clause-lean g c =
    let inv = c.loop-atom.invariant in
    record {
      passes = inv.passes;
      needed = needed_each (g.T.Test.passes c.args.test.now) c.loop-atom.cond (λ k small. inv.needed k (omega (arith, small, inv.long, c.loop-atom-test.false, c.len-atom-end.ensures.counted)));
    }
