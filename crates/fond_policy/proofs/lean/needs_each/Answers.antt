use Rattle.std.proofs.Common.{◌≡◌, ◌∙◌, refl, subst, ⊎_elim, arith, ◌<◌}
use Rattle.std.proofs.lemmas.Bool.{cases_lt, false≢true}
use Rattle.fond_policy.specs.Items.{NeedsLiteral}
use Rattle.fond_rules.proofs.Literals.{literal_within}
use Rattle.fond_policy.proofs.lean.needs_each.Goals as goal

pub returns-then-not-needs-clause-decides : goal.returns-then-not-needs-clause-decides
returns-then-not-needs-clause-decides g c = λ item has. (
  λ e. absurd (false≢true e),
  λ each. let spare = c.if-not-needs.ensures.spare refl item has in absurd (each c.loop-atom.atom spare.sign spare.has spare.sure),
)

pub loop-atom-preserved : goal.loop-atom-preserved
loop-atom-preserved g c =
    let task = c.args.t.now in
    let firsts = g.R.Firsts.firsts c.args.rules.now in
    let told = c.if-not-needs.ensures in
    let inv = c.loop-atom.invariant in
    let atom = c.loop-atom.atom in
    record {
      kept = told.same_cube ∙ inv.kept;
      long = told.same_length ∙ inv.long;
      needed = λ k item small has. ⊎_elim
          (λ lt. inv.needed k item lt has)
          (λ ge.
          let same : atom ≡ k = omega (arith, small, ge) in
          subst (λ n. NeedsLiteral task firsts c.args.items.now c.args.at item n) same (told.needed refl item has))
          (cases_lt k atom);
    }

pub returns-clause-decides : goal.returns-clause-decides
returns-clause-decides g c = λ item has. (
  λ e atom sign at.
      let below : atom < c.loop-atom.atom = omega (arith, literal_within item.cube atom sign at, c.requires.over c.args.at item has, c.loop-atom-test.false, c.len-atom-end.ensures) in
      c.loop-atom.invariant.needed atom item below has sign at,
  λ each. refl,
)
