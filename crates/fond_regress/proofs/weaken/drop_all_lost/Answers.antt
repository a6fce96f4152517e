use Rattle.std.proofs.Common.{◌≡◌, ℕ, ◌<◌, subst, arith}
use Rattle.fond_rules.proofs.Literals.{literal_within}
use Rattle.fond_regress.proofs.weaken.drop_all_lost.Goals as goal

pub returns-clause-kept : goal.returns-clause-kept
returns-clause-kept c = λ atom sign is.
    let within = literal_within c.loop-atom.cube atom sign is in
    c.loop-atom.invariant.kept atom sign (omega (arith, within, c.loop-atom.invariant.weaker.long, c.len-atom-end.ensures.counted, c.loop-atom-test.false)) is
