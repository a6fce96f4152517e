use Rattle.std.proofs.Common.{◌≡◌, sym, subst}
use Rattle.fond_policy.specs.Belongs.{BelongsAsBest}
use Rattle.fond_policy.specs.declared.best.BestCert.{BestCert}
use Rattle.fond_cert.specs.Smalls.{HasSmallBest}
use Rattle.fond_cert.specs.Spellings.{best_spelling}
use Rattle.fond_cert.proofs.Wholes.{best_read}
use Rattle.fond_cert.proofs.read.read_best_with.Goals as goal

pub returns-clause-belongs : goal.returns-clause-belongs
returns-clause-belongs c =
    let there = c.in_ok-draft.ensures.read in
    subst (BelongsAsBest c.args.index.now) (sym c.finish_best.ensures) (best_read c.args.index.now c.args.text.now c.in_ok-draft.draft there.0 there.1).0

pub returns-clause-read : goal.returns-clause-read
returns-clause-read c =
    let there = c.in_ok-draft.ensures.read in
    subst (λ (cert : BestCert). c.args.text.now ≡ best_spelling c.args.index.now cert) (sym c.finish_best.ensures) (best_read c.args.index.now c.args.text.now c.in_ok-draft.draft there.0 there.1).1

pub returns-clause-small : goal.returns-clause-small
returns-clause-small c =
    let there = c.in_ok-draft.ensures.read in
    subst HasSmallBest (sym c.finish_best.ensures) (best_read c.args.index.now c.args.text.now c.in_ok-draft.draft there.0 there.1).2
