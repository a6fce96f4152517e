use Rattle.std.proofs.Common.{◌≡◌, sym, subst}
use Rattle.fond_policy.specs.Belongs.{Belongs}
use Rattle.fond_policy.specs.Sizes.{HasSmallNumbers}
use Rattle.fond_policy.specs.declared.cert.Cert.{Cert}
use Rattle.fond_cert.specs.Spellings.{spelling}
use Rattle.fond_cert.proofs.Wholes.{cert_read}
use Rattle.fond_cert.proofs.read.read_with.Goals as goal

pub returns-clause-belongs : goal.returns-clause-belongs
returns-clause-belongs c =
    let there = c.in_ok-draft.ensures.read in
    subst (λ cert. Belongs c.args.index.now cert) (sym c.finish.ensures) (cert_read c.args.index.now c.args.text.now c.in_ok-draft.draft there.0 there.1).0

pub returns-clause-read : goal.returns-clause-read
returns-clause-read c =
    let there = c.in_ok-draft.ensures.read in
    subst (λ (cert : Cert). c.args.text.now ≡ spelling c.args.index.now cert) (sym c.finish.ensures) (cert_read c.args.index.now c.args.text.now c.in_ok-draft.draft there.0 there.1).1

pub returns-clause-small : goal.returns-clause-small
returns-clause-small c =
    let there = c.in_ok-draft.ensures.read in
    subst HasSmallNumbers (sym c.finish.ensures) (cert_read c.args.index.now c.args.text.now c.in_ok-draft.draft there.0 there.1).2
