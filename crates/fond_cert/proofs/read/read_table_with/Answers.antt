use Rattle.fond_cert.proofs.Wholes.{table_read}
use Rattle.fond_cert.proofs.read.read_table_with.Goals as goal

pub returns-clause-belongs : goal.returns-clause-belongs
returns-clause-belongs c =
    let there = c.in_ok-draft.ensures.read in
    (table_read c.args.index.now c.args.text.now c.in_ok-draft.draft there.0 there.1).0

pub returns-clause-read : goal.returns-clause-read
returns-clause-read c =
    let there = c.in_ok-draft.ensures.read in
    (table_read c.args.index.now c.args.text.now c.in_ok-draft.draft there.0 there.1).1
