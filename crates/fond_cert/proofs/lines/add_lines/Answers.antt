use Rattle.std.proofs.Common.{◌≡◌, true}
use Rattle.fond_cert.proofs.Wholes.{nothing_read, one_more_line, within_rest, line_fault, end_fault}
use Rattle.fond_cert.proofs.lines.add_lines.Goals as goal

pub loop-piece-init : goal.loop-piece-init
loop-piece-init c = nothing_read c.args.document c.args.index.now c.args.text.now c.args.draft.now c.requires

pub loop-piece-preserved : goal.loop-piece-preserved
loop-piece-preserved c =
    one_more_line c.args.document c.args.index.now c.args.text.now c.loop-piece.rest.now c.in-Some.piece.now c.in-Some.further.now c.loop-piece.due c.in-Ok.next c.loop-piece.draft c.take.new.draft
    c.loop-piece.invariant c.in-Some.ensures.1 c.in-Ok.ensures.taken

pub placed-requires-clause-line : goal.placed-requires-clause-line
placed-requires-clause-line c =
    within_rest c.args.index.now c.loop-piece.rest.now c.in-Some.piece.now c.in-Some.further.now c.loop-piece.due c.in-Err.error c.in-Some.ensures.1 c.in-Err.ensures.wrong

pub returns-in-Err-clause-refused : goal.returns-in-Err-clause-refused
returns-in-Err-clause-refused c =
    line_fault c.args.document c.args.index.now c.args.text.now c.loop-piece.rest.now c.in-Some.piece.now c.in-Some.further.now c.loop-piece.due c.loop-piece.draft c.in-Err.error c.placed.result
    c.loop-piece.invariant c.in-Some.ensures.0 c.in-Some.ensures.1 c.in-Err.ensures.wrong c.placed.ensures

pub returns-else-is_over-clause-refused : goal.returns-else-is_over-clause-refused
returns-else-is_over-clause-refused c =
    rw c.placed-else-is_over.ensures
    (end_fault c.args.document c.args.index.now c.args.text.now c.loop-piece.rest.now c.loop-piece.due c.loop-piece.draft c.loop-piece.invariant c.in_default.ensures
    (λ k. let over : c.is_over.result ≡ true = c.is_over.ensures.1 k in absurd (cc)))
