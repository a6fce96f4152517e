use Rattle.std.proofs.Common.{inl, refl, sym}
use Rattle.fond_cert.proofs.Refusals.{handed_on}
use Rattle.fond_cert.proofs.Steps.{has_room}
use Rattle.fond_cert.proofs.Wholes.{not_allowed, line_refused}
use Rattle.fond_cert.proofs.lines.take.Goals as goal

pub returns-in_default-next_due-clause-wrong : goal.returns-in_default-next_due-clause-wrong
returns-in_default-next_due-clause-wrong c =
    inl (not_allowed c.args.due c.args.piece.now c.in-Some.kind c.in-Some.ensures (sym c.in_default-next_due.ensures), refl, refl)

pub add-requires-clause-room : goal.add-requires-clause-room
add-requires-clause-room c =
    rw c.taker.ensures
    (has_room c.requires.1.0 c.args.index.now c.args.due c.in-Some-next_due.next c.args.draft.now c.requires.1.1 c.in-Some.kind c.requires.1.2 c.requires.0 (sym c.in-Some-next_due.ensures))

pub returns-in_err-add-clause-wrong : goal.returns-in_err-add-clause-wrong
returns-in_err-add-clause-wrong c =
    handed_on _ _ _ c.from_residual.ensures.1 (line_refused c.args.index.now c.args.due c.in-Some-next_due.next c.args.piece.now c.in-Some.kind _ (sym c.in-Some-next_due.ensures) c.in_err-add.ensures.wrong)
