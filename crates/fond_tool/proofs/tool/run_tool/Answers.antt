use Rattle.fond_commands.specs.Fetches.{Reads}
use Rattle.fond_tool.proofs.tool.run_tool.Goals as goal

pub returns-in-Ok-clause-ends : goal.returns-in-Ok-clause-ends
returns-in-Ok-clause-ends g c =
    let reads : Reads = record { held = g.S.Shelf.held c.args.shelf.now; before = g.S.Shelf.faults c.args.shelf.now; after = g.S.Shelf.faults c.answer.new.shelf } in
    c.send_answer.ensures.ends c.args.words.now reads c.in-Ok.ensures.answered

pub returns-in-Ok-clause-unwritten : goal.returns-in-Ok-clause-unwritten
returns-in-Ok-clause-unwritten g c = λ is. absurd (c.send_answer.ensures.took_no_memory is)
