use Rattle.fond_cert.proofs.lines.read_lines.Goals as goal

pub add_lines-requires : goal.add_lines-requires
add_lines-requires c = c.new-draft.ensures
