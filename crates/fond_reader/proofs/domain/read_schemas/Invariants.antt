use Rattle.std.proofs.Common.{drop, codes}
use Rattle.fond_reader.proofs.SchemasRead.{SchemasSoFar}
use Rattle.fond_reader.proofs.domain.read_schemas.Given as goal

-- the actions so far were read, and the sections that are left fit
abbrev pub invariant-loop-section : goal.invariant-loop-section
invariant-loop-section l = SchemasSoFar (codes ":action") l.sections (drop l.section-index l.sections) l.schemas
