-- The declarations of three files that are indexed.
use Rattle.fond_names.specs.Names.{Declarations}
use Rattle.fond_names.specs.declared.files.Files.{Files}

-- the declarations of the files
abbrev pub declarations_of : Files → Declarations
declarations_of files = record { domain = files.domain.now; problem = files.problem.now; side = files.side.now }
