use Rattle.std.proofs.Common.{take}
use Rattle.std.specs.List.{flat_map}
use Rattle.fond_text.specs.Firsts.{IsFirst}
use Rattle.fond_names.specs.Faults.{OccursAmong}
use Rattle.fond_names.specs.Files.{declarations_of}
use Rattle.fond_names.specs.Sites.{schema_sites}
use Rattle.fond_names.proofs.sites.domain_site_fault.Given as goal

-- the fault is the first in the schemas so far
abbrev pub invariant-loop-i : goal.invariant-loop-i
invariant-loop-i l = IsFirst (OccursAmong (declarations_of l.files) (flat_map schema_sites (take l.i l.files.domain.now.schemas))) l.first
