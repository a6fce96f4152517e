-- Laws of trees and their declarations.
use Rattle.std.specs.Prelude.{◌↔◌, ◌≤◌, length}
use Rattle.fond_text.specs.declared.code.TheConstants.{LONGEST_TEXT}
use Rattle.fond_ast.specs.declared.files.Domain.{Domain}
use Rattle.fond_ast.specs.declared.files.Problem.{Problem}
use Rattle.fond_tree.specs.declared.tree.Tree.{Tree}
use Rattle.fond_tree.specs.Spelling.{spelling}
use Rattle.fond_tree.specs.FormFaults.{StandsInDomain, StandsInProblem}
use Rattle.fond_reader.specs.Files.{IsDomainOf, IsProblemOf}
use Rattle.fond_text.specs.Faults.{IsClean}

-- a tree of no more tokens than a text may have bytes has no fault as a domain if and only if some domain is read from it
abbrev pub CleanDomainsAreRead : Type 0
CleanDomainsAreRead = (tree : Tree) → length (spelling tree) ≤ LONGEST_TEXT → IsClean (StandsInDomain tree) ↔ ((domain : Domain) × IsDomainOf tree domain)

-- a tree of no more tokens than a text may have bytes has no fault as a problem if and only if some problem is read from it
abbrev pub CleanProblemsAreRead : Type 0
CleanProblemsAreRead = (tree : Tree) → length (spelling tree) ≤ LONGEST_TEXT → IsClean (StandsInProblem tree) ↔ ((problem : Problem) × IsProblemOf tree problem)
