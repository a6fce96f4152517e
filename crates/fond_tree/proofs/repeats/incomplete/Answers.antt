use Rattle.std.proofs.Common.{◌⊎◌, List, sym, subst}
use Rattle.std.specs.Prelude.{codes}
use Rattle.std.specs.Bool.{Decides}
use Rattle.fond_tree.specs.declared.tree.Tree.{Tree}
use Rattle.fond_tree.specs.FormFaults.{Lacks}
use Rattle.fond_tree.proofs.Incomplete.{incomplete_where_lacking}
use Rattle.fond_tree.proofs.repeats.incomplete.Goals as goal

pub returns-in-ProblemFile-Some : goal.returns-in-ProblemFile-Some
returns-in-ProblemFile-Some c =
    let at = c.in-ProblemFile-Some in
    let decides = subst (λ (ts : List Tree). Decides c.is_incomplete.result (Lacks (codes ":domain") ts ⊎ Lacks (codes ":goal") ts)) c.after_header.ensures c.is_incomplete.ensures in
    rw at.is-0
    (incomplete_where_lacking c.args.tree.now at.members.now (sym at.ensures) c.is_incomplete.result decides c.place.result c.place.ensures c.found_if.result c.found_if.ensures)
