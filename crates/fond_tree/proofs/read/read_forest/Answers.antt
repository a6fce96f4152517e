-- What stops a further tree is a fault of the text.
use Rattle.std.proofs.Common.{◌∙◌, List, ap, arith, length, subst, sym}
use Rattle.fond_text.specs.declared.code.TheConstants.{DEEPEST}
use Rattle.fond_tree.specs.Scanning.{marks_left}
use Rattle.fond_tree.specs.declared.tree.Tree.{Tree}
use Rattle.fond_tree.proofs.Members.{Along, along_more, read_shortens}
use Rattle.fond_tree.proofs.NoTree.{forest_stops}
use Rattle.fond_tree.proofs.Stopped.{handed_on}
use Rattle.fond_tree.proofs.read.read_forest.Goals as goal

pub returns-in_err-read_next-clause-refused : goal.returns-in_err-read_next-clause-refused
returns-in_err-read_next-clause-refused c =
    let along = subst (Along DEEPEST (marks_left c.new-scanner.result) c.loop-scanner.trees.items) (sym c.end.ensures.same) c.loop-scanner.invariant.along in
    handed_on _ _ _ c.from_residual.ensures.1
    (forest_stops _ _ _ _ _ _ _ c.if-b-gt-LONGEST_TEXT.false c.new-scanner.ensures.tokens (c.end.ensures.end ∙ c.loop-scanner.invariant.end ∙ c.new-scanner.ensures.end) along c.in_err-read_next.ensures.err)

pub loop-scanner-smaller : goal.loop-scanner-smaller
loop-scanner-smaller c = omega (arith, ap length c.end.ensures.same, read_shortens _ _ _ _ c.in_ok-read_next.ensures.ok)

pub loop-scanner-preserved : goal.loop-scanner-preserved
loop-scanner-preserved c =
    let along = subst (Along DEEPEST (marks_left c.new-scanner.result) c.loop-scanner.trees.items) (sym c.end.ensures.same) c.loop-scanner.invariant.along in
    record {
      along = subst (λ trees. Along DEEPEST (marks_left c.new-scanner.result) trees (marks_left c.read_next.new.scanner)) (sym {A = List Tree} c.in_ok-push.ensures.items)
          (along_more _ _ _ _ _ _ along c.in_ok-read_next.ensures.ok);
      end = c.in_ok-read_next.ensures.end ∙ c.end.ensures.end ∙ c.loop-scanner.invariant.end;
    }
