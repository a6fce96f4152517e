use Rattle.std.proofs.Common.{List, Result, Ok, Err, OnOk}
use Rattle.std.proofs.lemmas.Result.{IfErr-weaker}
use Rattle.fond_ast.specs.declared.files.Side.{Side}
use Rattle.fond_text.specs.Faults.{IsClean, Refuses}
use Rattle.fond_text.specs.declared.fault.FrontError.{FrontError}
use Rattle.fond_tree.specs.declared.tree.Tree.{Tree}
use Rattle.fond_tree.specs.Spelling.{IsReadAsForest}
use Rattle.fond_reader.specs.Sides.{IsSideFault, StandsInSide}
use Rattle.fond_reader.proofs.SideNodes.{form_fault}
use Rattle.fond_reader.proofs.side.read_side.Goals as goal

pub returns-clause-refused : goal.returns-clause-refused
returns-clause-refused c =
    IfErr-weaker c.read_side_list.result _ (Refuses (IsSideFault c.args.b.now)) (λ error refused. form_fault c.args.b.now c.in_ok-trees.trees.items c.in_ok-trees.ensures.ok error refused)
    (rw c.as_slice.ensures.value at c.read_side_list.ensures.refused)

pub returns-clause-clean : goal.returns-clause-clean
returns-clause-clean c =
    also _ (rw c.as_slice.ensures.value at c.read_side_list.ensures.clean)
  where
    also : (result : Result Side FrontError) → OnOk result (IsClean (StandsInSide c.in_ok-trees.trees.items)) → OnOk result ((trees : List Tree) × IsReadAsForest c.args.b.now trees × IsClean (StandsInSide trees))
    also (Ok side) clean = (c.in_ok-trees.trees.items, c.in_ok-trees.ensures.ok, clean)
    also (Err error) clean = tt
