-- Three texts are read as one task, up to addresses and capacities.
use Rattle.fond_tree.proofs.OneTree.{one_forest_lem, one_tree_lem}
use Rattle.fond_front.specs.Tasks.{AreFilesOf}
use Rattle.fond_front.specs.Texts.{Texts}
use Rattle.fond_names.specs.Names.{Declarations}
use Rattle.fond_laws.specs.Same.{TextsHaveOneTask}
use Rattle.fond_laws.specs.Read.{AreSameFiles}
use Rattle.fond_laws.proofs.OneReading.{one_domain, one_problem, one_side}
use Rattle.fond_laws.proofs.OneTask.{one_resolved}

-- three texts are read as one triple of files, up to addresses and capacities
pub one_files : (texts : Texts) (files others : Declarations) → AreFilesOf texts files → AreFilesOf texts others → AreSameFiles files others
one_files texts files others is also = record {
  domain = one_domain is.trees.domain also.trees.domain files.domain others.domain (one_tree_lem texts.domain is.trees.domain also.trees.domain is.read.domain.spelled also.read.domain.spelled) is.domain also.domain;
  problem = one_problem is.trees.problem also.trees.problem files.problem others.problem (one_tree_lem texts.problem is.trees.problem also.trees.problem is.read.problem.spelled also.read.problem.spelled) is.problem also.problem;
  side = one_side is.trees.side.items also.trees.side.items files.side others.side (one_forest_lem texts.side is.trees.side.items also.trees.side.items is.read.side.spelled also.read.side.spelled) is.side also.side;
}

-- three texts are read as one task, up to addresses and capacities
pub texts_have_one_task_lem : TextsHaveOneTask
texts_have_one_task_lem texts task other is also = one_resolved is.files also.files task other (one_files texts is.files also.files is.read also.read) is.resolved also.resolved
