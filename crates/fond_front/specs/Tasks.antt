-- From the texts of a domain, a problem and a side list to their task, or to their first fault.
use Rattle.std.specs.Prelude.{◌⊎◌, ℕ}
use Rattle.fond_text.specs.declared.fault.Fault.{Fault}
use Rattle.fond_text.specs.declared.place.FileKind.{FileKind}
use Rattle.fond_text.specs.declared.place.FileKind.TheVariants.{Domain, Problem, Side}
use Rattle.fond_text.specs.declared.place.Place.{Place}
use Rattle.fond_text.specs.Faults.{AreClean, IsFirstAmong}
use Rattle.fond_ast.specs.declared.task.LiftedTask.{LiftedTask}
use Rattle.fond_tree.specs.Faults.{OneTree, Forest, IsTextFault}
use Rattle.fond_tree.specs.Spelling.{IsReadAs, IsReadAsForest}
use Rattle.fond_tree.specs.FormFaults.{StandsInDomain, StandsInProblem}
use Rattle.fond_reader.specs.Files.{IsDomainOf, IsProblemOf}
use Rattle.fond_reader.specs.Sides.{IsSideOf, StandsInSide}
use Rattle.fond_names.specs.Faults.{StandsInNames}
use Rattle.fond_names.specs.Names.{Declarations}
use Rattle.fond_types.specs.Resolves.{IsResolved}
use Rattle.fond_front.specs.declared.declare.Files.{Files}
use Rattle.fond_front.specs.declared.parse.Trees.{Trees}
use Rattle.fond_front.specs.Texts.{Texts}

-- a fault of its text occurs in a file: one of F1 to F6
abbrev pub OccursInTexts : Texts → FileKind → Place → ℕ → Type 0
OccursInTexts texts Domain = IsTextFault OneTree texts.domain
OccursInTexts texts Problem = IsTextFault OneTree texts.problem
OccursInTexts texts Side = IsTextFault Forest texts.side

-- a domain and a problem are each read as a tree, and a side list as a forest
pub record AreTreesOf (texts : Texts) (trees : Trees) : Type 0 where
  pub domain : IsReadAs texts.domain trees.domain
  pub problem : IsReadAs texts.problem trees.problem
  pub side : IsReadAsForest texts.side trees.side.items

-- a fault of its form occurs in a file: one of F7 to F12
abbrev pub OccursInTrees : Trees → FileKind → Place → ℕ → Type 0
OccursInTrees trees Domain = StandsInDomain trees.domain
OccursInTrees trees Problem = StandsInProblem trees.problem
OccursInTrees trees Side = StandsInSide trees.side.items

-- the declarations of three files, as names are resolved in them
abbrev pub declarations_of : Files → Declarations
declarations_of files = record { domain = files.domain; problem = files.problem; side = files.side }

-- three texts are read as declarations, by way of their trees, in which no fault of form occurs
pub record AreFilesOf (texts : Texts) (files : Declarations) : Type 0 where
  pub trees : Trees
  pub read : AreTreesOf texts trees
  pub clean : AreClean (OccursInTrees trees)
  pub domain : IsDomainOf trees.domain files.domain
  pub problem : IsProblemOf trees.problem files.problem
  pub side : IsSideOf trees.side.items files.side

-- three texts are read as a task: they are read as declarations that have no fault of names, and these as the task
pub record IsTaskOf (texts : Texts) (task : LiftedTask) : Type 0 where
  pub files : Declarations
  pub read : AreFilesOf texts files
  pub clean : AreClean (StandsInNames files)
  pub resolved : IsResolved files task

-- the first fault of three files: one of their texts, else of their forms, else of their names, and within a phase the
-- first by file, place and code
abbrev pub IsFirstFault : Texts → Fault → Type 0
IsFirstFault texts fault =
    IsFirstAmong (OccursInTexts texts) fault
    ⊎ ((trees : Trees) × AreTreesOf texts trees × IsFirstAmong (OccursInTrees trees) fault)
    ⊎ ((files : Declarations) × AreFilesOf texts files × IsFirstAmong (StandsInNames files) fault)
