-- Files that describe a task are not refused.
use Rattle.std.proofs.Common.{inl, inr, ℕ}
use Rattle.fond_text.specs.declared.fault.Fault.{Fault}
use Rattle.fond_text.specs.declared.place.FileKind.{FileKind}
use Rattle.fond_text.specs.declared.place.FileKind.TheVariants.{Domain, Problem, Side}
use Rattle.fond_text.specs.declared.place.Place.{Place}
use Rattle.fond_ast.specs.declared.task.LiftedTask.{LiftedTask}
use Rattle.fond_tree.proofs.NoTree.{no_forest_has_a_fault_lem, no_tree_has_a_fault_lem}
use Rattle.fond_tree.proofs.OneTree.{one_forest_lem, one_tree_lem}
use Rattle.fond_front.specs.Tasks.{AreTreesOf, IsFirstFault, IsTaskOf, OccursInTexts, OccursInTrees}
use Rattle.fond_front.specs.declared.parse.Trees.{Trees}
use Rattle.fond_front.specs.Texts.{Texts}
use Rattle.fond_laws.proofs.OneTaskOfTexts.{one_files, texts_have_one_task_lem}
use Rattle.fond_laws.proofs.SameFiles.{same_form_faults, same_names_faults, same_side_faults}
use Rattle.fond_laws.proofs.SameGroundFaults.{same_ground_fault}
use Rattle.fond_commands.specs.Tasks.{Describe, IsRefusal}

module _ (texts : Texts) where
  -- texts that are read as trees have no fault as texts
  no_text_fault : (trees : Trees) → AreTreesOf texts trees → (file : FileKind) (place : Place) (code : ℕ) → ¬ OccursInTexts texts file place code
  no_text_fault trees read Domain place code = no_tree_has_a_fault_lem texts.domain trees.domain place code read.domain
  no_text_fault trees read Problem place code = no_tree_has_a_fault_lem texts.problem trees.problem place code read.problem
  no_text_fault trees read Side place code = no_forest_has_a_fault_lem texts.side trees.side.items place code read.side

  -- what are the trees of some texts has the faults of form that other trees of theirs have
  same_fault : (trees others : Trees) → AreTreesOf texts trees → AreTreesOf texts others → (file : FileKind) (place : Place) (code : ℕ) → OccursInTrees trees file place code → OccursInTrees others file place code
  same_fault trees others read also Domain place code occurs = (same_form_faults trees.domain others.domain (one_tree_lem texts.domain trees.domain others.domain read.domain.spelled also.domain.spelled) place code).0 occurs
  same_fault trees others read also Problem place code occurs = (same_form_faults trees.problem others.problem (one_tree_lem texts.problem trees.problem others.problem read.problem.spelled also.problem.spelled) place code).1 occurs
  same_fault trees others read also Side place code occurs =
      same_side_faults trees.side.items others.side.items (one_forest_lem texts.side trees.side.items others.side.items read.side.spelled also.side.spelled) place code occurs

  module _ (task : LiftedTask) (is : IsTaskOf texts task) where
    no_first_fault : (fault : Fault) → ¬ IsFirstFault texts fault
    no_first_fault fault (inl text) = no_text_fault is.read.trees is.read.read fault.file fault.place fault.code text.there
    no_first_fault fault (inr (inl form)) = is.read.clean fault.file fault.place fault.code (same_fault form.0 is.read.trees form.1 is.read.read fault.file fault.place fault.code form.2.there)
    no_first_fault fault (inr (inr name)) = is.clean fault.file fault.place fault.code (same_names_faults name.0 is.files (one_files texts name.0 is.files name.1 is.read) fault.file fault.place fault.code name.2.there)

-- texts that describe a task are not refused
pub not_refused : (texts : Texts) (task : LiftedTask) (fault : Fault) → Describe texts task → ¬ IsRefusal texts fault
not_refused texts task fault described (inl first) = no_first_fault texts task described.0 fault first
not_refused texts task fault described (inr large) = described.1 fault (same_ground_fault large.0 task fault (texts_have_one_task_lem texts large.0 task large.1 described.0) large.2)
