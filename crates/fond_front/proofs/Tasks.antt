-- The first fault of three files, by the first fault of one of them.
use Rattle.std.proofs.Common.{◌≡◌, ℕ, ◌<◌, ◌≤◌, ◌⊎◌, inl, inr, List, refl, sym, subst, arith, Result, Ok, Err, IfOk, OnOk, IfErr, IsErrAnd}
use Rattle.fond_text.specs.declared.fault.Fault.{Fault}
use Rattle.fond_text.specs.declared.fault.FrontError.{FrontError}
use Rattle.fond_text.specs.declared.fault.FrontError.TheVariants.{Refused, NoMemory}
use Rattle.fond_text.specs.declared.place.FileKind.{FileKind}
use Rattle.fond_text.specs.declared.place.FileKind.TheVariants.{Domain, Problem, Side}
use Rattle.fond_text.specs.declared.place.Place.{Place}
use Rattle.fond_text.specs.Faults.{file_number, AreClean, IsClean, IsLeastIn, IsNoLater, IsFirstAmong, Refuses}
use Rattle.fond_ast.specs.declared.task.LiftedTask.{LiftedTask}
use Rattle.fond_tree.proofs.OneFault.{one_fault_lem}
use Rattle.fond_tree.proofs.NoTree.{no_tree_has_a_fault_lem}
use Rattle.fond_tree.specs.declared.tree.Tree.{Tree}
use Rattle.fond_tree.specs.Faults.{Shape, OneTree, Forest, IsTextFault, IsFaultOf, IsForestFaultOf}
use Rattle.fond_tree.specs.Spelling.{IsReadAs}
use Rattle.fond_tree.specs.FormFaults.{StandsInDomain, StandsInProblem}
use Rattle.fond_names.specs.Faults.{StandsInNames}
use Rattle.fond_names.specs.Names.{Declarations}
use Rattle.fond_types.specs.Resolves.{IsResolved}
use Rattle.fond_front.specs.declared.parse.Trees.{Trees}
use Rattle.fond_front.specs.Texts.{Texts}
use Rattle.fond_reader.specs.Sides.{StandsInSide}
use Rattle.fond_front.specs.Tasks.{OccursInTexts, OccursInTrees, AreTreesOf, AreFilesOf, IsTaskOf, IsFirstFault}

-- no fault of form occurs in files, if none occurs in each
pub forms_clean : (trees : Trees) → IsClean (StandsInDomain trees.domain) → IsClean (StandsInProblem trees.problem) → IsClean (StandsInSide trees.side.items) → AreClean (OccursInTrees trees)
forms_clean trees domain problem side Domain = domain
forms_clean trees domain problem side Problem = problem
forms_clean trees domain problem side Side = side

-- an error that a call hands on refuses as it did
pub handed_on : {T : Type 0} (result : Result T FrontError) (error : FrontError) (holds : Fault → Type 0) → IsErrAnd result (λ e. e ≡ error) → Refuses holds error → IfErr result (Refuses holds)
handed_on (Ok x) error holds is h = tt
handed_on (Err e) error holds is h = subst (Refuses holds) (sym is) h

-- a refusal for one reason is one for another that the first implies
pub refuses_also : (P Q : Fault → Type 0) → ((fault : Fault) → P fault → Q fault) → (error : FrontError) → Refuses P error → Refuses Q error
refuses_also P Q gives (Refused fault) h = gives fault h
refuses_also P Q gives NoMemory h = tt

-- a fault of a text is its least one, since it is its only one
only_fault : (shape : Shape) (text : List ℕ) (fault : Fault) → IsTextFault shape text fault.place fault.code → (place : Place) (code : ℕ) → IsTextFault shape text place code →
    IsNoLater fault.place fault.code place code
only_fault shape text fault there place code also =
    let same = one_fault_lem shape text fault.place place fault.code code there also in
    let coded = same.1 in
    let low : fault.code ≤ code = omega (arith, coded) in
    inr (same.0, low)

-- the fault with which the text of a tree is refused is its least one
pub text_least : (file : FileKind) (text : List ℕ) (error : FrontError) → Refuses (IsFaultOf file text) error → Refuses (IsLeastIn file (IsTextFault OneTree text)) error
text_least file text (Refused fault) h = (h.0, (h.1, only_fault OneTree text fault h.1))
text_least file text NoMemory h = tt

-- the fault with which the text of a forest is refused is its least one
pub forest_least : (file : FileKind) (text : List ℕ) (error : FrontError) → Refuses (IsForestFaultOf file text) error → Refuses (IsLeastIn file (IsTextFault Forest text)) error
forest_least file text (Refused fault) h = (h.0, (h.1, only_fault Forest text fault h.1))
forest_least file text NoMemory h = tt

-- a text that is read as a tree has no fault
pub text_clean : (text : List ℕ) (tree : Tree) → IsReadAs text tree → IsClean (IsTextFault OneTree text)
text_clean text tree read = λ place code fault. no_tree_has_a_fault_lem text tree place code read fault

module _ (occurs : FileKind → Place → ℕ → Type 0) (fault : Fault) where
  -- a fault of a file is the first one if each fault is one of a later file, or no earlier one of this file
  first_of : (kind : FileKind) → fault.file ≡ kind → occurs kind fault.place fault.code →
      ((file : FileKind) (place : Place) (code : ℕ) → occurs file place code → (file_number kind < file_number file) ⊎ ((file ≡ kind) × IsNoLater fault.place fault.code place code)) →
      IsFirstAmong occurs fault
  first_of kind is there first = record {
    there = subst (λ (file : FileKind). occurs file fault.place fault.code) (sym is) there;
    first =
        subst
        (λ (one : FileKind). (file : FileKind) (place : Place) (code : ℕ) → occurs file place code → (file_number one < file_number file) ⊎ ((file ≡ one) × IsNoLater fault.place fault.code place code))
        (sym is) first;
  }

  -- the least fault of the domain is the first one
  pub domain_first : IsLeastIn Domain (occurs Domain) fault → IsFirstAmong occurs fault
  domain_first h = first_of Domain h.0 h.1.0 first
    where
      first : (file : FileKind) (place : Place) (code : ℕ) → occurs file place code → (file_number Domain < file_number file) ⊎ ((file ≡ Domain) × IsNoLater fault.place fault.code place code)
      first Domain place code there = inr (refl, h.1.1 place code there)
      first Problem place code there = inl (omega arith)
      first Side place code there = inl (omega arith)

  -- the least fault of the problem is the first one if the domain has none
  pub problem_first : IsClean (occurs Domain) → IsLeastIn Problem (occurs Problem) fault → IsFirstAmong occurs fault
  problem_first domain h = first_of Problem h.0 h.1.0 first
    where
      first : (file : FileKind) (place : Place) (code : ℕ) → occurs file place code → (file_number Problem < file_number file) ⊎ ((file ≡ Problem) × IsNoLater fault.place fault.code place code)
      first Domain place code there = absurd (domain place code there)
      first Problem place code there = inr (refl, h.1.1 place code there)
      first Side place code there = inl (omega arith)

  -- the least fault of the side list is the first one if the domain and the problem have none
  pub side_first : IsClean (occurs Domain) → IsClean (occurs Problem) → IsLeastIn Side (occurs Side) fault → IsFirstAmong occurs fault
  side_first domain problem h = first_of Side h.0 h.1.0 first
    where
      first : (file : FileKind) (place : Place) (code : ℕ) → occurs file place code → (file_number Side < file_number file) ⊎ ((file ≡ Side) × IsNoLater fault.place fault.code place code)
      first Domain place code there = absurd (domain place code there)
      first Problem place code there = absurd (problem place code there)
      first Side place code there = inr (refl, h.1.1 place code there)

-- the first fault of a phase is that of the task
module _ (texts : Texts) where
  pub text_fault : (error : FrontError) → Refuses (IsFirstAmong (OccursInTexts texts)) error → Refuses (IsFirstFault texts) error
  text_fault = refuses_also _ (IsFirstFault texts) (λ fault first. inl first)

  pub form_fault : (trees : Trees) → AreTreesOf texts trees → (error : FrontError) → Refuses (IsFirstAmong (OccursInTrees trees)) error → Refuses (IsFirstFault texts) error
  form_fault trees are = refuses_also _ (IsFirstFault texts) (λ fault first. inr (inl (trees, are, first)))

  pub names_fault : (files : Declarations) → AreFilesOf texts files → (error : FrontError) → Refuses (IsFirstAmong (StandsInNames files)) error → Refuses (IsFirstFault texts) error
  names_fault files are (Refused fault) first = inr (inr (files, are, first))
  names_fault files are NoMemory first = tt

  -- the task of declarations that have no fault
  pub task_read : (files : Declarations) → AreFilesOf texts files → (result : Result LiftedTask FrontError) → OnOk result (AreClean (StandsInNames files)) → IfOk result (IsResolved files) → IfOk result (IsTaskOf texts)
  task_read files are (Ok task) clean resolved = record { files = files; read = are; clean = clean; resolved = resolved }
  task_read files are (Err error) clean resolved = tt
