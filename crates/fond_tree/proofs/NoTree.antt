-- A text that is read as a tree or a forest has no fault; a text in which something follows a tree has one.
use Rattle.std.proofs.Common.{◌≡◌, ℕ, ◌≤◌, ◌<◌, false, List, [], ◌∷◌, ◌++◌, length, refl, sym, ◌∙◌, ap, inl, inr, ◌⊎◌, arith, append-nil, subst}
use Rattle.std.proofs.lemmas.Bool.{true≢false}
use Rattle.fond_text.specs.Faults.{Refuses}
use Rattle.fond_text.specs.declared.code.TheConstants.{LONGEST_TEXT, DEEPEST, UNCLOSED, NO_TREE}
use Rattle.fond_text.specs.declared.fault.FrontError.{FrontError}
use Rattle.fond_text.specs.declared.fault.FrontError.TheVariants.{Refused, NoMemory}
use Rattle.fond_text.specs.declared.place.FileKind.{FileKind}
use Rattle.fond_text.specs.declared.place.Place.{Place}
use Rattle.fond_text.specs.Places.{place_after}
use Rattle.fond_tree.specs.Faults.{Shape, OneTree, Forest, opened, closed, AreRight, IsFaulty, IsWhole, LacksTree, IsTokenFault, IsEndFault, IsTextFault, IsFaultOf, IsForestFaultOf}
use Rattle.fond_tree.specs.Marks.{Mark, marks, tokens_of}
use Rattle.fond_tree.specs.Reading.{ReadsTree, IsFault, Stops}
use Rattle.fond_tree.specs.Spelling.{spelling, depth, IsReadAs, IsReadAsForest}
use Rattle.fond_tree.specs.Unique.{NoTreeHasAFault, NoForestHasAFault}
use Rattle.fond_tree.specs.declared.tree.Tree.{Tree}
use Rattle.fond_tree.proofs.Balanced.{tree_right, forest_right, front_balanced, fronts_balanced, front_some}
use Rattle.fond_tree.proofs.Members.{Along}
use Rattle.fond_tree.proofs.Right.{right_empty, empty_open}
use Rattle.fond_tree.proofs.Stopped.{ready_empty, ready_forest, token_fault}

-- the tokens of a tree are right, and nothing is open after them
front_right : (tree : Tree) (front : List Mark) → tokens_of front ≡ spelling tree → depth tree ≤ DEEPEST → AreRight OneTree front
front_right tree front spelled small = tree_right OneTree tree [] front false 0 (right_empty OneTree) (empty_open OneTree) (λ e. absurd (true≢false (sym e))) (omega (arith, small)) spelled

-- the tokens of a tree are a whole tree
front_whole : (tree : Tree) (front : List Mark) → tokens_of front ≡ spelling tree → IsWhole OneTree front
front_whole tree front spelled = (front_some tree front spelled, front_balanced tree front spelled)

-- a text that is not too long has no fault if its tokens are right, close what they open and lack no tree
no_fault : (shape : Shape) (text : List ℕ) (place : Place) (code : ℕ) → length text ≤ LONGEST_TEXT → AreRight shape (marks text) → opened (marks text) ≡ closed (marks text) → ¬ LacksTree shape (marks text) →
    ¬ IsTextFault shape text place code
no_fault shape text place code long right closes some fault = at_fault fault where
  unfinished : ((closed (marks text) < opened (marks text)) × (code ≡ UNCLOSED)) ⊎ (LacksTree shape (marks text) × (code ≡ NO_TREE)) → ⊥
  unfinished (inl h) = absurd (omega (arith, h.0, closes))
  unfinished (inr h) = some h.0

  in_text : IsTokenFault shape (marks text) place code ⊎ IsEndFault shape (marks text) (place_after text) place code → ⊥
  in_text (inl f) = right f.before f.item f.after code f.split f.has.1
  in_text (inr f) = unfinished f.unfinished

  at_fault : ¬ IsTextFault shape text place code
  at_fault (inl h) = absurd (omega (arith, h.0, long))
  at_fault (inr h) = in_text h.1

pub no_tree_has_a_fault_lem : NoTreeHasAFault
no_tree_has_a_fault_lem text tree place code read =
    no_fault OneTree text place code read.long (front_right tree (marks text) read.spelled read.deep) (front_balanced tree (marks text) read.spelled) (front_some tree (marks text) read.spelled)

pub no_forest_has_a_fault_lem : NoForestHasAFault
no_forest_has_a_fault_lem text trees place code read =
    no_fault Forest text place code read.long (forest_right trees (marks text) read.deep read.spelled) (fronts_balanced trees (marks text) read.spelled) (λ lacks. lacks)

-- a fault of a text is reported, and no tree is read from it
pub fault_of : (file : FileKind) (text : List ℕ) (place : Place) (code : ℕ) → IsTextFault OneTree text place code → IsFaultOf file text (record { file = file; place = place; code = code })
fault_of file text place code fault = (refl, fault, λ tree read. no_tree_has_a_fault_lem text tree place code read fault)

-- a fault of a text is reported, and no forest is read from it
pub forest_fault_of : (file : FileKind) (text : List ℕ) (place : Place) (code : ℕ) → IsTextFault Forest text place code → IsForestFaultOf file text (record { file = file; place = place; code = code })
forest_fault_of file text place code fault = (refl, fault, λ trees read. no_forest_has_a_fault_lem text trees place code read fault)

-- a fault at a token or at the end is one of the text
in_text : (shape : Shape) (text : List ℕ) (old : List Mark) (end place : Place) (code : ℕ) → length text ≤ LONGEST_TEXT → old ≡ marks text → end ≡ place_after text →
    IsFault shape old end place code → IsTextFault shape text place code
in_text shape text old end place code long e at fault = inr (long, subst (λ (p : Place). IsFault shape (marks text) p place code) at (subst (λ (ms : List Mark). IsFault shape ms end place code) e fault))

-- what stops the reading of the first tree is a fault of the text
pub text_stops : (file : FileKind) (text : List ℕ) (old : List Mark) (end : Place) (error : FrontError) → length text ≤ LONGEST_TEXT → old ≡ marks text → end ≡ place_after text →
    Refuses (Stops file DEEPEST old end) error → Refuses (IsFaultOf file text) error
text_stops file text old end (Refused fault) long e at stops = (stops.0, found, λ tree read. no_tree_has_a_fault_lem text tree fault.place fault.code read found) where
  found : IsTextFault OneTree text fault.place fault.code
  found = in_text OneTree text old end fault.place fault.code long e at (stops.1 OneTree [] (ready_empty OneTree))
text_stops file text old end NoMemory long e at stops = tt

-- what stops the reading of a further tree of a forest is a fault of the text
pub forest_stops : (file : FileKind) (text : List ℕ) (old now : List Mark) (trees : List Tree) (end : Place) (error : FrontError) → length text ≤ LONGEST_TEXT → old ≡ marks text → end ≡ place_after text →
    Along DEEPEST old trees now → Refuses (Stops file DEEPEST now end) error → Refuses (IsForestFaultOf file text) error
forest_stops file text old now trees end (Refused fault) long e at along stops = (stops.0, found, λ others read. no_forest_has_a_fault_lem text others fault.place fault.code read found) where
  found : IsTextFault Forest text fault.place fault.code
  found = in_text Forest text (along.front ++ now) end fault.place fault.code long (sym along.split ∙ e) at (stops.1 Forest along.front (ready_forest old now trees along))
forest_stops file text old now trees end NoMemory long e at along stops = tt

-- a text without a token lacks a tree
pub text_empty : (file : FileKind) (text : List ℕ) (old : List Mark) (place end : Place) → length text ≤ LONGEST_TEXT → old ≡ marks text → end ≡ place_after text → old ≡ [] → place ≡ end →
    IsFaultOf file text (record { file = file; place = place; code = NO_TREE })
text_empty file text old place end long e at none here = fault_of file text place NO_TREE (in_text OneTree text old end place NO_TREE long e at (inr (subst (λ (ms : List Mark). IsEndFault OneTree ms end place NO_TREE) (sym none) lacks))) where
  lacks : IsEndFault OneTree [] end place NO_TREE
  lacks = record { right = right_empty OneTree; unfinished = inr (refl, refl); place_is = here }

-- a token after the first tree is a fault of the text, if it is faulty after whole trees
pub after_stops : (file : FileKind) (text : List ℕ) (old now new : List Mark) (tree : Tree) (mark : Mark) (code : ℕ) → length text ≤ LONGEST_TEXT → old ≡ marks text → ReadsTree DEEPEST old tree now → now ≡ mark ∷ new →
    ((before : List Mark) → IsWhole OneTree before → IsFaulty OneTree before mark.token code) → IsFaultOf file text (record { file = file; place = mark.at; code = code })
after_stops file text old now new tree mark code long e read left faulty =
    fault_of file text mark.at code
    (in_text OneTree text (read.front ++ now) (place_after text) mark.at code long (sym read.split ∙ e) refl
    (token_fault OneTree read.front now new mark (place_after text) code left (front_right tree read.front read.spelled read.deep) (faulty read.front (front_whole tree read.front read.spelled))))

-- a text in which nothing is left after the first tree is read as that tree
pub text_read : (text : List ℕ) (old now : List Mark) (tree : Tree) → length text ≤ LONGEST_TEXT → old ≡ marks text → ReadsTree DEEPEST old tree now → now ≡ [] → IsReadAs text tree
text_read text old now tree long e read none = record {
  spelled = ap tokens_of (sym e ∙ read.split ∙ ap (λ ms. read.front ++ ms) none ∙ append-nil read.front) ∙ read.spelled;
  long = long;
  deep = read.deep;
}

-- a text in which nothing is left after some trees is read as these trees
pub forest_read : (text : List ℕ) (old now : List Mark) (trees : List Tree) → length text ≤ LONGEST_TEXT → old ≡ marks text → Along DEEPEST old trees now → now ≡ [] → IsReadAsForest text trees
forest_read text old now trees long e along none = record {
  spelled = ap tokens_of (sym e ∙ along.split ∙ ap (λ ms. along.front ++ ms) none ∙ append-nil along.front) ∙ along.spelled;
  long = long;
  deep = along.deep;
}
