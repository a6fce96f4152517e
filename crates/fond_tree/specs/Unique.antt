-- The laws of a text's faults.
use Rattle.std.specs.Prelude.{◌≡◌, ℕ, List}
use Rattle.fond_text.specs.declared.place.Place.{Place}
use Rattle.fond_tree.specs.declared.tree.Tree.{Tree}
use Rattle.fond_tree.specs.Faults.{Shape, OneTree, Forest, IsTextFault}
use Rattle.fond_tree.specs.Spelling.{IsReadAs, IsReadAsForest}

-- a text that is read as a tree has no fault as the text of a tree
abbrev pub NoTreeHasAFault : Type 0
NoTreeHasAFault = (text : List ℕ) (tree : Tree) (place : Place) (code : ℕ) → IsReadAs text tree → ¬ IsTextFault OneTree text place code

-- a text that is read as a forest has no fault as the text of a forest
abbrev pub NoForestHasAFault : Type 0
NoForestHasAFault = (text : List ℕ) (trees : List Tree) (place : Place) (code : ℕ) → IsReadAsForest text trees → ¬ IsTextFault Forest text place code

-- a text has at most one fault as a text
abbrev pub EachTextHasOneFault : Type 0
EachTextHasOneFault =
    (shape : Shape) (text : List ℕ) (place other : Place) (code number : ℕ) → IsTextFault shape text place code → IsTextFault shape text other number
    → (place ≡ other) × (code ≡ number)
