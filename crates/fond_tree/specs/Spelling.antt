-- Which tree a text spells, and which trees are read.
use Rattle.std.specs.Prelude.{◌≡◌, ℕ, ◌+◌, ◌≤◌, List, [], ◌∷◌, ◌++◌, length, fold, max}
use Rattle.std.specs.List.{flat_map, AllByRecursion}
use Rattle.fond_text.specs.declared.code.TheConstants.{LONGEST_TEXT, DEEPEST}
use Rattle.fond_tree.specs.declared.tree.Tree.{Tree}
use Rattle.fond_tree.specs.declared.tree.Tree.TheOpen.{Tree-F, Leaf, Node}
use Rattle.fond_tree.specs.declared.tree.Tree.TheFolds.{fold-Tree}
use Rattle.fond_tree.specs.Marks.{tokens}
use Rattle.fond_tree.specs.Tokens.{Token, Opens, Closes, Names}

-- a leaf is spelled by its name, and a node by its members in order, between parentheses
abbrev pub spelling_step : Tree-F (List Token) → List Token
spelling_step (Leaf place name) = Names place name ∷ []
spelling_step (Node place members) = Opens place ∷ (flat_map (λ tokens. tokens) members.items ++ Closes ∷ [])

-- the tokens that spell a tree
abbrev pub spelling : Tree → List Token
spelling = fold-Tree (List Token) spelling_step

-- a leaf has depth 0, and a node 1 more than its deepest member
abbrev pub depth_step : Tree-F ℕ → ℕ
depth_step (Leaf place name) = 0
depth_step (Node place members) = 1 + fold max 0 members.items

-- the most parentheses that are open at once in a tree
abbrev pub depth : Tree → ℕ
depth = fold-Tree ℕ depth_step

-- a text spells a tree if its tokens are those of the tree
abbrev pub Spells : List ℕ → Tree → Type 0
Spells text tree = tokens text ≡ spelling tree

-- a text is read as the tree that it spells, if it is not too long and not nested too deep
pub record IsReadAs (text : List ℕ) (tree : Tree) : Type 0 where
  pub spelled : Spells text tree
  pub long : length text ≤ LONGEST_TEXT
  pub deep : depth tree ≤ DEEPEST

-- a text spells a forest if its tokens are those of the trees, one after the other
abbrev pub SpellsForest : List ℕ → List Tree → Type 0
SpellsForest text trees = tokens text ≡ flat_map spelling trees

-- a text is read as the forest that it spells, if it is not too long and no tree is nested too deep
pub record IsReadAsForest (text : List ℕ) (trees : List Tree) : Type 0 where
  pub spelled : SpellsForest text trees
  pub long : length text ≤ LONGEST_TEXT
  pub deep : AllByRecursion (λ tree. depth tree ≤ DEEPEST) trees
