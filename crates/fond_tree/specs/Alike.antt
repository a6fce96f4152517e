-- Trees with the same places and the same names, node by node and leaf by leaf.
use Rattle.std.specs.Prelude.{◌≡◌, ℕ, List, ⊤}
use Rattle.std.specs.List.{AllZip}
use Rattle.fond_tree.specs.Spelling.{Spells, SpellsForest}
use Rattle.fond_tree.specs.declared.tree.Tree.{Tree, Leaf, Node', Row_of-Tree, end_of-Tree, more_of-Tree}

-- two leaves are alike by place and name, and two nodes by place and member by member
abbrev mutual
  pub IsAlike : Tree → Tree → Type 0
  IsAlike (Leaf place name) (Leaf at other) = (place ≡ at) × (name ≡ other)
  IsAlike (Leaf place name) (Node' at form others) = ⊥
  IsAlike (Node' place shape members) (Leaf at other) = ⊥
  IsAlike (Node' place shape members) (Node' at form others) = (place ≡ at) × AreAlike members others

  pub AreAlike : {m n : _} → Row_of-Tree m → Row_of-Tree n → Type 0
  AreAlike end_of-Tree end_of-Tree = ⊤
  AreAlike end_of-Tree (more_of-Tree other others) = ⊥
  AreAlike (more_of-Tree tree rest) end_of-Tree = ⊥
  AreAlike (more_of-Tree tree rest) (more_of-Tree other others) = IsAlike tree other × AreAlike rest others

-- a text spells one tree
abbrev pub EachTextSpellsOneTree : Type 0
EachTextSpellsOneTree = (text : List ℕ) (tree other : Tree) → Spells text tree → Spells text other → IsAlike tree other

-- a text spells one forest
abbrev pub EachTextSpellsOneForest : Type 0
EachTextSpellsOneForest = (text : List ℕ) (trees others : List Tree) → SpellsForest text trees → SpellsForest text others → AllZip IsAlike trees others
