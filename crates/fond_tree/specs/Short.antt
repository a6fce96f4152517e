-- The length of what trees spell.
use Rattle.std.specs.Prelude.{ℕ, ◌≤◌, List, length}
use Rattle.fond_text.specs.declared.code.TheConstants.{LONGEST_TEXT}
use Rattle.fond_tree.specs.declared.tree.Tree.{Tree}
use Rattle.fond_tree.specs.Spelling.{spelling, IsReadAs}

-- a tree that is read from a text has no more tokens than a text may have bytes
abbrev pub ReadTreesAreShort : Type 0
ReadTreesAreShort = (text : List ℕ) (tree : Tree) → IsReadAs text tree → length (spelling tree) ≤ LONGEST_TEXT
