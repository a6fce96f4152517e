-- What was read of the tokens that are left, or which fault stops the reading.
use Rattle.std.specs.Prelude.{◌≡◌, ◌⊎◌, ℕ, ◌+◌, ◌≤◌, List, [], ◌∷◌, ◌++◌}
use Rattle.std.specs.List.{flat_map, AllByRecursion}
use Rattle.fond_text.specs.declared.code.TheConstants.{DEEPEST}
use Rattle.fond_text.specs.declared.fault.Fault.{Fault}
use Rattle.fond_text.specs.declared.place.FileKind.{FileKind}
use Rattle.fond_text.specs.declared.place.Place.{Place}
use Rattle.fond_tree.specs.Faults.{Shape, opened, closed, IsWhole, AreRight, IsTokenFault, IsEndFault}
use Rattle.fond_tree.specs.Marks.{Mark, tokens_of}
use Rattle.fond_tree.specs.Spelling.{spelling, depth}
use Rattle.fond_tree.specs.Tokens.{Closes}
use Rattle.fond_tree.specs.declared.tree.Tree.{Tree}

-- none of these trees has more open parentheses at once
abbrev pub AreWithin : ℕ → List Tree → Type 0
AreWithin left trees = AllByRecursion (λ tree. depth tree ≤ left) trees

-- a tree was read: the first tokens spell it, and the rest are left
pub record ReadsTree (left : ℕ) (old : List Mark) (tree : Tree) (new : List Mark) : Type 0 where
  pub front : List Mark
  pub split : old ≡ front ++ new
  pub spelled : tokens_of front ≡ spelling tree
  pub deep : depth tree ≤ left

-- the trees before a closing parenthesis were read, and the tokens after it are left
pub record ReadsForest (left : ℕ) (old : List Mark) (trees : List Tree) (new : List Mark) : Type 0 where
  pub front : List Mark
  pub split : old ≡ front ++ new
  pub spelled : tokens_of front ≡ flat_map spelling trees ++ Closes ∷ []
  pub deep : AreWithin left trees

-- a tree may follow these tokens: none of them is faulty, this many more parentheses may be opened, and something may
-- follow the tokens
pub record IsReady (shape : Shape) (left : ℕ) (before : List Mark) : Type 0 where
  pub right : AreRight shape before
  pub counted : opened before + left ≡ closed before + DEEPEST
  pub unfinished : ¬ IsWhole shape before

-- a fault at a token or at the end
abbrev pub IsFault : Shape → List Mark → Place → Place → ℕ → Type 0
IsFault shape tokens end place code = IsTokenFault shape tokens place code ⊎ IsEndFault shape tokens end place code

-- a fault stops the reading of these tokens, whatever the text is to spell and whatever tokens come before them
abbrev pub Stops : FileKind → ℕ → List Mark → Place → Fault → Type 0
Stops file left old end fault = (fault.file ≡ file) × ((shape : Shape) (before : List Mark) → IsReady shape left before → IsFault shape (before ++ old) end fault.place fault.code)
