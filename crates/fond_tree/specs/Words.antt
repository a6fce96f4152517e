-- Leaves: names, variables, keywords and reserved words, and nodes by their heads.
use Rattle.std.specs.Prelude.{ℕ, ◌==◌, ◌&&◌, Bool, false, not, List, [], ◌∷◌, Option, Some, None, codes}
use Rattle.std.specs.List.{list_any}
use Rattle.std.specs.Str.{bytes_eq}
use Rattle.fond_tree.specs.declared.tree.Tree.{Tree}
use Rattle.fond_tree.specs.Trees.{head_of}

-- the reserved words
abbrev pub reserved : List (List ℕ)
reserved =
    codes "and" ∷ codes "or" ∷ codes "not" ∷ codes "imply" ∷ codes "forall" ∷ codes "exists" ∷ codes "when" ∷ codes "oneof" ∷ codes "either" ∷ codes "=" ∷ codes "-" ∷ []

-- whether a leaf is one of these words
abbrev pub is_one_of : List (List ℕ) → List ℕ → Bool
is_one_of words leaf = list_any (bytes_eq leaf) words

-- whether a leaf begins with this byte
abbrev pub begins_with : ℕ → List ℕ → Bool
begins_with byte [] = false
begins_with byte (b ∷ bytes) = b == byte

-- a leaf that begins with a question mark is a variable
abbrev pub is_variable : List ℕ → Bool
is_variable leaf = begins_with 63 leaf

-- a leaf that begins with a colon is a keyword
abbrev pub is_keyword : List ℕ → Bool
is_keyword leaf = begins_with 58 leaf

-- every leaf that is no variable, no keyword and no reserved word is a name
abbrev pub is_name : List ℕ → Bool
is_name leaf = not (is_variable leaf) && not (is_keyword leaf) && not (is_one_of reserved leaf)

-- whether a leaf is this word
abbrev pub is_word : List ℕ → Option (List ℕ) → Bool
is_word word None = false
is_word word (Some leaf) = bytes_eq leaf word

-- whether a tree is a node with this head
abbrev pub has_head : List ℕ → Tree → Bool
has_head word tree = is_word word (head_of tree)
