-- The values in the lines of a certificate or a table as they are written, whether or not the task has what they name.
use Rattle.std.specs.Prelude.{ℕ, ◌<◌, ◌&&◌, ◌||◌, ◌==◌, nat_le, Bool, true, false, not, List, [], ◌∷◌, ◌++◌, All, length, IsTrue, codes}
use Rattle.std.specs.Char.{is_ascii_digit}
use Rattle.std.specs.List.{flat_map, list_all}
use Rattle.std.specs.Str.{bytes_eq}
use Rattle.fond_text.specs.Bytes.{is_leaf_byte}

-- whether a byte may occur in a leaf of a certificate or a table, which has no capitals
abbrev pub is_plain_byte : ℕ → Bool
is_plain_byte b = is_leaf_byte b && not (nat_le 65 b && nat_le b 90)

-- a leaf of a certificate or a table has a byte, and all its bytes may occur in leaves
abbrev pub IsPlainLeaf : List ℕ → Type 0
IsPlainLeaf leaf = (0 < length leaf) × IsTrue (list_all is_plain_byte leaf)

-- an atom or an action as it is written: at least one leaf
abbrev pub IsGroup : List (List ℕ) → Type 0
IsGroup leaves = (0 < length leaves) × All IsPlainLeaf leaves

-- texts with a space before each
abbrev pub spaced : List (List ℕ) → List ℕ
spaced texts = flat_map (λ text. codes " " ++ text) texts

-- leaves between parentheses, separated by single spaces
abbrev pub group_text : List (List ℕ) → List ℕ
group_text [] = codes "()"
group_text (leaf ∷ leaves) = codes "(" ++ (leaf ++ (spaced leaves ++ codes ")"))

-- whether a text is that of a number: digits, the first of which is 0 only if it is the only one
abbrev pub is_number : List ℕ → Bool
is_number [] = false
is_number (b ∷ rest) = is_ascii_digit b && (not (b == 48) || length rest == 0) && list_all is_ascii_digit rest

-- whether a text is that of a target: the word `goal`, or a number
abbrev pub is_target : List ℕ → Bool
is_target word = bytes_eq word (codes "goal") || is_number word

-- words all pass a test
abbrev pub AreWords : (List ℕ → Bool) → List (List ℕ) → Type 0
AreWords test words = All (λ word. IsTrue (test word)) words

-- a literal as it is written: its sign and its atom
pub record WrittenLiteral : Type 0 where
  pub sign : Bool
  pub leaves : List (List ℕ)

-- the text of a sign
abbrev pub sign_text : Bool → List ℕ
sign_text true = codes "+"
sign_text false = codes "-"

-- a literal is a space, a sign and an atom
abbrev pub literal_text : WrittenLiteral → List ℕ
literal_text literal = codes " " ++ (sign_text literal.sign ++ group_text literal.leaves)

-- the text of literals
abbrev pub literals_text : List WrittenLiteral → List ℕ
literals_text literals = flat_map literal_text literals

-- the atoms of literals are groups of plain leaves
abbrev pub AreProper : List WrittenLiteral → Type 0
AreProper literals = All (λ literal. IsGroup literal.leaves) literals
