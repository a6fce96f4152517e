-- Leaves, and lowered leaves, which are called names here, whether or not the grammar reads them as names.
use Rattle.std.specs.Prelude.{◌≡◌, ℕ, ◌<◌, List, length, All, IsTrue}
use Rattle.fond_text.specs.Bytes.{is_leaf_byte, lower}

-- a leaf is not empty, and each of its bytes may occur in a leaf
abbrev pub IsLeaf : List ℕ → Type 0
IsLeaf bytes = (0 < length bytes) × All (λ b. IsTrue (is_leaf_byte b)) bytes

-- a name is a leaf without the letters A to Z
abbrev pub IsName : List ℕ → Type 0
IsName bytes = IsLeaf bytes × All (λ b. lower b ≡ b) bytes
