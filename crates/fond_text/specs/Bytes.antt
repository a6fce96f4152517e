-- The bytes of a text: blanks, the bytes of leaves, and lowered letters.
use Rattle.std.specs.Prelude.{ℕ, ◌+◌, ◌==◌, nat_le, ◌&&◌, ◌||◌, not, Bool, if◌then◌else◌}

-- a line feed
abbrev pub line_feed : ℕ
line_feed = 10

-- an opening parenthesis
abbrev pub opening : ℕ
opening = 40

-- a closing parenthesis
abbrev pub closing : ℕ
closing = 41

-- the byte that starts a comment
abbrev pub semicolon : ℕ
semicolon = 59

-- a blank is one of the bytes 9 to 13 and 32
abbrev pub is_blank : ℕ → Bool
is_blank b = (nat_le 9 b && nat_le b 13) || b == 32

-- a leaf is made of the bytes 33 to 126 other than the parentheses and the semicolon
abbrev pub is_leaf_byte : ℕ → Bool
is_leaf_byte b = nat_le 33 b && nat_le b 126 && not (b == opening) && not (b == closing) && not (b == semicolon)

-- a letter from A to Z is lowered, and every other byte stays
abbrev pub lower : ℕ → ℕ
lower b = if nat_le 65 b && nat_le b 90 then b + 32 else b
