-- The tokens of a text: parentheses, leaves with their letters lowered, and bytes that are allowed in comments only.
use Rattle.std.specs.Prelude.{ℕ, ◌==◌, ◌||◌, List, [], ◌∷◌, map, take_while, if◌then◌else◌}
use Rattle.fond_text.specs.declared.place.Place.{Place}
use Rattle.fond_text.specs.Bytes.{line_feed, opening, closing, semicolon, is_blank, is_leaf_byte, lower}

-- a token is an opening parenthesis, a closing one, a leaf or a stray byte
pub data Token : Type 0 where
  Opens : (at : Place) → Token
  Closes : Token
  Names : (at : Place) (bytes : List ℕ) → Token
  Stray : Token

-- a byte follows a gap between leaves and comments, a byte of a leaf, or a byte of a comment
pub data Context : Type 0 where
  Gap : Context
  Leaf : Context
  Comment : Context

-- the context of the byte after this one: a semicolon starts a comment, which ends at the next line feed
abbrev pub context_after : Context → ℕ → Context
context_after Gap b = if b == semicolon then Comment else if is_leaf_byte b then Leaf else Gap
context_after Leaf b = if b == semicolon then Comment else if is_leaf_byte b then Leaf else Gap
context_after Comment b = if b == line_feed then Gap else Comment

-- the token that begins at this byte, which is at this place, before these bytes: a leaf is the longest run of its
-- bytes, and no token begins at a blank or a semicolon
abbrev pub begun : Place → ℕ → List ℕ → List Token
begun place b rest =
    if is_blank b || b == semicolon then []
    else if b == opening then Opens place ∷ []
    else if b == closing then Closes ∷ []
    else if is_leaf_byte b then Names place (map lower (take_while is_leaf_byte (b ∷ rest))) ∷ []
    else Stray ∷ []

-- the token that begins at a byte of this context: none begins in a comment, and none inside a leaf
abbrev pub begun_in : Context → Place → ℕ → List ℕ → List Token
begun_in Gap place b rest = begun place b rest
begun_in Leaf place b rest = if is_leaf_byte b then [] else begun place b rest
begun_in Comment place b rest = []
