-- The words of a script: its longest runs of bytes other than blanks, each with the position of its first byte.
use Rattle.std.specs.Prelude.{ℕ, ◌+◌, Bool, false, not, List, [], ◌∷◌, ◌++◌, take_while, if◌then◌else◌}
use Rattle.fond_text.specs.Bytes.{is_blank}

-- a word, with the byte at which it begins, counted from 0
pub record ScriptWord : Type 0 where
  pub at : ℕ
  pub bytes : List ℕ

-- the word that begins with this byte of a text, if one does: none begins at a blank or inside a word
abbrev pub begun : Bool → ℕ → ℕ → List ℕ → List ScriptWord
begun inside at b rest =
    if is_blank b then []
    else if inside then []
    else record { at = at; bytes = take_while (λ c. not (is_blank c)) (b ∷ rest) } ∷ []

-- the words that begin in the rest of a text after this many bytes, the last of which is in a word or not
abbrev pub words_after : Bool → ℕ → List ℕ → List ScriptWord
words_after inside at [] = []
words_after inside at (b ∷ rest) = begun inside at b rest ++ words_after (not (is_blank b)) (at + 1) rest

-- the words of a script
abbrev pub script_words : List ℕ → List ScriptWord
script_words text = words_after false 0 text
