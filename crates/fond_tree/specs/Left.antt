-- What is left of a text while it is read: its tokens, each where it begins, and the place of its end.
use Rattle.std.specs.Prelude.{◌≡◌, ◌≢◌, ℕ, ◌+◌, ◌*◌, ◌≤◌, ◌==◌, Bool, true, false, not, List, [], ◌∷◌, ◌++◌, Option, Some, None, length, map, if◌then◌else◌, ⊤}
use Rattle.fond_text.specs.Bytes.{line_feed, semicolon, is_blank, is_leaf_byte}
use Rattle.fond_text.specs.declared.code.TheConstants.{LONGEST_TEXT}
use Rattle.fond_text.specs.declared.place.Place.{Place}
use Rattle.fond_tree.specs.Marks.{Mark, marked}
use Rattle.fond_tree.specs.Tokens.{Closes, Context, context_after, begun_in}

-- the place that follows a byte at this place
abbrev pub next_place : ℕ → Place → Place
next_place b place =
    if b == line_feed then record { line = place.line + 1; column = 1 } else record { line = place.line; column = place.column + 1 }

-- the tokens of bytes of which the first is at this place, each where it begins
unfoldable pub marks_at : Context → Place → List ℕ → List Mark
marks_at context place [] = []
marks_at context place (b ∷ rest) = map (marked place) (begun_in context place b rest) ++ marks_at (context_after context b) (next_place b place) rest

-- the place that follows bytes of which the first is at this place
unfoldable pub end_at : Place → List ℕ → Place
end_at place [] = place
end_at place (b ∷ rest) = end_at (next_place b place) rest

-- whether the byte after this one is in a comment
abbrev pub goes_on : Bool → ℕ → Bool
goes_on true b = not (b == line_feed)
goes_on false b = b == semicolon

-- the lines and columns of a text that is left are small enough to be counted
pub record Fits (place : Place) (rest : List ℕ) : Type 0 where
  pub short : length rest ≤ LONGEST_TEXT
  pub lines : place.line + length rest ≤ 2 * LONGEST_TEXT
  pub columns : place.column + length rest ≤ 2 * LONGEST_TEXT

-- no gap goes on here
abbrev pub EndsGap : List ℕ → Type 0
EndsGap [] = ⊤
EndsGap (b ∷ rest) = (is_blank b ≡ false) × (b == semicolon ≡ false)

-- a leaf begins here
abbrev pub BeginsLeaf : List ℕ → Type 0
BeginsLeaf [] = ⊥
BeginsLeaf (b ∷ rest) = is_leaf_byte b ≡ true

-- the next token is no closing parenthesis
abbrev pub BeginsUnclosed : List Mark → Type 0
BeginsUnclosed [] = ⊤
BeginsUnclosed (mark ∷ more) = ¬ (mark.token ≡ Closes)

-- whether a closing parenthesis was next, and taken
abbrev pub TakesClosing : Bool → List Mark → List Mark → Type 0
TakesClosing true old new = (place : Place) × (old ≡ marked place Closes ∷ new)
TakesClosing false old new = (old ≡ new) × BeginsUnclosed old

-- nothing was left, and the end is here; or something is left
abbrev pub FindsEnd : Option Place → List Mark → Place → Type 0
FindsEnd (Some place) left end = (left ≡ []) × (place ≡ end)
FindsEnd None left end = left ≢ []
