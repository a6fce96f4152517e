-- Values at the beginning of a text, and the rest of the text.
use Rattle.std.specs.Prelude.{◌≡◌, ◌≢◌, ℕ, ◌==◌, ◌&&◌, not, Bool, true, false, List, [], ◌∷◌, ◌++◌, Option, Some, None, IsTrue, codes, ⊤, if◌then◌else◌}
use Rattle.std.specs.List.{list_all}
use Rattle.fond_form.specs.Lines.{is_plain_byte, IsGroup, group_text, WrittenLiteral, AreProper, literal_text, literals_text}

-- a text is that of an atom or an action
abbrev pub IsGroupText : List ℕ → Type 0
IsGroupText text = (leaves : List (List ℕ)) × IsGroup leaves × (text ≡ group_text leaves)

-- a text begins with no atom or action
abbrev pub HasNoGroup : List ℕ → Type 0
HasNoGroup text = (leaves : List (List ℕ)) (rest : List ℕ) → IsGroup leaves → text ≢ group_text leaves ++ rest

-- the rest of a text after leaves and their closing parenthesis, if it begins with them; `is_open` tells that it begins inside a leaf
abbrev pub after_leaves : Bool → List ℕ → Option (List ℕ)
after_leaves is_open [] = None
after_leaves is_open (b ∷ rest) =
    if is_plain_byte b then after_leaves true rest
    else if is_open && b == 32 then after_leaves false rest
    else if is_open && b == 41 then Some rest
    else None

-- a text is that of literals
abbrev pub IsLiteralsText : List ℕ → Type 0
IsLiteralsText text = (literals : List WrittenLiteral) × AreProper literals × (text ≡ literals_text literals)

-- a text begins with no literal
abbrev pub HasNoLiteral : List ℕ → Type 0
HasNoLiteral text = (literal : WrittenLiteral) (rest : List ℕ) → IsGroup literal.leaves → text ≢ literal_text literal ++ rest

-- whether a byte may occur in a word: it is no space
abbrev pub is_in_word : ℕ → Bool
is_in_word b = not (b == 32)

-- a text is empty, or begins with a space
abbrev pub EndsWord : List ℕ → Type 0
EndsWord [] = ⊤
EndsWord (b ∷ rest) = b ≡ 32

-- a text is a word, which has no space and may be empty, followed by a rest that is empty or begins with a space
abbrev pub IsCut : List ℕ → List ℕ → List ℕ → Type 0
IsCut text word rest = (text ≡ word ++ rest) × IsTrue (list_all is_in_word word) × EndsWord rest

-- a text does not begin with a space and a word that passes a test
abbrev pub HasNoWord : (List ℕ → Bool) → List ℕ → Type 0
HasNoWord test text = (word rest : List ℕ) → IsTrue (test word) → EndsWord rest → text ≢ codes " " ++ (word ++ rest)
