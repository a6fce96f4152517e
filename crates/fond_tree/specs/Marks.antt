-- The tokens of a text, with the place where each begins and without it.
use Rattle.std.specs.Prelude.{ℕ, List, [], ◌∷◌, ◌++◌, map}
use Rattle.fond_text.specs.declared.place.Place.{Place}
use Rattle.fond_text.specs.Places.{place_after}
use Rattle.fond_tree.specs.Tokens.{Token, Context, Gap, context_after, begun_in}

-- a token, and the place of its first byte
pub record Mark : Type 0 where
  pub at : Place
  pub token : Token

-- a token that begins at this place
abbrev pub marked : Place → Token → Mark
marked place token = record { at = place; token = token }

-- the tokens of the rest of a text after these bytes, each where it begins
abbrev pub marks_after : Context → List ℕ → List ℕ → List Mark
marks_after context before [] = []
marks_after context before (b ∷ rest) =
    map (marked (place_after before)) (begun_in context (place_after before) b rest) ++ marks_after (context_after context b) (before ++ b ∷ []) rest

-- the tokens of a text, each where it begins
abbrev pub marks : List ℕ → List Mark
marks text = marks_after Gap [] text

-- tokens without the places where they begin
abbrev pub tokens_of : List Mark → List Token
tokens_of marks = map (λ mark. mark.token) marks

-- the tokens of a text
abbrev pub tokens : List ℕ → List Token
tokens text = tokens_of (marks text)
