-- Whether a cube lies in another, as a test.
use Rattle.std.specs.Prelude.{◌&&◌, List, [], ◌∷◌, Bool, true, false, Option, Some, None}
use Rattle.fond_text.specs.Bools.{is_same}

-- whether there is a literal, and of this sign
abbrev pub is_sign : Option Bool → Bool → Bool
is_sign None sign = false
is_sign (Some known) sign = is_same known sign

-- whether an atom of which this is known has a literal, if there is one
abbrev pub allows : Option Bool → Option Bool → Bool
allows known None = true
allows known (Some sign) = is_sign known sign

-- whether a cube has each literal of another
abbrev pub cube_lies_in : List (Option Bool) → List (Option Bool) → Bool
cube_lies_in cube [] = true
cube_lies_in [] (literal ∷ other) = allows None literal && cube_lies_in [] other
cube_lies_in (known ∷ cube) (literal ∷ other) = allows known literal && cube_lies_in cube other
