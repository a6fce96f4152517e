-- What a scanner has left of its text, and what its next piece says of that.
use Rattle.std.specs.Prelude.{◌≡◌, List, [], ◌∷◌, map}
use Rattle.fond_text.specs.Bytes.{lower}
use Rattle.fond_text.specs.Name.{IsLeaf}
use Rattle.fond_text.specs.declared.place.Place.{Place}
use Rattle.fond_tree.specs.Left.{marks_at, end_at}
use Rattle.fond_tree.specs.Marks.{Mark, marked}
use Rattle.fond_tree.specs.Tokens.{Opens, Closes, Names, Stray, Gap}
use Rattle.fond_tree.specs.declared.scan.Scanner.{Scanner}
use Rattle.fond_tree.specs.declared.scan.Piece.{Piece}
use Rattle.fond_tree.specs.declared.scan.Piece.TheVariants as piece

-- the tokens that a scanner has left, each where it begins
abbrev pub marks_left : Scanner → List Mark
marks_left scanner = marks_at Gap scanner.place scanner.rest.now

-- the place that follows all that a scanner has left
abbrev pub end_left : Scanner → Place
end_left scanner = end_at scanner.place scanner.rest.now

-- a piece is the first of the old tokens, and the new ones are the rest; or it is the end, and there are none
abbrev pub Yields : Piece → List Mark → Place → List Mark → Type 0
Yields (piece.Open place) old end new = old ≡ marked place (Opens place) ∷ new
Yields (piece.Leaf place bytes) old end new = (old ≡ marked place (Names place (map lower bytes.now)) ∷ new) × IsLeaf bytes.now
Yields (piece.Close place) old end new = old ≡ marked place Closes ∷ new
Yields (piece.Stray place) old end new = old ≡ marked place Stray ∷ new
Yields (piece.End place) old end new = (old ≡ []) × (place ≡ end)
