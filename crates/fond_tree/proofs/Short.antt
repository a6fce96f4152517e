-- Each byte of a text begins at most one token.
use Rattle.std.proofs.Common.{ℕ, ◌≤◌, ◌==◌, ◌||◌, Bool, true, false, List, [], ◌∷◌, ◌++◌, map, length, take_while, if◌then◌else◌, sym, ap, ◌∙◌, arith}
use Rattle.std.proofs.lemmas.List.{length-append, length-map}
use Rattle.fond_text.specs.Bytes.{opening, closing, semicolon, is_blank, is_leaf_byte, lower}
use Rattle.fond_text.specs.Places.{place_after}
use Rattle.fond_text.specs.declared.code.TheConstants.{LONGEST_TEXT}
use Rattle.fond_text.specs.declared.place.Place.{Place}
use Rattle.fond_tree.specs.Marks.{marked, marks, marks_after}
use Rattle.fond_tree.specs.Spelling.{spelling, IsReadAs}
use Rattle.fond_tree.specs.Tokens.{Token, Opens, Closes, Names, Stray, Context, Gap, Leaf, Comment, context_after, begun, begun_in}
use Rattle.fond_tree.specs.declared.tree.Tree.{Tree}

one_of_these : (none opens closes leaf : Bool) (place : Place) (name : List ℕ) →
    length {A = Token} (if none then [] else if opens then Opens place ∷ [] else if closes then Closes ∷ [] else if leaf then Names place name ∷ [] else Stray ∷ []) ≤ 1
one_of_these true opens closes leaf place name = omega arith
one_of_these false true closes leaf place name = omega arith
one_of_these false false true leaf place name = omega arith
one_of_these false false false true place name = omega arith
one_of_these false false false false place name = omega arith

one_begun : (place : Place) (b : ℕ) (rest : List ℕ) → length (begun place b rest) ≤ 1
one_begun place b rest =
    one_of_these (is_blank b || b == semicolon) (b == opening) (b == closing) (is_leaf_byte b) place (map lower (take_while is_leaf_byte (b ∷ rest)))

one_begun_in : (context : Context) (place : Place) (b : ℕ) (rest : List ℕ) → length (begun_in context place b rest) ≤ 1
one_begun_in Gap place b rest = one_begun place b rest
one_begun_in Leaf place b rest = from (is_leaf_byte b) where
  from : (leaf : Bool) → length {A = Token} (if leaf then [] else begun place b rest) ≤ 1
  from true = omega arith
  from false = one_begun place b rest
one_begun_in Comment place b rest = omega arith

few_marks : (context : Context) (before text : List ℕ) → length (marks_after context before text) ≤ length text
few_marks context before [] = omega arith
few_marks context before (b ∷ rest) =
    let here = begun_in context (place_after before) b rest in
    let after = marks_after (context_after context b) (before ++ b ∷ []) rest in
    let one = one_begun_in context (place_after before) b rest in
    let few = few_marks (context_after context b) (before ++ b ∷ []) rest in
    omega (arith, length-append (map (marked (place_after before)) here) after, length-map here (marked (place_after before)), one, few)

-- a tree that is read from a text has no more tokens than a text may have bytes
pub short_if_read : (text : List ℕ) (tree : Tree) → IsReadAs text tree → length (spelling tree) ≤ LONGEST_TEXT
short_if_read text tree read =
    let same = sym (length-map (marks text) (λ mark. mark.token)) ∙ ap length read.spelled in
    omega (arith, same, few_marks Gap [] text, read.long)
