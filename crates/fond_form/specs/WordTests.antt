-- The tests of the kinds of words of which a line has several.
use Rattle.std.specs.Prelude.{ℕ, Bool, List}
use Rattle.fond_form.specs.declared.word.WordKind.{WordKind}
use Rattle.fond_form.specs.declared.word.WordKind.TheVariants.{Target, Number}
use Rattle.fond_form.specs.Lines.{is_number, is_target}

-- the test of a kind of words
abbrev pub test_of : WordKind → List ℕ → Bool
test_of Target word = is_target word
test_of Number word = is_number word
