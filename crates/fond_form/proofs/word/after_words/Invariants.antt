use Rattle.std.proofs.Common.{◌≡◌, ℕ, List, ◌++◌, length}
use Rattle.fond_form.specs.Lines.{spaced, AreWords}
use Rattle.fond_form.specs.Parts.{EndsWord}
use Rattle.fond_form.specs.WordTests.{test_of}
use Rattle.fond_form.proofs.word.after_words.Given as goal

abbrev pub invariant-loop-next : goal.invariant-loop-next
invariant-loop-next l = record {
  cut : (words : List (List ℕ)) × AreWords (test_of l.kind) words × (l.text ≡ spaced words ++ l.rest);
  ends : EndsWord l.text → EndsWord l.rest;
}

abbrev pub decreases-loop-next : goal.decreases-loop-next
decreases-loop-next l = length l.rest
