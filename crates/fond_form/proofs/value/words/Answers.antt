use Rattle.std.proofs.Common.{refl}
use Rattle.fond_form.specs.WordTests.{test_of}
use Rattle.fond_form.proofs.Values.{no_words, words_found}
use Rattle.fond_form.proofs.value.words.Goals as goal

pub returns-then-rest-text : goal.returns-then-rest-text
returns-then-rest-text c =
    let found = c.after_words-rest.ensures in
    no_words (test_of c.args.kind) _ _ found.cut found.ended c.if-rest-text.true

pub returns : goal.returns
returns c =
    let found = c.after_words-rest.ensures in
    words_found (test_of c.args.kind) _ _ _ _ _ found.cut found.ended found.ends c.if-rest-text.false refl c.split_at.ensures.front c.split_at.ensures.back
