use Rattle.std.proofs.Common.{◌<◌, ◌^◌, ℕ}
use Rattle.std.specs.Fmt.{decimal}
use Rattle.fond_form.specs.Lines.{is_number}
use Rattle.fond_form.proofs.Cuts.{number_no_space}
use Rattle.fond_cert.specs.Words.{number_code}
use Rattle.fond_cert.proofs.Words.{all_left, word_right, number_more, number_among, numbers_read}
use Rattle.fond_cert.proofs.target.numbers_at.Goals as goal

abbrev Small : ℕ → Type 0
Small number = number < 2 ^ 32

pub loop-inner-init : goal.loop-inner-init
loop-inner-init c = rw c.new-numbers.ensures (all_left is_number number_no_space (number_code (2 ^ 32)) decimal Small _ _ c.requires.spelled)

pub short_number-requires : goal.short_number-requires
short_number-requires c = word_right is_number number_no_space (number_code (2 ^ 32)) decimal Small _ _ _ _ _ _ _ c.loop-inner.invariant c.in-Some.ensures c.word.ensures

pub returns-in_default-short_number-clause-wrong : goal.returns-in_default-short_number-clause-wrong
returns-in_default-short_number-clause-wrong c task = number_among task _ _ _ _ _ _ _ c.loop-inner.invariant c.in-Some.ensures c.word.ensures c.in_default-short_number.ensures

pub loop-inner-preserved : goal.loop-inner-preserved
loop-inner-preserved c =
    let pushed = c.in_ok-push.ensures.ok in
    rw pushed (number_more _ _ _ _ _ _ _ _ c.loop-inner.invariant c.in-Some.ensures c.word.ensures c.in-Some-short_number.ensures)

pub returns-clause-read : goal.returns-clause-read
returns-clause-read c task = numbers_read task _ _ _ _ c.loop-inner.invariant c.in_default.ensures
