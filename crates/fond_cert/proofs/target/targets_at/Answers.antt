use Rattle.fond_policy.specs.Sizes.{IsSmallTarget}
use Rattle.fond_form.specs.Lines.{is_target}
use Rattle.fond_form.proofs.Cuts.{target_no_space}
use Rattle.fond_cert.specs.Spellings.{target_word}
use Rattle.fond_cert.specs.Words.{target_code}
use Rattle.fond_cert.proofs.Words.{all_left, word_right, one_read, target_among, targets_read}
use Rattle.fond_cert.proofs.target.targets_at.Goals as goal

pub loop-inner-init : goal.loop-inner-init
loop-inner-init c = rw c.new-targets.ensures (all_left is_target target_no_space target_code target_word IsSmallTarget _ _ c.requires.spelled)

pub target-requires : goal.target-requires
target-requires c = word_right is_target target_no_space target_code target_word IsSmallTarget _ _ _ _ _ _ _ c.loop-inner.invariant c.in-Some.ensures c.word.ensures

pub returns-in_default-target-clause-wrong : goal.returns-in_default-target-clause-wrong
returns-in_default-target-clause-wrong c task = target_among task _ _ _ _ _ _ _ c.loop-inner.invariant c.in-Some.ensures c.word.ensures c.in_default-target.ensures

pub loop-inner-preserved : goal.loop-inner-preserved
loop-inner-preserved c =
    let pushed = c.in_ok-push.ensures.ok in
    let read = c.in-Some-target.ensures in
    rw pushed (one_read is_target target_no_space target_code target_word IsSmallTarget _ _ _ _ _ _ _ c.loop-inner.invariant c.in-Some.ensures c.word.ensures _ read.0 read.1 read.2)

pub returns-clause-read : goal.returns-clause-read
returns-clause-read c task = targets_read task _ _ _ _ c.loop-inner.invariant c.in_default.ensures
