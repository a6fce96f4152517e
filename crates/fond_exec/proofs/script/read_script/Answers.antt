use Rattle.fond_exec.proofs.Left.{over_word}
use Rattle.fond_exec.proofs.script.read_script.Goals as goal

pub loop-further-preserved : goal.loop-further-preserved
loop-further-preserved c =
    over_word _ _ _ c.word_len-count.result c.split_at.result.0.now _ c.in-Some-number_of.number _ c.loop-further.invariant c.word_len-count.ensures c.if-count-eq0.false
    c.split_at.ensures.front c.split_at.ensures.back c.in-Some-number_of.ensures.some c.in_ok-push.ensures.items
