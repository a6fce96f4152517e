use Rattle.std.proofs.Common.{◌≡◌, arith}
use Rattle.fond_demo.proofs.Drawn.{goes_on, ended}
use Rattle.fond_demo.proofs.words.draw_words.Goals as goal

pub loop-preserved : goal.loop-preserved
loop-preserved c = goes_on _ c.loop.generator c.next_word.new.self c.loop.counter c.next_word.result c.loop.words.items c.push.new.self.items c.loop.invariant c.next_word.ensures c.in_ok-push.ensures.items

pub returns : goal.returns
returns c =
    let same : c.loop.counter ≡ c.args.count = omega (arith, c.loop-test.false, c.loop.auto.counter-end) in
    ended _ c.loop.generator c.loop.counter c.args.count c.loop.words.items c.loop.invariant same
