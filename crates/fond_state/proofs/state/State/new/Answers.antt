use Rattle.std.proofs.Common.{◌≡◌, ◌∙◌, replicate, ap, rules}
use Rattle.fond_state.specs.Words.{truths_from}
use Rattle.fond_state.proofs.Changed.{all_false}
use Rattle.fond_state.proofs.state.State.new.Goals as goal

pub returns : goal.returns
returns c =
    let none : c.in_ok-vec.field-0.items ≡ replicate c.word_count.result 0 = search rules in
    ap (λ words. truths_from words 0 c.args.atoms) none ∙ all_false c.word_count.result 0 c.args.atoms
