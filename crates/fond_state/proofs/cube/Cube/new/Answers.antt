use Rattle.std.proofs.Common.{◌≡◌, ◌∙◌, replicate, ap, rules}
use Rattle.fond_state.specs.Words.{literals_from, no_mask}
use Rattle.fond_state.proofs.Changed.{no_literals}
use Rattle.fond_state.proofs.cube.Cube.new.Goals as goal

pub returns : goal.returns
returns c =
    let none : c.in_ok-vec.field-0.items ≡ replicate c.word_count.result no_mask = search rules in
    ap (λ masks. literals_from masks 0 c.args.atoms) none ∙ no_literals c.word_count.result 0 c.args.atoms
