use Rattle.std.proofs.Common.{◌≡◌, ◌∙◌, ◌+◌, ◌++◌, ◌∷◌, [], length, ap, arith}
use Rattle.std.specs.Prelude.{slice_index_or}
use Rattle.std.proofs.lemmas.List.{length_push}
use Rattle.fond_state.specs.Words.{truth_in}
use Rattle.fond_matrix.proofs.Bits.{get_or_more, truth_more}
use Rattle.fond_matrix.proofs.row.Row.widen.Goals as goal

pub loop-preserved : goal.loop-preserved
loop-preserved c =
    let words = c.loop.self-inside.words.items in
    let pushed : c.push.new.self.items ≡ words ++ 0 ∷ [] = c.in_ok-push.ensures.items in
    let long = ap length pushed ∙ length_push words 0 in
    record {
      counted = long ∙ ap (λ n. n + 1) c.loop.invariant.counted;
      grown = omega (arith, long, c.loop.invariant.grown);
      same = λ number. ap (λ ws. truth_in ws number) pushed ∙ truth_more words number ∙ c.loop.invariant.same number;
      clear = λ i lt. ap (λ ws. slice_index_or ws i 0) pushed ∙ get_or_more words 0 i ∙ c.loop.invariant.clear i lt;
    }
