use Rattle.fond_form.proofs.Cuts.{words_more}
use Rattle.fond_form.proofs.word.after_words.Goals as goal

pub loop-next-preserved : goal.loop-next-preserved
loop-next-preserved c = record {
  cut = words_more _ _ _ _ c.loop-next.invariant.cut c.in-Some.ensures;
  ends = λ h. c.in-Some.ensures.2;
}
