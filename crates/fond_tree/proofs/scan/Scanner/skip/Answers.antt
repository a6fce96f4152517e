use Rattle.std.proofs.Common.{◌≡◌, true, ◌⊎◌, inl, inr, ◌∙◌, sym}
use Rattle.fond_text.specs.Bytes.{is_blank}
use Rattle.fond_tree.proofs.Places.{goes_over, all_over, end_step}
use Rattle.fond_tree.proofs.scan.Scanner.skip.Goals as goal
use Rattle.fond_tree.proofs.scan.Scanner.skip.Goals.{else-not-in_comment-via-then-not-in_comment+else-not-is_blank, else-not-in_comment-via-else-not-in_comment}

pub loop-b-preserved : goal.loop-b-preserved
loop-b-preserved c =
    let gap : (c.goes_on-in_comment.result ≡ true) ⊎ (is_blank c.in-Some.b.now ≡ true) =
    elim c.else-not-in_comment.branch [
      | else-not-in_comment-via-then-not-in_comment+else-not-is_blank w ↦ inr (sym w.is_blank.ensures ∙ w.if-not-is_blank.false)
      | else-not-in_comment-via-else-not-in_comment w ↦ inl w.if-not-in_comment.false
    ] in
    record {
      same = goes_over c.loop-b.in_comment _ c.in-Some.b.now _ _ _ _ c.in-Some.rest.now c.in-Some.ensures.cases.0 c.goes_on-in_comment.ensures gap c.step.ensures.place c.step.ensures.rest
          ∙ c.loop-b.invariant.same;
      end = end_step _ _ c.in-Some.b.now _ c.in-Some.rest.now _ c.in-Some.ensures.cases.0 c.step.ensures.place c.step.ensures.rest ∙ c.loop-b.invariant.end;
    }

pub returns-clause-same : goal.returns-clause-same
returns-clause-same c = all_over c.loop-b.in_comment _ _ _ _ c.in_default.ensures.cases c.loop-b.invariant.same
