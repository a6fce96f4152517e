use Rattle.std.proofs.Common.{◌≡◌, true, false, sym, ap, ◌∙◌}
use Rattle.fond_edge.specs.WriterLaws.{lost_by_failed}
use Rattle.fond_edge.proofs.Puts.{put_by_keeping, lost_in_flush, put_after_flush, passed, lost}
use Rattle.fond_edge.proofs.pen.Pen.put.Goals as goal

pub returns-then-self-clause-err : goal.returns-then-self-clause-err
returns-then-self-clause-err g c =
    let failed : c.args.self.now.failed ≡ true = sym (ap (λ pen. pen.failed) c.self.view_is) ∙ c.if-self.true in
    lost_by_failed _ _ c.args.self.now _ failed

pub returns-then-b-self-clause-ok : goal.returns-then-b-self-clause-ok
returns-then-b-self-clause-ok g c =
    let sound : c.args.self.now.failed ≡ false = sym (ap (λ pen. pen.failed) c.self.view_is) ∙ c.if-self.false in
    put_by_keeping _ _ c.args.self.now _ _ sound c.keep.ensures

pub returns-in_err-flush-clause-err : goal.returns-in_err-flush-clause-err
returns-in_err-flush-clause-err g c =
    let sound : c.args.self.now.failed ≡ false = sym (ap (λ pen. pen.failed) c.self.view_is) ∙ c.if-self.false in
    lost_in_flush _ _ _ _ _ c.args.self.now _ _ sound c.in_err-flush.ensures.part c.in_err-flush.ensures.rose c.in_err-flush.ensures.failed c.flush.ensures.counted

pub returns-then-b-le-SIZE-clause-ok : goal.returns-then-b-le-SIZE-clause-ok
returns-then-b-le-SIZE-clause-ok g c =
    let sound : c.args.self.now.failed ≡ false = sym (ap (λ pen. pen.failed) c.self.view_is) ∙ c.if-self.false in
    put_after_flush _ _ _ _ c.args.self.now c.flush.new.self _ _ sound c.in_ok-flush.ensures.ok c.flush.ensures.counted c.in_ok-flush.ensures.clear c.keep-then-b-le-SIZE.ensures

pub returns-clause-ok : goal.returns-clause-ok
returns-clause-ok g c =
    let sound : c.args.self.now.failed ≡ false = sym (ap (λ pen. pen.failed) c.self.view_is) ∙ c.if-self.false in
    passed _ _ _ _ _ _ _ _ _ sound c.in_ok-flush.ensures.ok c.flush.ensures.counted c.pass.ensures.counted _ c.pass.ensures.ok c.pass.ensures.same

pub returns-clause-err : goal.returns-clause-err
returns-clause-err g c =
    let sound : c.args.self.now.failed ≡ false = sym (ap (λ pen. pen.failed) c.self.view_is) ∙ c.if-self.false in
    lost _ _ _ _ _ _ _ _ _ sound c.in_ok-flush.ensures.ok c.flush.ensures.counted c.pass.ensures.counted _ c.pass.ensures.part c.pass.ensures.rose c.pass.ensures.failed
