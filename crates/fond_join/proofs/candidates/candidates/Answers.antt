use Rattle.std.proofs.Common.{◌≡◌, ◌∙◌, ap, refl, sym}
use Rattle.std.specs.Prelude.{filter, true}
use Rattle.fond_ast.specs.Ranges.{is_among, is_rising, objects_of}
use Rattle.fond_join.specs.Candidates.{AreCandidates}
use Rattle.fond_join.proofs.Completed.{range_at}
use Rattle.fond_join.proofs.Covering.{filter_all, ok_value, rising_at}
use Rattle.fond_join.proofs.candidates.candidates.Goals as goal

pub among-requires : goal.among-requires
among-requires c =
    let ranges = c.args.schema.now.ranges in
    let own = c.as_slice-range.ensures ∙ c.deref.ensures ∙ range_at ranges c.args.parameter c.get.result.now c.get.ensures in
    ap is_rising own ∙ rising_at (objects_of ranges) c.args.parameter c.requires.rising

pub returns-in-Some : goal.returns-in-Some
returns-in-Some c =
    let ranges = c.args.schema.now.ranges in
    let own = c.as_slice-range.ensures ∙ c.deref.ensures ∙ range_at ranges c.args.parameter c.get.result.now c.get.ensures in
    let row = c.in-Some.row.now in
    ok_value (λ objects. objects.items ≡ filter (is_among row) c.as_slice-range.result.now) (λ objects. AreCandidates c.args.facts.now.task.now c.args.schema.now c.args.scope.now.env.items c.args.parameter objects.items)
    (λ objects is. (is_among row, c.in-Some.ensures, is ∙ ap (filter (is_among row)) own)) c.among.result c.among.ensures

pub returns-in_ok-from_slice-in_default : goal.returns-in_ok-from_slice-in_default
returns-in_ok-from_slice-in_default c =
    let ranges = c.args.schema.now.ranges in
    let own = c.as_slice-range.ensures ∙ c.deref.ensures ∙ range_at ranges c.args.parameter c.get.result.now c.get.ensures in
    ((λ x. true), (λ objects agree may. refl), c.in_ok-from_slice-in_default.ensures.items ∙ own ∙ sym (filter_all _))
