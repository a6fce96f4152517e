use Rattle.std.proofs.Common.{Some, Option, List, ℕ, get_or, set, not, sym, ap, ◌∙◌, below_more}
use Rattle.fond_join.specs.Kept.{is_no}
use Rattle.fond_join.specs.Partial.{partial_value}
use Rattle.fond_join.proofs.PairedOff.{given_back}
use Rattle.fond_join.proofs.barren.is_barren.Goals as goal

pub returns-then-possible-clause-same : goal.returns-then-possible-clause-same
returns-then-possible-clause-same c =
    let parameter = c.args.parameter in
    let before = c.index-before.result.now in
    let object = Some (get_or c.args.objects.now c.loop-object.object-index 0) in
    ap (λ env. set env parameter before) (c.in_ok-possible.ensures.same ∙ ap (λ env. set env parameter object) c.loop-object.invariant.same)
    ∙ given_back c.args.scope.now.env.items parameter object before c.index-before.ensures

pub loop-object-preserved : goal.loop-object-preserved
loop-object-preserved c =
    let parameter = c.args.parameter in
    let before = c.index-before.result.now in
    let object = Some (get_or c.args.objects.now c.loop-object.object-index 0) in
    let value = λ (env : List (Option ℕ)). not (is_no (partial_value c.args.facts.now.task.now env c.args.pre.now)) in
    record {
      same = ap (λ env. set env parameter before) (c.in_ok-possible.ensures.same ∙ ap (λ env. set env parameter object) c.loop-object.invariant.same)
          ∙ given_back c.args.scope.now.env.items parameter object before c.index-before.ensures;
      barren = below_more _ _ c.loop-object.invariant.barren
          (sym (ap (λ env. value (set env parameter object)) c.loop-object.invariant.same) ∙ sym c.in_ok-possible.ensures.value ∙ c.if-possible.false);
    }
