use Rattle.std.proofs.Common.{◌<◌, Some, [], Option, List, ℕ, length, get_or, set, ap, subst, ◌∙◌, below_more, arith}
use Rattle.fond_ast.specs.Ranges.{objects_of}
use Rattle.fond_join.specs.Barren.{IsBarren}
use Rattle.fond_join.proofs.Completed.{range_at}
use Rattle.fond_join.proofs.PairedOff.{given_back}
use Rattle.fond_join.proofs.barren.is_barren_pair.Goals as goal

pub returns-then-not-barren-clause-same : goal.returns-then-not-barren-clause-same
returns-then-not-barren-clause-same c =
    let parameter = c.args.parameter in
    let before = c.index-before.result.now in
    let object = Some (get_or c.as_slice-objects.result.now c.loop-object.object-index 0) in
    ap (λ env. set env parameter before) (c.in_ok-barren.ensures.same ∙ ap (λ env. set env parameter object) c.loop-object.invariant.same)
    ∙ given_back c.args.scope.now.env.items parameter object before c.index-before.ensures

pub loop-object-preserved : goal.loop-object-preserved
loop-object-preserved c =
    let parameter = c.args.parameter in
    let before = c.index-before.result.now in
    let object = Some (get_or c.as_slice-objects.result.now c.loop-object.object-index 0) in
    let barren = λ (env : List (Option ℕ)). IsBarren c.args.facts.now.task.now c.args.schema.now.pre env c.args.other c.as_slice-others.result.now in
    record {
      same = ap (λ env. set env parameter before) (c.in_ok-barren.ensures.same ∙ ap (λ env. set env parameter object) c.loop-object.invariant.same)
          ∙ given_back c.args.scope.now.env.items parameter object before c.index-before.ensures;
      barren = below_more _ _ c.loop-object.invariant.barren
          (subst (λ env. barren (set env parameter object)) c.loop-object.invariant.same (c.in_ok-barren.ensures.barren c.if-not-barren.false));
    }

pub returns-clause-barren : goal.returns-clause-barren
returns-clause-barren c = λ e k within k' within'.
    let objects = c.as_slice-objects.ensures ∙ c.deref.ensures ∙ range_at c.args.schema.now.ranges c.args.parameter c.get.result.now c.get.ensures in
    let others = c.as_slice-others.ensures ∙ c.deref-2.ensures ∙ range_at c.args.schema.now.ranges c.args.other c.get-2.result.now c.get-2.ensures in
    let all = subst (λ list. (k : ℕ) → k < length list → IsBarren c.args.facts.now.task.now c.args.schema.now.pre (set c.args.scope.now.env.items c.args.parameter (Some (get_or list k 0))) c.args.other c.as_slice-others.result.now)
    objects (λ j h. c.loop-object.invariant.barren j (omega arith)) in
    subst (λ list. (k : ℕ) → k < length (get_or (objects_of c.args.schema.now.ranges) c.args.parameter []) → IsBarren c.args.facts.now.task.now c.args.schema.now.pre (set c.args.scope.now.env.items c.args.parameter (Some (get_or (get_or (objects_of c.args.schema.now.ranges) c.args.parameter []) k 0))) c.args.other list)
    others all k within k' within'
