use Rattle.std.proofs.Common.{◌≡◌, ◌<◌, ◌+◌, ◌++◌, drop, ap, ◌∙◌, sym, length, ℕ, List, arith}
use Rattle.fond_ast.specs.declared.names.TypedName.{TypedName}
use Rattle.fond_types.specs.Kept.{range_by, numbers_of}
use Rattle.fond_names.specs.Names.{objects_declared}
use Rattle.fond_names.specs.Same.{kind_names}
use Rattle.fond_types.proofs.RangeLemmas.{number_put, number_passed, got_some, length-names}
use Rattle.fond_types.proofs.ranges.made_range.Goals as goal
use Rattle.fond_types.proofs.ranges.made_range.Goals.{then-is_in_range+in_ok-push, else-is_in_range}

pub loop-i-preserved : goal.loop-i-preserved
loop-i-preserved c =
    let files = c.args.table.now in
    let types = files.domain.kinds in
    let names = kind_names c.args.kinds.now in
    let objects = objects_declared files in
    let i = c.loop-i.i in
    let long : length c.objects.result.now ≡ length objects = ap length c.objects.ensures.named ∙ length-names (λ (one : TypedName). one.name) objects in
    let low : i < length objects = omega (arith, long) in
    let item = got_some objects i low in
    let told = c.is_in_range.ensures item.0 item.1 in
    elim c.if-is_in_range.branch [
      | then-is_in_range+in_ok-push w ↦
          ap (λ (range : List ℕ). range ++ numbers_of types names (i + 1) (drop (i + 1) objects)) (w.range-is ∙ w.in_ok-push.ensures.ok)
          ∙ number_put types names c.loop-i.range objects i item.0 item.1 (range_by files names) c.loop-i.invariant (sym told ∙ w.if-is_in_range.true)
      | else-is_in_range w ↦
          ap (λ (range : List ℕ). range ++ numbers_of types names (i + 1) (drop (i + 1) objects)) w.range-is
          ∙ number_passed types names c.loop-i.range objects i item.0 item.1 (range_by files names) c.loop-i.invariant (sym told ∙ w.if-is_in_range.false)
    ]
