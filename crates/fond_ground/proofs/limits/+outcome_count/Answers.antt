use Rattle.std.proofs.Common.{◌≡◌, ◌*◌, ◌+◌, ◌∙◌, ◌++◌, ◌-◌, ◌^◌, length, map, drop, min, sym, ap, arith}
use Rattle.std.specs.List.{flat_map}
use Rattle.std.proofs.lemmas.List.{length-map}
use Rattle.fond_ast.specs.Ranges.{objects_of}
use Rattle.fond_ast.specs.Conditions.{tuples}
use Rattle.fond_ast.specs.Outcomes.{guarded, outcomes}
use Rattle.fond_text.specs.Lists.{concatenations}
use Rattle.fond_oneof.proofs.Counted.{counted_product}
use Rattle.fond_oneof.proofs.Lists.{drop_item, length-pairs}
use Rattle.fond_ground.proofs.Grounded.{outcomes-And, outcomes-OneOf, outcomes-Forall, outcomes-When}
use Rattle.fond_ground.proofs.Powers.{count_power, counted_factors}
use Rattle.fond_ground.proofs.limits.+outcome_count.Goals as goal

pub loop-member-init : goal.loop-member-init
loop-member-init t c = record {
  most = omega arith;
  left = λ env.
      let members = c.deref-member-items.result.now in
      ap (λ n. min n 257) (let one : 1 * length (concatenations (map (outcomes env) members)) ≡ length (concatenations (map (outcomes env) members)) = omega arith in one)
      ∙ ap (λ some. min (length (concatenations (map (outcomes env) some))) 257) c.deref-member-items.ensures.value
      ∙ ap (λ lists. min (length lists) 257) (sym (ap (outcomes env) c.in-And.is ∙ outcomes-And env c.in-And.members));
}

pub loop-member-preserved : goal.loop-member-preserved
loop-member-preserved t c =
    let members = c.deref-member-items.result.now in
    let i = c.loop-member.member-index in
    let member = c.member-item.result in
    record {
      most = omega (arith, c.min-all.ensures);
      left = λ env.
          let rest = concatenations (map (outcomes env) (drop (i + 1) members)) in
          counted_product 257 c.loop-member.all (length (outcomes env member)) (length rest) c.outcome_count.result c.min-all.result (c.outcome_count.ensures.count env) c.min-all.ensures
          ∙ ap (λ n. min (c.loop-member.all * n) 257) (sym (ap (λ items. length (concatenations (map (outcomes env) items))) (drop_item members i member c.loop-member-test.true c.member-item.is)
          ∙ length-pairs (outcomes env member) rest))
          ∙ c.loop-member.invariant.left env;
    }

pub loop-member-2-init : goal.loop-member-2-init
loop-member-2-init t c = record {
  most = omega arith;
  left = λ env.
      let members = c.deref-member-items-in-OneOf.result.now in
      ap (λ n. min n 257) (let none : 0 + length (flat_map (λ part. part) (map (outcomes env) members)) ≡ length (flat_map (λ part. part) (map (outcomes env) members)) = omega arith in none)
      ∙ ap (λ some. min (length (flat_map (λ part. part) (map (outcomes env) some))) 257) c.deref-member-items-in-OneOf.ensures.value
      ∙ ap (λ lists. min (length lists) 257) (sym (ap (outcomes env) c.in-OneOf.is ∙ outcomes-OneOf env c.in-OneOf.members));
}

pub returns-in-Forall-clause-count : goal.returns-in-Forall-clause-count
returns-in-Forall-clause-count t c = λ env.
    let ranges = objects_of c.in-Forall.ranges in
    let part = c.deref.result.now in
    c.power.ensures
    ∙ ap (λ n. min (c.outcome_count-in-Forall.result ^ n) 257) c.tuple_count.ensures
    ∙ counted_factors c.outcome_count-in-Forall.result (length (tuples ranges)) (2 ^ 64 - 1) (omega arith)
    ∙ sym (count_power 257 c.outcome_count-in-Forall.result (λ objects. outcomes (env ++ objects) part) (tuples ranges) (λ objects. c.outcome_count-in-Forall.ensures.count (env ++ objects)))
    ∙ ap (λ part. min (length (concatenations (map (λ objects. outcomes (env ++ objects) part) (tuples ranges)))) 257) c.deref.ensures
    ∙ ap (λ lists. min (length lists) 257) (sym (ap (outcomes env) c.in-Forall.is ∙ outcomes-Forall env c.in-Forall.ranges c.in-Forall.part))

pub returns-in-When-clause-count : goal.returns-in-When-clause-count
returns-in-When-clause-count t c = λ env.
    let guard = guarded (record { env = env; condition = c.in-When.field-0 }) in
    c.outcome_count-in-When.ensures.count env
    ∙ ap (λ part. min (length (outcomes env part)) 257) c.deref-in-When.ensures
    ∙ ap (λ n. min n 257) (sym (length-map (outcomes env c.in-When.part.value) (map guard)))
    ∙ ap (λ lists. min (length lists) 257) (sym (ap (outcomes env) c.in-When.is ∙ outcomes-When env c.in-When.field-0 c.in-When.part))
