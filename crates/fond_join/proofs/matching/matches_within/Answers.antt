use Rattle.std.proofs.Common.{◌<◌, ◌≤◌, ◌++◌, None, length, replicate, sym, ap, subst, ◌∙◌, arith}
use Rattle.std.specs.List.{range_with_len}
use Rattle.fond_join.specs.Kept.{kept_args}
use Rattle.fond_join.specs.Search.{IsOrder, Searched}
use Rattle.fond_join.proofs.Declared.{declared_kept, declared_order}
use Rattle.fond_join.proofs.Found.{ranges_rise, same_found}
use Rattle.fond_join.proofs.matching.matches_within.Goals as goal

pub search-requires-clause-order : goal.search-requires-clause-order
search-requires-clause-order c =
    subst (λ env. IsOrder env c.deref.result.now) (sym (c.in_ok-leaves_none.ensures.same ∙ c.in_ok-scope.ensures))
    (subst (IsOrder (replicate c.len-count.result None)) (sym (c.deref.ensures.value ∙ c.in_ok-order.ensures)) (declared_order c.len-count.result))

pub search-requires-clause-rising : goal.search-requires-clause-rising
search-requires-clause-rising c = ranges_rise c.args.facts.now.task.now c.args.schema c.get-schema.result.now c.get-schema.ensures

pub returns-then-branch : goal.returns-then-branch
returns-then-branch c s numbered =
    let task = c.args.facts.now.task.now in
    let own = same_found task.schemas c.args.schema c.get-schema.result.now s c.get-schema.ensures numbered in
    let none = c.in_ok-leaves_none.ensures.none c.if-branch.true in
    let small : length c.new.result ≤ c.args.most = subst (λ all. length all ≤ c.args.most) (sym c.new.ensures) (omega arith) in
    (c.new.ensures ∙ sym none ∙ ap (kept_args task) own, small)

pub returns-then-branch-2 : goal.returns-then-branch-2
returns-then-branch-2 c s numbered =
    let task = c.args.facts.now.task.now in
    let own = same_found task.schemas c.args.schema c.get-schema.result.now s c.get-schema.ensures numbered in
    let kept = declared_kept task c.get-schema.result.now c.leaves_none.new.scope.env.items c.deref.result.now
    (c.in_ok-leaves_none.ensures.same ∙ c.in_ok-scope.ensures ∙ ap (λ n. replicate n None) c.len-count.ensures) (c.deref.ensures.value ∙ c.in_ok-order.ensures ∙ ap (range_with_len 0) c.len-count.ensures) in
    let went = subst (Searched c.args.most c.new-found.result _ c.search.new.found) c.if-branch-2.true c.in_ok-search.ensures.found in
    (went.0 ∙ (λ i. c.new-found.ensures i ++ kept i) ∙ ap (kept_args task) own, went.1)

pub returns : goal.returns
returns c s numbered =
    let task = c.args.facts.now.task.now in
    let own = same_found task.schemas c.args.schema c.get-schema.result.now s c.get-schema.ensures numbered in
    let kept = declared_kept task c.get-schema.result.now c.leaves_none.new.scope.env.items c.deref.result.now
    (c.in_ok-leaves_none.ensures.same ∙ c.in_ok-scope.ensures ∙ ap (λ n. replicate n None) c.len-count.ensures) (c.deref.ensures.value ∙ c.in_ok-order.ensures ∙ ap (range_with_len 0) c.len-count.ensures) in
    let went = subst (Searched c.args.most c.new-found.result _ c.search.new.found) c.if-branch-2.false c.in_ok-search.ensures.found in
    subst (λ all. c.args.most < length all) ((λ i. c.new-found.ensures i ++ kept i) ∙ ap (kept_args task) own) went
