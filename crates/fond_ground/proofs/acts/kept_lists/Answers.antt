use Rattle.std.proofs.Common.{◌≡◌, ◌∙◌, ◌+◌, ◌<◌, ◌≤◌, ◌∷◌, ◌++◌, [], ℕ, Option, Some, None, List, length, map, drop, sym, ap, subst, arith}
use Rattle.std.specs.Prelude.{MatchOption}
use Rattle.std.proofs.lemmas.List.{append_assoc}
use Rattle.fond_join.specs.Kept.{kept_args}
use Rattle.fond_ground.proofs.Actions.{item_at}
use Rattle.fond_ground.proofs.Counts.{drop_item}
use Rattle.fond_ground.proofs.Kept.{actions_count}
use Rattle.fond_ground.proofs.acts.kept_lists.Goals as goal

abbrev Found : ℕ → List (List ℕ) → Option (List (List ℕ)) → Type 0
Found most kept found = MatchOption found (most < length kept) (λ all. (all ≡ kept) × (length all ≤ most))

pub loop-i-preserved : goal.loop-i-preserved
loop-i-preserved c =
    let task = c.args.table.now.facts.task.now in
    let schemas = task.schemas in
    let i = c.loop-i.i in
    let end = c.len-i-end.ensures in
    let lt = c.loop-i-test.true in
    let item = item_at schemas i (omega arith) in
    let found : Found c.loop-i.most (kept_args task item.0) (Some c.in-Some.kept) = subst (Found c.loop-i.most (kept_args task item.0)) c.in-Some.is (c.in_ok-matches_within.ensures item.0 item.1) in
    let count = actions_count task schemas i item.0 item.1 in
    let left = c.loop-i.invariant.left in
    let long = c.len-most.ensures in
    let same = ap length found.0 in
    let fits = found.1 in
    record {
      lists =
          ap (λ list. list ++ map (kept_args task) (drop (i + 1) schemas)) c.in_ok-push-in-Some.ensures.items ∙ append_assoc c.loop-i.lists.items (c.in-Some.kept ∷ []) (map (kept_args task) (drop (i + 1) schemas))
          ∙ ap (λ kept. c.loop-i.lists.items ++ kept ∷ map (kept_args task) (drop (i + 1) schemas)) found.0 ∙ ap (λ list. c.loop-i.lists.items ++ map (kept_args task) list) (sym (drop_item schemas i item.0 item.1))
          ∙ c.loop-i.invariant.lists;
      left = omega (arith, count, left, long, same, fits);
    }

pub returns-in-None : goal.returns-in-None
returns-in-None c =
    let task = c.args.table.now.facts.task.now in
    let schemas = task.schemas in
    let i = c.loop-i.i in
    let end = c.len-i-end.ensures in
    let lt = c.loop-i-test.true in
    let item = item_at schemas i (omega arith) in
    let found : Found c.loop-i.most (kept_args task item.0) None = subst (Found c.loop-i.most (kept_args task item.0)) c.in-None.is (c.in_ok-matches_within.ensures item.0 item.1) in
    let count = actions_count task schemas i item.0 item.1 in
    let left = c.loop-i.invariant.left in
    omega (arith, count, left, found)

pub overflow_sub-most : goal.overflow_sub-most
overflow_sub-most c =
    let task = c.args.table.now.facts.task.now in
    let schemas = task.schemas in
    let i = c.loop-i.i in
    let end = c.len-i-end.ensures in
    let lt = c.loop-i-test.true in
    let item = item_at schemas i (omega arith) in
    let found : Found c.loop-i.most (kept_args task item.0) (Some c.in-Some.kept) = subst (Found c.loop-i.most (kept_args task item.0)) c.in-Some.is (c.in_ok-matches_within.ensures item.0 item.1) in
    let long = c.len-most.ensures in
    let fits = found.1 in
    omega (arith, long, fits)
