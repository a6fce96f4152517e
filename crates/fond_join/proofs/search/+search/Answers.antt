use Rattle.std.proofs.Common.{◌≡◌, ◌<◌, ◌-◌, [], ◌∷◌, ◌++◌, Some, None, Option, List, ℕ, IfOk, true, length, not, take, drop, get_or, set, refl, sym, ap, subst, ◌∙◌, arith}
use Rattle.std.proofs.lemmas.Grind.{common_steps}
use Rattle.std.proofs.lemmas.List.{append-nil, drop_all, get_or_default, length-set}
use Rattle.std.specs.Bool.{OnTrue}
use Rattle.fond_ast.specs.Ranges.{objects_of}
use Rattle.fond_join.specs.Kept.{is_kept, is_no}
use Rattle.fond_join.specs.Partial.{partial_value}
use Rattle.fond_join.specs.Search.{arguments, IsOrder, kept_completions, Searched}
use Rattle.fond_join.specs.Candidates.{AreCandidates}
use Rattle.fond_join.proofs.Completed.{candidates_enough, next_found, none_kept, none_within, one_kept, passing_from, restored, too_many}
use Rattle.fond_join.proofs.Items.{first_item, rest_length}
use Rattle.fond_join.proofs.search.+search.Goals as goal

pub returns-then-not-branch-clause-found : goal.returns-then-not-branch-clause-found
returns-then-not-branch-clause-found t c =
    let none = none_kept c.args.facts.now.task.now c.args.schema.now c.args.scope.now.env.items c.args.order.now c.requires.order (sym c.in_ok-is_possible.ensures.value ∙ c.if-not-branch.true) in
    (sym (ap (λ all. c.args.found.now ++ all) none ∙ append-nil c.args.found.now), c.requires.room)

pub loop-object-init : goal.loop-object-init
loop-object-init t c =
    let order = c.args.order.now in
    let env = c.is_possible.new.scope.env.items in
    let parameter = get_or order 0 0 in
    let rest = take (length order - 1) (drop 1 order) in
    let whole = first_item order parameter c.in-len1-up.len_at_least (get_or_default order 0 0 parameter c.in-len1-up.len_at_least) in
    let ranges = objects_of c.args.schema.now.ranges in
    let found = c.in_ok-objects-in-len1-up.ensures in
    let own = c.in_ok-is_possible.ensures.same in
    let is = subst (IsOrder c.args.scope.now.env.items) whole c.requires.order in
    let from = subst (λ around. IsOrder around (parameter ∷ rest)) (sym own) is in
    let objects = candidates_enough c.args.facts.now.task.now c.args.schema.now env parameter rest from c.deref-object-items.result.now (let same : c.deref-object-items.result.now ≡ c.in_ok-objects-in-len1-up.objects.items = c.deref-object-items.ensures.value in subst (AreCandidates c.args.facts.now.task.now c.args.schema.now env parameter) (sym same) found) in
    record {
      same = refl;
      room = c.requires.room;
      left = ap (λ all. c.args.found.now ++ all) objects
          ∙ ap (λ list. c.args.found.now ++ kept_completions c.args.facts.now.task.now c.args.schema.now env list) (sym whole);
    }

pub loop-object-preserved : goal.loop-object-preserved
loop-object-preserved t c =
    let order = c.args.order.now in
    let env = c.is_possible.new.scope.env.items in
    let parameter = get_or order 0 0 in
    let rest = take (length order - 1) (drop 1 order) in
    let objects = c.deref-object-items.result.now in
    let i = c.loop-object.object-index in
    let object = get_or objects i 0 in
    let ranges = objects_of c.args.schema.now.ranges in
    let kept = is_kept c.args.facts.now.task.now c.args.schema.now in
    let whole = first_item order parameter c.in-len1-up.len_at_least (get_or_default order 0 0 parameter c.in-len1-up.len_at_least) in
    let own = c.in_ok-is_possible.ensures.same in
    let is = subst (IsOrder c.args.scope.now.env.items) whole c.requires.order in
    let none = ap (λ around. get_or around parameter (Some 0)) own ∙ is.0 in
    let inner = λ (around : List (Option ℕ)). kept_completions c.args.facts.now.task.now c.args.schema.now (set around parameter (Some object)) rest in
    let went = subst (Searched c.args.most c.loop-object.found (inner c.loop-object.scope.env.items) c.search.new.found) c.if-not-branch-2.false c.in_ok-search-in-len1-up.ensures.found in
    let stays = subst (λ complete. OnTrue complete (c.search.new.scope.env.items ≡ set c.loop-object.scope.env.items parameter (Some object))) c.if-not-branch-2.false c.in_ok-search-in-len1-up.ensures.same in
    record {
      same = ap (λ around. set around parameter None) (stays ∙ ap (λ around. set around parameter (Some object)) c.loop-object.invariant.same) ∙ restored env parameter (Some object) none;
      room = went.1;
      left = next_found ranges kept env parameter rest objects i object c.loop-object.found c.search.new.found _ c.loop-object-test.true (get_or_default objects i 0 object c.loop-object-test.true)
          (went.0 ∙ ap (λ around. c.loop-object.found ++ inner around) c.loop-object.invariant.same) c.loop-object.invariant.left;
    }

pub returns-in-empty-clause-found : goal.returns-in-empty-clause-found
returns-in-empty-clause-found t c =
    let task = c.args.facts.now.task.now in
    let env = c.args.scope.now.env.items in
    let none : c.args.order.now ≡ [] = grind (arith, common_steps) in
    let all = subst (IsOrder env) none c.requires.order in
    let possible : not (is_no (partial_value task env c.args.schema.now.pre)) ≡ true = sym c.in_ok-is_possible.ensures.value ∙ c.if-not-branch.false in
    let one = ap (kept_completions task c.args.schema.now env) none ∙ one_kept task c.args.schema.now env all possible in
    subst (λ lists. IfOk c.keep.result (Searched c.args.most c.args.found.now lists c.keep.new.found))
    (ap (λ around. arguments around ∷ []) c.in_ok-is_possible.ensures.same ∙ sym one) c.keep.ensures

pub returns-then-not-branch-clause-same : goal.returns-then-not-branch-clause-same
returns-then-not-branch-clause-same t c = c.in_ok-is_possible.ensures.same

pub candidates-requires : goal.candidates-requires
candidates-requires t c =
    let order = c.args.order.now in
    let parameter = get_or order 0 0 in
    let whole = first_item order parameter c.in-len1-up.len_at_least (get_or_default order 0 0 parameter c.in-len1-up.len_at_least) in
    let is = subst (IsOrder c.args.scope.now.env.items) whole c.requires.order in
    record { within = subst (λ n. parameter < n) c.requires.long (none_within c.args.scope.now.env.items parameter is.0); rising = c.requires.rising }

pub returns-then-not-branch-2-clause-found : goal.returns-then-not-branch-2-clause-found
returns-then-not-branch-2-clause-found t c =
    let order = c.args.order.now in
    let task = c.args.facts.now.task.now in
    let env = c.is_possible.new.scope.env.items in
    let parameter = get_or order 0 0 in
    let rest = take (length order - 1) (drop 1 order) in
    let objects = c.deref-object-items.result.now in
    let i = c.loop-object.object-index in
    let object = get_or objects i 0 in
    let went = subst (Searched c.args.most c.loop-object.found (kept_completions task c.args.schema.now (set c.loop-object.scope.env.items parameter (Some object)) rest) c.search.new.found) c.if-not-branch-2.true c.in_ok-search-in-len1-up.ensures.found in
    subst (λ around. c.args.most < length (c.args.found.now ++ kept_completions task c.args.schema.now around order)) c.in_ok-is_possible.ensures.same
    (too_many (objects_of c.args.schema.now.ranges) (is_kept task c.args.schema.now) env parameter rest objects i object c.args.most c.loop-object.found _ c.loop-object-test.true
    (get_or_default objects i 0 object c.loop-object-test.true) (subst (λ around. c.args.most < length (c.loop-object.found ++ kept_completions task c.args.schema.now (set around parameter (Some object)) rest)) c.loop-object.invariant.same went) c.loop-object.invariant.left)

pub search-requires : goal.search-requires
search-requires t c =
    let order = c.args.order.now in
    let parameter = get_or order 0 0 in
    let rest = take (length order - 1) (drop 1 order) in
    let object = Some (get_or c.deref-object-items.result.now c.loop-object.object-index 0) in
    let whole = first_item order parameter c.in-len1-up.len_at_least (get_or_default order 0 0 parameter c.in-len1-up.len_at_least) in
    let is = subst (IsOrder c.args.scope.now.env.items) whole c.requires.order in
    let own = c.loop-object.invariant.same ∙ c.in_ok-is_possible.ensures.same in
    let long = length-set c.loop-object.scope.env.items parameter object ∙ ap length own ∙ c.requires.long in
    let order_left = subst (λ env. IsOrder (set env parameter object) rest) (sym own) (is.1 (get_or c.deref-object-items.result.now c.loop-object.object-index 0)) in
    let shorter = rest_length order c.in-len1-up.len_at_least in
    (omega (arith, shorter), (long, (order_left, (c.requires.rising, c.loop-object.invariant.room))))

pub returns-after-loop-object-clause-found : goal.returns-after-loop-object-clause-found
returns-after-loop-object-clause-found t c =
    let order = c.args.order.now in
    let task = c.args.facts.now.task.now in
    let env = c.is_possible.new.scope.env.items in
    let rest = take (length order - 1) (drop 1 order) in
    let none = drop_all c.loop-object.object-index c.deref-object-items.result.now c.loop-object-test.false in
    let found = sym (append-nil c.loop-object.found)
    ∙ ap (λ left. c.loop-object.found ++ passing_from (objects_of c.args.schema.now.ranges) (is_kept task c.args.schema.now) env (get_or order 0 0) rest left) (sym none)
    ∙ c.loop-object.invariant.left in
    (found ∙ ap (λ around. c.args.found.now ++ kept_completions task c.args.schema.now around order) c.in_ok-is_possible.ensures.same, c.loop-object.invariant.room)

pub index_mut-requires : goal.index_mut-requires
index_mut-requires t c =
    let order = c.args.order.now in
    let env = c.args.scope.now.env.items in
    let whole = first_item order (get_or order 0 0) c.in-len1-up.len_at_least (get_or_default order 0 0 (get_or order 0 0) c.in-len1-up.len_at_least) in
    let within = none_within env (get_or order 0 0) (subst (IsOrder env) whole c.requires.order).0 in
    omega (arith, within, ap length (c.loop-object.invariant.same ∙ c.in_ok-is_possible.ensures.same), c.loop-object.scope.env.ok.0)

pub index_mut-requires-in-loop-object : goal.index_mut-requires-in-loop-object
index_mut-requires-in-loop-object t c =
    let order = c.args.order.now in
    let env = c.args.scope.now.env.items in
    let object = Some (get_or c.deref-object-items.result.now c.loop-object.object-index 0) in
    let whole = first_item order (get_or order 0 0) c.in-len1-up.len_at_least (get_or_default order 0 0 (get_or order 0 0) c.in-len1-up.len_at_least) in
    let within = none_within env (get_or order 0 0) (subst (IsOrder env) whole c.requires.order).0 in
    let stays = subst (λ complete. OnTrue complete (c.search.new.scope.env.items ≡ set c.loop-object.scope.env.items (get_or order 0 0) object)) c.if-not-branch-2.false c.in_ok-search-in-len1-up.ensures.same in
    let long = length-set c.loop-object.scope.env.items (get_or order 0 0) object in
    omega (arith, within, ap length stays, long, ap length (c.loop-object.invariant.same ∙ c.in_ok-is_possible.ensures.same), c.search.new.scope.env.ok.0)

pub returns-after-loop-object-clause-same : goal.returns-after-loop-object-clause-same
returns-after-loop-object-clause-same t c = c.loop-object.invariant.same ∙ c.in_ok-is_possible.ensures.same
