use Rattle.std.proofs.Common.{◌≡◌, ◌∙◌, ◌++◌, ◌+◌, ◌<◌, IfOk, length, get_or, map, drop, ap, sym, subst, arith}
use Rattle.std.proofs.lemmas.List.{append_assoc}
use Rattle.fond_oneof.specs.Shown.{all_shown, pairs, shown}
use Rattle.fond_oneof.proofs.Lists.{alone_at, drop_item, pairs-one}
use Rattle.fond_oneof.proofs.list.joined.Goals as goal

pub returns-then-second-eq1 : goal.returns-then-second-eq1
returns-then-second-eq1 c =
    let first = all_shown c.args.first.items in
    let more = c.index-second-0.result in
    let one = alone_at c.args.second.now more (omega arith) c.index-second-0.is in
    subst (λ lists. IfOk c.extended.result (λ all. all_shown all.items ≡ lists))
    (ap (λ entries. map (λ list. list ++ map shown entries) first) c.as_slice.ensures ∙ pairs-one first (map shown more) ∙ ap (λ all. pairs first (all_shown all)) (sym one)) c.extended.ensures

pub loop-outcome-preserved : goal.loop-outcome-preserved
loop-outcome-preserved c =
    let first = c.args.first.items in
    let second = all_shown c.args.second.now in
    let i = c.loop-outcome.outcome-index in
    let one = c.outcome-item.result in
    let within : i < length first = omega (arith, ap length c.deref-outcome-items.ensures.value) in
    let is : one ≡ get_or first i one = c.outcome-item.is ∙ ap (λ xs. get_or xs i one) c.deref-outcome-items.ensures.value in
    let rest = pairs (all_shown (drop (i + 1) first)) second in
    ap (λ all. all ++ rest) c.in_ok-put_joined.ensures
    ∙ append_assoc (all_shown c.loop-outcome.all.items) (map (λ list. map shown one ++ list) second) rest
    ∙ ap (λ items. all_shown c.loop-outcome.all.items ++ pairs (all_shown items) second) (sym (drop_item first i one within is))
    ∙ c.loop-outcome.invariant
