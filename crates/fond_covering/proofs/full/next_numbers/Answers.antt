use Rattle.std.proofs.Common.{◌≡◌, ◌∙◌, ◌<◌, ◌+◌, length, Some, [], get_or, slice_get, sym, ap, ⊎_elim, arith}
use Rattle.std.proofs.lemmas.Option.{same_Some, slice_get-get_or}
use Rattle.fond_task.specs.declared.task.Act.{Act}
use Rattle.fond_task.proofs.Lists.{Contains_numbered}
use Rattle.fond_policy.proofs.Walking.{few_outcomes}
use Rattle.fond_covering.proofs.Appended.{old_or_last, one_longer}
use Rattle.fond_covering.proofs.full.next_numbers.Goals as goal

pub overflow_cast-outcome : goal.overflow_cast-outcome
overflow_cast-outcome c =
    let few = few_outcomes c.args.t.now c.args.act c.get.result.now c.get.ensures in
    omega (arith, few, c.loop-outcome-test.true, (c.len-outcome-end.ensures ∙ ap length c.deref.ensures))

pub number_of-requires : goal.number_of-requires
number_of-requires c =
    let own = c.get.result.now in
    let k = c.loop-outcome.outcome in
    let lt : k < length own.outcomes = omega (arith, c.loop-outcome-test.true, (c.len-outcome-end.ensures ∙ ap length c.deref.ensures)) in
    let entries = get_or own.outcomes k [] in
    let there : slice_get own.outcomes k ≡ Some entries = slice_get-get_or own.outcomes k [] lt in
    c.requires.all c.apply_into.new.out (record {
      act = own;
      numbered = c.get.ensures;
      holds = c.requires.applicable own c.get.ensures;
      outcome = entries;
      one = Contains_numbered own.outcomes k entries there;
      given = c.apply_into.ensures.next own entries c.get.ensures there;
    })

pub loop-outcome-preserved : goal.loop-outcome-preserved
loop-outcome-preserved c =
    let inv = c.loop-outcome.invariant in
    let own = c.get.result.now in
    let k = c.loop-outcome.outcome in
    let old = c.loop-outcome.numbers in
    let found = c.number_of.result in
    let longer = one_longer old found in
    record {
      long = c.apply_into.ensures.same_length ∙ inv.long;
      counted = ap length c.in_ok-push.ensures.ok ∙ longer ∙ ap (λ n. n + 1) inv.counted;
      each = λ act at number entries has is there. ⊎_elim
          (λ was. inv.each act at number entries has was there)
          (λ last.
          let same_act : own ≡ act = same_Some own act (sym c.get.ensures ∙ has) in
          let here : slice_get own.outcomes k ≡ Some entries = ap (λ (a : Act). slice_get a.outcomes k) same_act ∙ ap (slice_get act.outcomes) (sym (last.0 ∙ inv.counted)) ∙ there in
          ap (slice_get c.args.states.now) (sym last.1) ∙ c.number_of.ensures ∙ ap (λ s. Some s) (c.apply_into.ensures.next own entries c.get.ensures here))
          (old_or_last old found at number (ap (λ xs. slice_get xs at) (sym c.in_ok-push.ensures.ok) ∙ is));
    }
