use Rattle.std.proofs.Common.{◌≡◌, ◌<◌, ◌∙◌, length, Some, [], get_or, slice_get, arith, sym, ap}
use Rattle.std.proofs.lemmas.Option.{same_Some}
use Rattle.std.proofs.lemmas.Option.{slice_get-get_or}
use Rattle.fond_task.specs.declared.task.Act.{Act}
use Rattle.fond_succ.specs.Steps.{added}
use Rattle.fond_succ.proofs.Added.{few_outcomes, grows_by_one, is_added, one_more}
use Rattle.fond_succ.proofs.successors.next_states.Goals as goal

pub overflow_cast-k : goal.overflow_cast-k
overflow_cast-k c =
    let few = few_outcomes c.args.game.now c.args.number c.get.result.now c.get.ensures in
    let more : c.loop-k.k < length c.get.result.now.outcomes = omega (arith, c.loop-k-test.true, (c.len-k-end.ensures ∙ ap length c.deref.ensures)) in
    omega (arith, few, more)

pub add-requires : goal.add-requires
add-requires c =
    let few = few_outcomes c.args.game.now c.args.number c.get.result.now c.get.ensures in
    let more : c.loop-k.k < length c.get.result.now.outcomes = omega (arith, c.loop-k-test.true, (c.len-k-end.ensures ∙ ap length c.deref.ensures)) in
    omega (arith, few, more, c.loop-k.invariant.few)

pub loop-k-preserved : goal.loop-k-preserved
loop-k-preserved c = record {
  few = (let grown = grows_by_one c.loop-k.states c.add.new.self c.apply_into.new.out c.in_ok-add.field-0 c.in_ok-add.ensures.ok in omega (arith, grown, c.loop-k.invariant.few));
  all = λ a at. (
      let act = c.get.result.now in
      let same : act ≡ a = same_Some act a (sym c.get.ensures ∙ at) in
      let lt : c.loop-k.k < length a.outcomes = (let whole = ap (λ (x : Act). length x.outcomes) same in omega (arith, c.loop-k-test.true, (c.len-k-end.ensures ∙ ap length c.deref.ensures), whole)) in
      let entries = get_or a.outcomes c.loop-k.k [] in
      let there : slice_get a.outcomes c.loop-k.k ≡ Some entries = slice_get-get_or a.outcomes c.loop-k.k [] lt in
      let next = c.apply_into.ensures.next a entries at there in
      one_more c.args.game.now.init a.outcomes c.loop-k.k entries c.loop-k.states c.add.new.self _ there
      (is_added c.loop-k.states c.add.new.self c.apply_into.new.out c.in_ok-add.field-0 c.in_ok-add.ensures.ok ∙ ap (added c.loop-k.states) next) (c.loop-k.invariant.all a at));
}
