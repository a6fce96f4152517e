use Rattle.std.proofs.Common.{◌∙◌, List, slice_get, sym, ap}
use Rattle.fond_task.specs.declared.task.Entry.{Entry}
use Rattle.fond_task.specs.Steps.{next_state}
use Rattle.fond_task.proofs.Found.{outcome_within, same_entries}
use Rattle.fond_task.proofs.Puts.{next_by_puts}
use Rattle.fond_task.proofs.step.apply_into.Goals as goal

pub put_all-requires-clause-within : goal.put_all-requires-clause-within
put_all-requires-clause-within c =
    let task = c.args.task.now in
    rw (c.requires.long) (outcome_within _ task.acts c.args.act c.get.result.now _ c.get-entries.result.now task.acts_within c.get.ensures (ap (λ (all : List (List Entry)). slice_get all c.args.outcome) (sym c.deref.ensures) ∙ c.get-entries.ensures))

pub put_all-requires-2-clause-within : goal.put_all-requires-2-clause-within
put_all-requires-2-clause-within c =
    let task = c.args.task.now in
    rw (c.requires.long) (outcome_within _ task.acts c.args.act c.get.result.now _ c.get-entries.result.now task.acts_within c.get.ensures (ap (λ (all : List (List Entry)). slice_get all c.args.outcome) (sym c.deref.ensures) ∙ c.get-entries.ensures))

pub returns-clause-next : goal.returns-clause-next
returns-clause-next c = λ act entries is at.
    let state = c.args.state.now in
    let own = c.get-entries.result.now in
    next_by_puts state c.copy_from.new.self c.put_all.new.out c.put_all-2.new.out own c.copy_from.ensures c.put_all.ensures.same_length c.put_all-2.ensures.same_length c.put_all.ensures.put c.put_all-2.ensures.put
    ∙ ap (next_state state) (same_entries c.args.task.now.acts c.args.act c.args.outcome c.get.result.now act own entries c.get.ensures is (ap (λ (all : List (List Entry)). slice_get all c.args.outcome) (sym c.deref.ensures) ∙ c.get-entries.ensures) at)
