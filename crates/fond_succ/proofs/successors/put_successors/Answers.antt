use Rattle.std.proofs.Common.{refl, sym, ◌∙◌}
use Rattle.std.proofs.lemmas.Option.{slice_get_within}
use Rattle.fond_succ.proofs.Alike.{not_applicable, not_kept, successors_text}
use Rattle.fond_succ.proofs.successors.put_successors.Goals as goal

pub returns-in_default-clause-ok : goal.returns-in_default-clause-ok
returns-in_default-clause-ok c = (not_kept c.args.task.now c.args.game.now c.requires c.args.action.now (rw c.in_default.is at c.act_number.ensures.none), refl)

pub applicable-requires-clause-there : goal.applicable-requires-clause-there
applicable-requires-clause-there c =
    let found = rw c.in-Some.is at c.act_number.ensures.found in
    slice_get_within c.args.game.now.acts c.in-Some.number found.0 found.1

pub returns-then-not-applicable-clause-ok : goal.returns-then-not-applicable-clause-ok
returns-then-not-applicable-clause-ok c =
    let found = rw c.in-Some.is at c.act_number.ensures.found in
    (not_applicable c.args.task.now c.args.game.now c.requires c.in-Some.number found.0 c.args.action.now found.1 found.2 (sym (c.applicable.ensures found.0 found.1) ∙ c.if-not-applicable.true), refl)

pub put_next_states-requires-clause-there : goal.put_next_states-requires-clause-there
put_next_states-requires-clause-there c =
    let found = rw c.in-Some.is at c.act_number.ensures.found in
    slice_get_within c.args.game.now.acts c.in-Some.number found.0 found.1

pub returns-clause-ok : goal.returns-clause-ok
returns-clause-ok c =
    let found = rw c.in-Some.is at c.act_number.ensures.found in
    (_, successors_text c.args.task.now c.args.game.now c.requires c.in-Some.number found.0 c.args.action.now found.1 found.2 (sym (c.applicable.ensures found.0 found.1) ∙ c.if-not-applicable.false), c.in_ok-put_next_states.ensures.ok found.0 found.1)
