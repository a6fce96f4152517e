use Rattle.std.proofs.Common.{◌≡◌, ◌+◌, ◌<◌, ◌∙◌, List, [], Some, length, get_or, take, arith, sym, ap, subst}
use Rattle.std.proofs.lemmas.List.Elements.{Contains-get_or}
use Rattle.std.proofs.lemmas.Option.{same_Some, slice_get-get_or}
use Rattle.fond_task.specs.declared.task.Act.{Act}
use Rattle.fond_task.specs.declared.task.Entry.{Entry}
use Rattle.fond_task.specs.Policies.{IsNext}
use Rattle.fond_explicit.specs.Spaces.{AreNexts}
use Rattle.fond_explicit.specs.Openings.{IsKeptAs}
use Rattle.fond_explicit.proofs.Grown.{few_outcomes, kept_stay, grown_one, grown_then, nexts_more, take_whole}
use Rattle.fond_explicit.proofs.opening.reach_all.Goals as goal

pub overflow_cast-outcome : goal.overflow_cast-outcome
overflow_cast-outcome c = omega (arith, few_outcomes c.args.t.now c.args.act c.get.result.now c.get.ensures, c.loop-outcome-test.true, (c.len-outcome-end.ensures ∙ ap length c.deref.ensures))

pub returns-in-None-clause-room : goal.returns-in-None-clause-room
returns-in-None-clause-room c =
    let act = c.get.result.now in
    let k = c.loop-outcome.outcome in
    let within : k < length act.outcomes = omega (arith, c.loop-outcome-test.true, (c.len-outcome-end.ensures ∙ ap length c.deref.ensures)) in
    let entries = get_or act.outcomes k [] in
    let full = rw c.in-None.is at c.in_ok-node.ensures.reached in
    record {
      next = c.apply_into.new.out;
      number = c.args.act;
      leads = record {
        act = act;
        numbered = c.get.ensures;
        holds = c.requires.applicable act c.get.ensures;
        outcome = entries;
        one = Contains-get_or act.outcomes k [] within;
        given = c.apply_into.ensures.next act entries c.get.ensures (slice_get-get_or act.outcomes k [] within);
      };
      lacks = full.1;
    }

pub loop-outcome-preserved : goal.loop-outcome-preserved
loop-outcome-preserved c =
    let task = c.args.t.now in
    let state = c.args.state.now in
    let act = c.get.result.now in
    let k = c.loop-outcome.outcome in
    let within : k < length act.outcomes = omega (arith, c.loop-outcome-test.true, (c.len-outcome-end.ensures ∙ ap length c.deref.ensures)) in
    let entries = get_or act.outcomes k [] in
    let next = c.apply_into.new.out in
    let given = c.apply_into.ensures.next act entries c.get.ensures (slice_get-get_or act.outcomes k [] within) in
    let leads : IsNext task state c.args.act next = record { act = act; numbered = c.get.ensures; holds = c.requires.applicable act c.get.ensures; outcome = entries; one = Contains-get_or act.outcomes k [] within; given = given } in
    let kept : IsKeptAs c.loop-outcome.states next c.in-Some.node c.reach.new.states = rw c.in-Some.is at c.in_ok-node.ensures.reached in
    record {
      next_long = c.apply_into.ensures.same_length ∙ c.loop-outcome.invariant.next_long;
      few = c.in_ok-node.ensures.few;
      grown = grown_then task state c.args.states.now c.loop-outcome.states c.reach.new.states c.loop-outcome.invariant.grown
          (grown_one task state c.loop-outcome.states c.reach.new.states next c.args.act c.in-Some.node leads kept);
      nexts = λ a at. (
          let same : act ≡ a = same_Some act a (sym c.get.ensures ∙ at) in
          let P : Act → Type 0 = λ a. AreNexts c.reach.new.states state c.push.new.self.items (take (k + 1) a.outcomes) in
          subst P same (nexts_more c.loop-outcome.states c.reach.new.states (kept_stay c.loop-outcome.states c.reach.new.states next c.in-Some.node kept) state c.loop-outcome.scratch.targets.items c.push.new.self.items
          act.outcomes k c.in-Some.node within (c.loop-outcome.invariant.nexts act c.get.ensures) (kept.numbered ∙ ap (λ s. Some s) given) c.in_ok-push-in-Some.ensures.items)
          );
    }

pub returns-clause-room : goal.returns-clause-room
returns-clause-room c = λ a at.
    let same : c.get.result.now ≡ a = same_Some c.get.result.now a (sym c.get.ensures ∙ at) in
    let long = ap (λ (x : Act). length x.outcomes) same in
    let whole = take_whole a.outcomes c.loop-outcome.outcome (omega (arith, c.loop-outcome-test.false, (c.len-outcome-end.ensures ∙ ap length c.deref.ensures), long)) in
    let P : List (List Entry) → Type 0 = λ os. AreNexts c.loop-outcome.states c.args.state.now c.loop-outcome.scratch.targets.items os in
    subst P whole (c.loop-outcome.invariant.nexts a at)
