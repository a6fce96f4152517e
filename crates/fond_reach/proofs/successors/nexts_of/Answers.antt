use Rattle.std.proofs.Common.{◌≡◌, ◌∙◌, ◌<◌, ◌≤◌, ℕ, List, length, Some, [], ◌∷◌, get_or, slice_get, refl, sym, ap, subst, arith, take, take_all}
use Rattle.std.specs.List.{AllZip}
use Rattle.std.proofs.lemmas.Option.{same_Some, slice_get-get_or}
use Rattle.fond_games.specs.Renaming.{FirstUsed}
use Rattle.fond_task.specs.Steps.{next_state}
use Rattle.fond_task.specs.declared.task.Act.{Act}
use Rattle.fond_task.specs.declared.task.Entry.{Entry}
use Rattle.fond_task.specs.Policies.{IsNext}
use Rattle.fond_task.proofs.Lists.{Contains_numbered}
use Rattle.fond_policy.specs.Walks.{Grows}
use Rattle.fond_policy.proofs.Walking.{added_grows, few_outcomes, grown_keeps, grows_twice}
use Rattle.fond_reach.specs.Graphs.{Leads}
use Rattle.fond_reach.proofs.Numbering.{first_added, first_joined}
use Rattle.fond_reach.proofs.Pairs.{zip_more, zip_weaker}
use Rattle.fond_reach.proofs.successors.nexts_of.Goals as goal

pub overflow_cast-outcome : goal.overflow_cast-outcome
overflow_cast-outcome c =
    let few = few_outcomes c.args.t.now c.args.act c.get.result.now c.get.ensures in
    omega (arith, few, c.loop-outcome-test.true, (c.len-outcome-end.ensures ∙ ap length c.deref.ensures))

pub loop-outcome-preserved : goal.loop-outcome-preserved
loop-outcome-preserved c =
    let task = c.args.t.now in
    let state = c.args.state.now in
    let own = c.get.result.now in
    let k = c.loop-outcome.outcome in
    let old = c.loop-outcome.states in
    let new = c.number_of.new.states in
    let added = c.apply_into.new.out in
    let seen = length c.args.states.now in
    let lt : k < length own.outcomes = omega (arith, c.loop-outcome-test.true, (c.len-outcome-end.ensures ∙ ap length c.deref.ensures)) in
    let entries = get_or own.outcomes k [] in
    let there : slice_get own.outcomes k ≡ Some entries = slice_get-get_or own.outcomes k [] lt in
    let next : added ≡ next_state state entries = c.apply_into.ensures.next own entries c.get.ensures there in
    let is : IsNext task state c.args.act added =
    record { act = own; numbered = c.get.ensures; holds = c.requires.applicable own c.get.ensures; outcome = entries; one = Contains_numbered own.outcomes k entries there; given = next } in
    let grown : Grows (IsNext task state c.args.act) old new = added_grows (IsNext task state c.args.act) old new added added _ refl c.in_ok-number_of.ensures is in
    record {
      long = c.apply_into.ensures.same_length ∙ c.loop-outcome.invariant.long;
      grows = grows_twice (IsNext task state c.args.act) _ old new c.loop-outcome.invariant.grows grown;
      leads = λ act at.
          let same : own ≡ act = same_Some own act (sym c.get.ensures ∙ at) in
          let at_k : slice_get act.outcomes k ≡ Some entries = ap (λ (a : Act). slice_get a.outcomes k) (sym same) ∙ there in
          let lead : slice_get new c.in_ok-number_of.field-0 ≡ Some (next_state state entries) = c.in_ok-number_of.ensures.numbered ∙ ap (λ s. Some s) next in
          let before : AllZip (Leads new state) (take k act.outcomes) c.loop-outcome.nexts =
          zip_weaker (Leads old state) (Leads new state) (take k act.outcomes) c.loop-outcome.nexts (λ outcome number is_at. grown_keeps (IsNext task state c.args.act) old new grown number (next_state state outcome) is_at) (c.loop-outcome.invariant.leads act at) in
          zip_more (Leads new state) act.outcomes k entries c.loop-outcome.nexts c.push.new.self c.in_ok-number_of.field-0 at_k c.in_ok-push.ensures.ok lead before;
      ordered = subst (λ (ns : List ℕ). FirstUsed seen ns (length new)) (sym c.in_ok-push.ensures.ok)
          (first_joined seen c.loop-outcome.nexts (length old) (c.in_ok-number_of.field-0 ∷ []) (length new) c.loop-outcome.invariant.ordered (first_added old added c.in_ok-number_of.field-0 new c.in_ok-number_of.ensures));
    }

pub returns-clause-leads : goal.returns-clause-leads
returns-clause-leads c =
    let own = c.get.result.now in
    let states = c.loop-outcome.states in
    let state = c.args.state.now in
    let end : length own.outcomes ≤ c.loop-outcome.outcome = omega (arith, c.loop-outcome-test.false, (c.len-outcome-end.ensures ∙ ap length c.deref.ensures)) in
    record {
      act = own;
      numbered = c.get.ensures;
      holds = c.requires.applicable own c.get.ensures;
      each = subst (λ (front : List (List Entry)). AllZip (Leads states state) front c.loop-outcome.nexts) (take_all c.loop-outcome.outcome own.outcomes end) (c.loop-outcome.invariant.leads own c.get.ensures);
    }
