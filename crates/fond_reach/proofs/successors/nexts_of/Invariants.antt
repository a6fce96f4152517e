use Rattle.std.proofs.Common.{◌≡◌, length, slice_get, take, Some}
use Rattle.std.specs.List.{AllZip}
use Rattle.fond_games.specs.Renaming.{FirstUsed}
use Rattle.fond_task.specs.declared.task.Act.{Act}
use Rattle.fond_task.specs.Policies.{IsNext}
use Rattle.fond_policy.specs.Walks.{Grows}
use Rattle.fond_reach.specs.Graphs.{Leads}
use Rattle.fond_reach.proofs.successors.nexts_of.Given as goal

-- the states to which the outcomes so far lead are there, under the numbers so far, which are in the order of their first use
abbrev pub invariant-loop-outcome : goal.invariant-loop-outcome
invariant-loop-outcome l = record {
  long : length l.next ≡ length l.t.atoms;
  grows : Grows (IsNext l.t l.state l.act) l.initial.states l.states;
  leads : (act : Act) → slice_get l.t.acts l.act ≡ Some act → AllZip (Leads l.states l.state) (take l.outcome act.outcomes) l.nexts;
  ordered : FirstUsed (length l.initial.states) l.nexts (length l.states);
}
