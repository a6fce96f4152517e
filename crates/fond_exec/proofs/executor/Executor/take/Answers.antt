use Rattle.std.proofs.Common.{◌≡◌, ◌∙◌, ◌<◌, length, ap, Some, [], get_or, slice_get, arith}
use Rattle.std.proofs.lemmas.Option.{slice_get-get_or}
use Rattle.fond_task.specs.Steps.{next_state}
use Rattle.fond_exec.specs.Runs.{Run}
use Rattle.fond_exec.proofs.executor.Executor.take.Goals as goal

pub returns-clause-taken : goal.returns-clause-taken
returns-clause-taken c =
    let chosen = c.requires.chosen in
    let act = chosen.2.0 in
    let below : c.args.outcome < length act.outcomes = omega (arith, chosen.2.2, c.requires.one) in
    let entries = get_or act.outcomes c.args.outcome [] in
    let at : slice_get act.outcomes c.args.outcome ≡ Some entries = slice_get-get_or act.outcomes c.args.outcome [] below in
    record {
      open_ = chosen.0;
      selects = chosen.1;
      act = act;
      chosen = chosen.2.1;
      entries = entries;
      picked = at;
      given = c.swap.ensures.x_after ∙ c.apply_into.ensures.next act entries (ap (λ (r : Run). slice_get r.task.acts c.args.act) c.self.view_is ∙ chosen.2.1.numbered) at ∙ ap (λ (r : Run). next_state r.state entries) c.self.view_is;
    }
