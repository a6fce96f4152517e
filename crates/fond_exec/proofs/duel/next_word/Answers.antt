use Rattle.std.proofs.Common.{inr, sym, subst}
use Rattle.fond_exec.specs.Choices.{IsChoice}
use Rattle.fond_exec.specs.Runs.{Run}
use Rattle.fond_exec.specs.Steps.{IsTaken}
use Rattle.fond_exec.specs.declared.choice.Choice.TheVariants.{Chosen}
use Rattle.fond_exec.proofs.duel.next_word.Goals as goal

pub take-requires-clause-chosen : goal.take-requires-clause-chosen
take-requires-clause-chosen c =
    let P : Run → Type 0 = λ r. IsChoice r.task r.rules r.state (Chosen c.in-Chosen.rule c.in-Chosen.act c.in-Chosen.count) in
    subst P (sym c.pick-outcome.ensures.same) c.in-Chosen.ensures

pub returns-clause-word : goal.returns-clause-word
returns-clause-word c =
    let run = c.args.run.now in
    let P : Run → Type 0 = λ r. IsTaken r.task r.rules r.state c.pick-outcome.result c.in-Chosen.rule c.in-Chosen.act c.take.new.self.state in
    let taken : P run = subst P c.pick-outcome.ensures.same c.take.ensures.taken in
    inr (c.in-Chosen.rule, c.in-Chosen.act, taken, c.pick-outcome.ensures.picked taken.act taken.chosen.numbered)
