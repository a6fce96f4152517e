use Rattle.std.proofs.Common.{◌<◌, sym, subst, arith}
use Rattle.std.proofs.lemmas.Option.{slice_get_within}
use Rattle.fond_exec.proofs.Chosen.{counted_outcomes}
use Rattle.fond_exec.proofs.Duelling.{named_within}
use Rattle.fond_exec.proofs.duel.pick.Goals as goal

pub returns-then-get-clause-one : goal.returns-then-get-clause-one
returns-then-get-clause-one c =
    let own = c.requires.chosen.2 in
    let heavy = c.heaviest.ensures.heaviest own.0 own.1.numbered in
    let within = slice_get_within own.0.outcomes c.heaviest.result heavy.own heavy.numbered in
    omega (arith, within, own.2)

pub returns-clause-one : goal.returns-clause-one
returns-clause-one c =
    let own = c.requires.chosen.2 in
    let some = counted_outcomes c.args.run.now.task c.args.act own.0 own.1.numbered in
    subst (λ n. n < c.args.count) (sym c.named.ensures) (named_within c.get-2.result.now.targets c.args.count (omega (arith, some.0, own.2)))
