use Rattle.std.proofs.Common.{◌≡◌, ◌<◌, List, Bool, [], length, get_or, sym, ap, ◌∙◌, subst, arith}
use Rattle.std.proofs.lemmas.Option.{same_Some, slice_get-get_or}
use Rattle.fond_task.specs.declared.task.Act.{Act}
use Rattle.fond_task.specs.Certificates.{LiesInLayers}
use Rattle.fond_task.proofs.Lists.{Contains_numbered}
use Rattle.fond_explicit.proofs.Grown.{few_outcomes}
use Rattle.fond_weak.proofs.Lost.{dead_lies}
use Rattle.fond_weak.proofs.opening.may_lose.Goals as goal

pub overflow_cast-outcome : goal.overflow_cast-outcome
overflow_cast-outcome c = omega (arith, few_outcomes c.args.setting.now.task.now c.args.act c.get.result.now c.get.ensures, c.loop-outcome-test.true, (c.len-outcome-end.ensures ∙ ap length c.deref.ensures))

pub returns-then-is_some-clause-loses : goal.returns-then-is_some-clause-loses
returns-then-is_some-clause-loses c = λ some a at.
    let layers = c.args.setting.now.layers.now in
    let k = c.loop-outcome.outcome in
    let same : c.get.result.now ≡ a = same_Some c.get.result.now a (sym c.get.ensures ∙ at) in
    let within : k < length a.outcomes = omega (arith, c.loop-outcome-test.true, (c.len-outcome-end.ensures ∙ ap length c.deref.ensures), ap (λ (x : Act). length x.outcomes) same) in
    let entries = get_or a.outcomes k [] in
    let has = slice_get-get_or a.outcomes k [] within in
    let lies = dead_lies c.apply_into.new.out layers c.dead.result c.dead.ensures (sym c.is_some.ensures ∙ c.if-is_some.true) in
    record {
      entries = entries;
      one = Contains_numbered a.outcomes k entries has;
      lies = subst (λ (s : List Bool). LiesInLayers s layers) (c.apply_into.ensures.next a entries at has) lies;
    }
