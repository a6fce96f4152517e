use Rattle.std.proofs.Common.{ap, ◌∙◌, slice_get}
use Rattle.fond_task.specs.declared.rule.Targets.TheVariants.{One}
use Rattle.fond_cert.specs.declared.values.LineValues.{LineValues}
use Rattle.fond_cert.proofs.Filled.{same_some}
use Rattle.fond_cert.proofs.item.fair_of.Goals as goal

pub returns : goal.returns
returns c task m of hold =
    let same = c.cube_of-cond.ensures.rest in
    let cond = same_some _ _ (c.cube_of-cond.ensures.cube ∙ ap (λ (values : LineValues). values.cube) hold) in
    let act = ap (λ (values : LineValues). values.act) same ∙ ap (λ (values : LineValues). values.act) hold in
    let outcome = c.short.ensures m.1.0 (ap (λ (values : LineValues). slice_get values.numbers 0) same ∙ ap (λ (values : LineValues). slice_get values.numbers 0) hold) of.1.0 in
    let target = c.target.ensures m.1.1.0 (ap (λ (values : LineValues). slice_get values.targets 0) same ∙ ap (λ (values : LineValues). slice_get values.targets 0) hold) in
    λ i. record { cond = cond i; act = act i; targets = One (outcome i) (target i) }
