use Rattle.std.proofs.Common.{ap, ◌∙◌, slice_get}
use Rattle.fond_cert.specs.declared.values.LineValues.{LineValues}
use Rattle.fond_cert.proofs.Filled.{same_some}
use Rattle.fond_cert.proofs.item.pair_of.Goals as goal

pub returns : goal.returns
returns c task m of hold =
    let cond = same_some _ _ (c.cube_of.ensures.cube ∙ ap (λ (values : LineValues). values.cube) hold) in
    let act = ap (λ (values : LineValues). values.act) (c.cube_of.ensures.rest) ∙ ap (λ (values : LineValues). values.act) hold in
    let numbers = ap (λ (values : LineValues). values.numbers) (c.cube_of.ensures.rest) ∙ ap (λ (values : LineValues). values.numbers) hold in
    let outcome = c.short.ensures m.1.0 (ap (λ numbers. slice_get numbers 0) numbers) of.1.0 in
    let layer = c.short-2.ensures m.1.1.0 (ap (λ numbers. slice_get numbers 1) numbers) of.1.1.0 in
    let cube = c.short-3.ensures m.1.1.1.0 (ap (λ numbers. slice_get numbers 2) numbers) of.1.1.1.0 in
    λ i. record { cond = cond i; act = act i; outcome = outcome i; layer = layer i; cube = cube i }
