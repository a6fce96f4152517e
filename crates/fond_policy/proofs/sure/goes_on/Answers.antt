use Rattle.std.proofs.Common.{◌≡◌, ◌∙◌, ℕ, ◌<◌, Some, length, refl, sym, ap, subst}
use Rattle.std.specs.Prelude.{slice_get, IsTrue}
use Rattle.std.proofs.lemmas.Option.{same_Some}
use Rattle.std.proofs.lemmas.Bool.{false≢true}
use Rattle.fond_task.specs.Within.{is_act_within}
use Rattle.fond_task.specs.declared.task.Act.{Act}
use Rattle.fond_task.proofs.Found.{all_at}
use Rattle.fond_policy.specs.Items.{First, LeadInto}
use Rattle.fond_policy.proofs.Ruled.{of_act}
use Rattle.fond_policy.proofs.sure.goes_on.Goals as goal

pub get-requires : goal.get-requires
get-requires g c =
    let first = of_act (g.R.Firsts.firsts c.args.rules.now) c.args.rule c.in-Some.act c.in-Some.ensures in
    let small = (c.requires.belong c.args.rule first.0 first.1).1 in
    subst (λ n. n < length c.args.t.now.acts) first.2 small

pub lead_into-requires-clause-within : goal.lead_into-requires-clause-within
lead_into-requires-clause-within g c =
    let P : ℕ → Type 0 = λ n. IsTrue (is_act_within n c.get.result.now) in
    subst P (sym c.requires.cube_over) (all_at (is_act_within (length c.args.t.now.atoms)) c.args.t.now.acts c.in-Some.act c.get.result.now c.args.t.now.acts_within c.get.ensures)

pub returns-then-lead_into-clause-decides : goal.returns-then-lead_into-clause-decides
returns-then-lead_into-clause-decides g c =
    let firsts = g.R.Firsts.firsts c.args.rules.now in
    let acts = c.args.t.now.acts in
    let first = of_act firsts c.args.rule c.in-Some.act c.in-Some.ensures in
    let same : (other : First) → slice_get firsts c.args.rule ≡ Some other → other.act ≡ c.in-Some.act = λ other at. ap (λ (f : First). f.act) (same_Some other first.0 (sym at ∙ first.1)) ∙ first.2 in (
      λ e. let on = c.first_on.ensures.0 e in record { on = on; act = c.get.result.now; has_act = ap (slice_get acts) (same on.first on.numbered) ∙ c.get.ensures; leads = c.if-lead_into.ensures.decides.0 refl },
      λ goes. c.first_on.ensures.1 goes.on,
    )

pub returns-else-lead_into-clause-decides : goal.returns-else-lead_into-clause-decides
returns-else-lead_into-clause-decides g c =
    let firsts = g.R.Firsts.firsts c.args.rules.now in
    let acts = c.args.t.now.acts in
    let first = of_act firsts c.args.rule c.in-Some.act c.in-Some.ensures in
    let same : (other : First) → slice_get firsts c.args.rule ≡ Some other → other.act ≡ c.in-Some.act = λ other at. ap (λ (f : First). f.act) (same_Some other first.0 (sym at ∙ first.1)) ∙ first.2 in (
      λ e. absurd (false≢true (sym c.if-lead_into.false ∙ e)),
      λ goes. c.lead_into.ensures.decides.1 (subst (λ (a : Act). LeadInto c.args.others.now a c.args.cube.now c.args.numbers.now)
          (same_Some goes.act c.get.result.now (sym goes.has_act ∙ ap (slice_get acts) (same goes.on.first goes.on.numbered) ∙ c.get.ensures)) goes.leads),
    )
