use Rattle.std.proofs.Common.{ℕ, refl, sym, subst, arith}
use Rattle.std.proofs.lemmas.Bool.{false≢true}
use Rattle.std.proofs.lemmas.Result.{IfOk-weaker}
use Rattle.std.specs.Prelude.{Decides}
use Rattle.fond_task.specs.Layers.{IsSureLayer}
use Rattle.fond_layers.specs.Over.{IsOver}
use Rattle.fond_draft.specs.Learning.{MayComeNext}
use Rattle.fond_draft.proofs.draft.Draft.learn_layer.Goals as goal

pub push_layer-requires-clause-over : goal.push_layer-requires-clause-over
push_layer-requires-clause-over c = subst (λ (n : ℕ). IsOver n c.args.layer) c.len-2.ensures (c.if-not-is_over.ensures.0 refl)

pub returns-clause-decides : goal.returns-clause-decides
returns-clause-decides c =
    let task = c.args.t.now in
    let layers = c.args.self.now.layers in
    let layer = c.args.layer in
    let over = subst (λ (n : ℕ). IsOver n layer) c.len-2.ensures (c.if-not-is_over.ensures.0 refl) in
    IfOk-weaker c.push_layer.result (λ kept. Decides kept (IsSureLayer task layers layer)) (λ kept. Decides kept (MayComeNext task layers layer))
    (λ kept told. (λ yes. record { few = omega (arith, c.if-len.false, c.len.ensures); over = over; sure = told.0 yes }, λ next. told.1 next.sure))
    c.push_layer.ensures.decides

pub returns-then-len-clause-decides : goal.returns-then-len-clause-decides
returns-then-len-clause-decides c = (λ yes. absurd (false≢true yes), λ next. absurd (omega (arith, next.few, c.if-len.true, c.len.ensures)))

pub returns-then-not-is_over-clause-decides : goal.returns-then-not-is_over-clause-decides
returns-then-not-is_over-clause-decides c = (
  λ yes. absurd (false≢true yes),
  λ next. c.if-not-is_over.ensures.1 (subst (λ (n : ℕ). IsOver n c.args.layer) (sym c.len-2.ensures) next.over),
)
