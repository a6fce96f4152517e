use Rattle.std.proofs.Common.{◌+◌, ◌++◌, ◌∷◌, [], List, ℕ, drop, sym, ap, ◌∙◌, append_assoc}
use Rattle.fond_ast.specs.declared.form.LTerm.{LTerm}
use Rattle.fond_types.specs.Ground.{objects_in}
use Rattle.fond_names.proofs.Differs.{next_left}
use Rattle.fond_types.proofs.initial.objects_in.Goals as goal
use Rattle.fond_types.proofs.initial.objects_in.Goals.{in-Object+in_ok-push-in-Object, in-Variable}

pub loop-i-preserved : goal.loop-i-preserved
loop-i-preserved c =
    let terms = c.args.terms.now in
    let i = c.loop-i.i in
    let rest : List LTerm = drop (i + 1) terms in
    let next = next_left terms i c.get.result.now c.get.ensures in
    elim c.match-get.branch [
      | in-Object+in_ok-push-in-Object w ↦
          ap (λ (some : List ℕ). some ++ objects_in rest) (w.objects-is ∙ w.in_ok-push-in-Object.ensures.ok) ∙ append_assoc c.loop-i.objects (w.in-Object.number ∷ []) (objects_in rest)
          ∙ ap (λ (term : LTerm). c.loop-i.objects ++ objects_in (term ∷ rest)) (sym w.in-Object.is) ∙ ap (λ (some : List LTerm). c.loop-i.objects ++ objects_in some) (sym next) ∙ c.loop-i.invariant
      | in-Variable w ↦
          ap (λ (some : List ℕ). some ++ objects_in rest) w.objects-is
          ∙ ap (λ (term : LTerm). c.loop-i.objects ++ objects_in (term ∷ rest)) (sym w.in-Variable.is) ∙ ap (λ (some : List LTerm). c.loop-i.objects ++ objects_in some) (sym next) ∙ c.loop-i.invariant
    ]
