use Rattle.std.proofs.Common.{◌∙◌, ap}
use Rattle.fond_task.specs.Values.{value}
use Rattle.fond_task.specs.Junctions.{joined}
use Rattle.fond_ground.specs.Signs.{junction_value}
use Rattle.fond_ground.proofs.junction.junction_of.Goals as goal

pub returns-clause-within : goal.returns-clause-within
returns-clause-within c = λ atoms first second. c.form.ensures.within atoms (c.in_ok-add-2.ensures.within atoms second (c.in_ok-add.ensures.within atoms first (c.new-whole.ensures.within atoms)))

pub returns-clause-value : goal.returns-clause-value
returns-clause-value c = λ cube.
    let kind = c.new-whole.ensures.kind in
    let first = c.in_ok-add.ensures.value cube ∙ (λ i. joined (kind i) (c.new-whole.ensures.value cube i) (value cube c.args.first)) in
    c.form.ensures.value cube ∙ c.in_ok-add-2.ensures.value cube ∙ ap (λ j. joined j (junction_value cube c.add.new.self) (value cube c.args.second)) (c.in_ok-add.ensures.kind ∙ kind) ∙ ap (λ v. joined c.args.junction v (value cube c.args.second)) first
