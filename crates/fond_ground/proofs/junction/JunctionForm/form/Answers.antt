use Rattle.std.proofs.Common.{◌≡◌, ◌∙◌, [], refl, sym, ap, arith}
use Rattle.std.proofs.lemmas.Grind.{common_steps}
use Rattle.fond_task.specs.Junctions.{neutral}
use Rattle.fond_ground.proofs.Signs.{decided_value, neutral_value}
use Rattle.fond_ground.proofs.Withins.{within-And, within-Or}
use Rattle.fond_ground.proofs.junction.JunctionForm.form.Goals as goal

pub returns-then-self-clause-within : goal.returns-then-self-clause-within
returns-then-self-clause-within c = λ atoms h. c.constant.ensures.within atoms

pub returns-then-self-clause-value : goal.returns-then-self-clause-value
returns-then-self-clause-value c = λ cube. c.constant.ensures.value cube ∙ ap neutral c.dual.ensures ∙ sym (decided_value cube c.args.self c.args.self.junction c.if-self.true refl)

pub returns-then-is_empty-clause-within : goal.returns-then-is_empty-clause-within
returns-then-is_empty-clause-within c = λ atoms h. c.constant-then-is_empty.ensures.within atoms

pub returns-then-is_empty-clause-value : goal.returns-then-is_empty-clause-value
returns-then-is_empty-clause-value c = λ cube.
    let none : c.args.self.parts.items ≡ [] = grind (arith, common_steps) in
    c.constant-then-is_empty.ensures.value cube ∙ sym (neutral_value cube c.args.self c.if-self.false none)

pub returns-in-All-clause-within : goal.returns-in-All-clause-within
returns-in-All-clause-within c = λ atoms h. within-And atoms c.args.self.parts h

pub returns-in-Any-clause-within : goal.returns-in-Any-clause-within
returns-in-Any-clause-within c = λ atoms h. within-Or atoms c.args.self.parts h
