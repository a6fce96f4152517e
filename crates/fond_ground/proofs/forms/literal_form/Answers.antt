use Rattle.std.proofs.Common.{◌∙◌, ap}
use Rattle.std.specs.FinSet as set
use Rattle.fond_ast.specs.Conditions.{ground_atom}
use Rattle.fond_ast.specs.Solutions.{initial}
use Rattle.fond_ground.proofs.Literals.{literal_within, static_literal, tail_of}
use Rattle.fond_ground.proofs.forms.literal_form.Goals as goal

pub returns-in-Some-clause-within : goal.returns-in-Some-clause-within
returns-in-Some-clause-within c =
    let atom = ground_atom c.args.env.now c.args.atom.now in
    literal_within c.args.table.now.facts.task.now atom c.in-Some.number c.args.sign (c.in-Some.ensures.number atom (c.deref.ensures.value ∙ c.in_ok-numbers.ensures))

pub returns-clause-value : goal.returns-clause-value
returns-clause-value c = λ cube.
    let atom = ground_atom c.args.env.now c.args.atom.now in
    let objects = tail_of c.deref-in-None.result.now atom.objects atom.predicate (c.deref-in-None.ensures.value ∙ c.in_ok-numbers.ensures) in
    static_literal c.args.table.now.facts.task.now atom cube c.contains-is_initial.result c.args.sign (c.in-None.ensures.number atom (c.deref.ensures.value ∙ c.in_ok-numbers.ensures))
    (c.contains-is_initial.ensures ∙ ap (λ list. set.contains (initial c.args.table.now.facts.task.now) (record { predicate = atom.predicate; objects = list })) objects)
