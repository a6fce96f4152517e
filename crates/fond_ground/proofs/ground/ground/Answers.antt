use Rattle.std.proofs.Common.{◌≡◌, ◌∙◌, length, sym, ap, arith}
use Rattle.std.specs.FinSet as set
use Rattle.std.specs.List.{list_all}
use Rattle.std.proofs.lemmas.List.{length-map}
use Rattle.fond_ast.specs.Solutions.{initial}
use Rattle.fond_task.specs.Within.{is_act_within, is_form_within}
use Rattle.fond_task.specs.Distinct.{are_distinct_atoms}
use Rattle.fond_task.specs.Named.{is_named_action, is_named_atom}
use Rattle.fond_text.specs.Lists.{are_distinct_texts}
use Rattle.fond_text.specs.declared.code.TheConstants.{TOO_MANY_ATOMS}
use Rattle.fond_text.specs.declared.fault.Fault.{Fault}
use Rattle.fond_ground.specs.Atoms.{fluent_atoms}
use Rattle.fond_ground.specs.Faults.{at_domain, HasManyAtoms, IsGroundFault}
use Rattle.fond_ground.specs.Grounds.{kept_actions, IsActOf}
use Rattle.fond_ground.proofs.Actions.{handed_on, refuses_map}
use Rattle.fond_ground.proofs.Distincts.{acts-distinct, atoms-distinct}
use Rattle.fond_ground.proofs.Named.{acts-named, atoms-named}
use Rattle.fond_ground.proofs.Refusals.{no_fault, refused_atoms}
use Rattle.fond_ground.proofs.Zips.{zip-length}
use Rattle.fond_ground.proofs.ground.ground.Goals as goal

pub returns-in_err-atoms-clause-refused : goal.returns-in_err-atoms-clause-refused
returns-in_err-atoms-clause-refused c =
    let task = c.args.task.now in
    handed_on _ _ _ c.from_residual.ensures.1
    (refuses_map (λ (fault : Fault). (fault ≡ at_domain task.place TOO_MANY_ATOMS) × HasManyAtoms task) (IsGroundFault task) (refused_atoms task) _ c.in_err-atoms.ensures.many)

pub returns-in_err-parts-clause-refused : goal.returns-in_err-parts-clause-refused
returns-in_err-parts-clause-refused c = handed_on _ _ _ c.from_residual-in_err-parts.ensures.1 c.in_err-parts.ensures.refused

pub returns-clause-clean : goal.returns-clause-clean
returns-clause-clean c =
    let acts = c.in_ok-parts.ensures.parts.acts in
    no_fault c.args.task.now c.in_ok-atoms.ensures.atoms.1 acts.few acts.few_outcomes

pub returns-clause-grounded : goal.returns-clause-grounded
returns-clause-grounded c = record {
  atoms = c.in_ok-atoms.ensures.atoms.0;
  acts = c.in_ok-parts.ensures.parts.acts.each;
  init = c.in_ok-parts.ensures.parts.init;
  goal = c.in_ok-parts.ensures.parts.goal;
  labels = c.in_ok-labels.ensures.labels;
}

pub invariant_of-result : goal.invariant_of-result
invariant_of-result c =
    let task = c.args.task.now in
    let atoms = c.in_ok-atoms.ensures.atoms.0 in
    let few = c.in_ok-atoms.ensures.atoms.1 in
    let parts = c.in_ok-parts.ensures.parts in
    let all = c.in_ok-parts.parts.acts in
    let count = zip-length (IsActOf task) (kept_actions task) all parts.acts.each in
    let long = ap length atoms in
    let labels = c.in_ok-labels.ensures.labels in
    record {
      few_atoms = omega (arith, long, few);
      few_acts = let fewer = parts.acts.few in omega (arith, count, fewer);
      distinct_atoms = ap are_distinct_atoms atoms ∙ atoms-distinct task;
      distinct_acts = acts-distinct task all parts.acts.each;
      distinct_predicates = ap (λ some. are_distinct_texts some.predicates) labels ∙ task.distinct_predicates;
      distinct_objects = ap (λ some. are_distinct_texts some.objects) labels ∙ task.distinct_objects;
      distinct_schemas = ap (λ some. are_distinct_texts some.schemas) labels ∙ task.distinct_schemas;
      predicate_names = c.in_ok-labels.ensures.predicates;
      object_names = c.in_ok-labels.ensures.objects;
      schema_names = c.in_ok-labels.ensures.schemas;
      named_atoms = (λ i. list_all (is_named_atom (labels i)) (atoms i)) ∙ atoms-named task;
      named_acts = ap (λ some. list_all (λ act. is_named_action some act.ground) all) labels ∙ acts-named task all parts.acts.each;
      init_long = ap length parts.init ∙ length-map (fluent_atoms task) (set.contains (initial task)) ∙ sym long;
      goal_within = ap (λ n. is_form_within n c.in_ok-parts.parts.goal) long ∙ parts.goal_within;
      acts_within = ap (λ n. list_all (is_act_within n) all) long ∙ parts.acts.within;
    }
