use Rattle.fond_text.specs.Faults.{IsFirstAmong}
use Rattle.fond_text.specs.declared.fault.Fault.{Fault}
use Rattle.fond_tree.proofs.Short.{short_if_read}
use Rattle.fond_front.specs.Tasks.{OccursInTrees}
use Rattle.fond_front.proofs.Tasks.{domain_first, forms_clean, handed_on, problem_first, refuses_also, side_first}
use Rattle.fond_front.proofs.declare.files_of.Goals as goal

pub returns-in_err-domain-clause-refused : goal.returns-in_err-domain-clause-refused
returns-in_err-domain-clause-refused c =
    let occurs = OccursInTrees c.args.trees.now in
    let error = c.in_err-domain.field-0.0 in
    handed_on _ error (IsFirstAmong occurs) c.from_residual.ensures.1
    (refuses_also _ (IsFirstAmong occurs) (λ (fault : Fault). domain_first occurs fault) error c.in_err-domain.ensures.refused)

pub returns-in_err-problem-clause-refused : goal.returns-in_err-problem-clause-refused
returns-in_err-problem-clause-refused c =
    let occurs = OccursInTrees c.args.trees.now in
    let error = c.in_err-problem.field-0.0 in
    handed_on _ error (IsFirstAmong occurs) c.from_residual-in_err-problem.ensures.1
    (refuses_also _ (IsFirstAmong occurs) (λ (fault : Fault). problem_first occurs fault c.in_ok-domain.ensures.clean) error c.in_err-problem.ensures.refused)

pub returns-in_err-side-clause-refused : goal.returns-in_err-side-clause-refused
returns-in_err-side-clause-refused c =
    let occurs = OccursInTrees c.args.trees.now in
    let error = c.in_err-side.field-0.0 in
    handed_on _ error (IsFirstAmong occurs) c.from_residual-in_err-side.ensures.1
    (refuses_also _ (IsFirstAmong occurs) (λ (fault : Fault). side_first occurs fault c.in_ok-domain.ensures.clean c.in_ok-problem.ensures.clean) error (rw c.as_slice.ensures.value at c.in_err-side.ensures.refused))

pub returns-clause-read : goal.returns-clause-read
returns-clause-read c = λ texts read. record {
  trees = c.args.trees.now;
  read = read;
  clean = forms_clean c.args.trees.now c.in_ok-domain.ensures.clean c.in_ok-problem.ensures.clean (rw c.as_slice.ensures.value at c.in_ok-side.ensures.clean);
  domain = c.in_ok-domain.ensures.read;
  problem = c.in_ok-problem.ensures.read;
  side = rw c.as_slice.ensures.value at c.in_ok-side.ensures.read;
}

pub read_domain-requires : goal.read_domain-requires
read_domain-requires c = short_if_read c.requires.0.domain c.args.trees.now.domain c.requires.1.domain

pub read_problem-requires : goal.read_problem-requires
read_problem-requires c = short_if_read c.requires.0.problem c.args.trees.now.problem c.requires.1.problem
