use Rattle.fond_text.specs.Faults.{IsFirstAmong}
use Rattle.fond_text.specs.declared.fault.Fault.{Fault}
use Rattle.fond_text.specs.declared.place.FileKind.TheVariants.{Domain, Problem, Side}
use Rattle.fond_front.specs.Tasks.{OccursInTexts}
use Rattle.fond_front.proofs.Tasks.{domain_first, handed_on, problem_first, refuses_also, side_first, text_clean, text_least, forest_least}
use Rattle.fond_front.proofs.parse.parse.Goals as goal

pub returns-in_err-domain-clause-refused : goal.returns-in_err-domain-clause-refused
returns-in_err-domain-clause-refused c =
    let occurs = OccursInTexts c.args.texts.now in
    let error = c.in_err-domain.field-0.0 in
    let least = text_least Domain c.args.texts.now.domain error (rw c.domain.ensures at c.in_err-domain.ensures.refused) in
    handed_on _ error (IsFirstAmong occurs) c.from_residual.ensures.1 (refuses_also _ (IsFirstAmong occurs) (λ (fault : Fault). domain_first occurs fault) error least)

pub returns-in_err-problem-clause-refused : goal.returns-in_err-problem-clause-refused
returns-in_err-problem-clause-refused c =
    let occurs = OccursInTexts c.args.texts.now in
    let error = c.in_err-problem.field-0.0 in
    let domain = text_clean c.args.texts.now.domain c.in_ok-domain.domain (rw c.domain.ensures at c.in_ok-domain.ensures.ok) in
    let least = text_least Problem c.args.texts.now.problem error (rw c.problem.ensures at c.in_err-problem.ensures.refused) in
    handed_on _ error (IsFirstAmong occurs) c.from_residual-in_err-problem.ensures.1 (refuses_also _ (IsFirstAmong occurs) (λ (fault : Fault). problem_first occurs fault domain) error least)

pub returns-in_err-side-clause-refused : goal.returns-in_err-side-clause-refused
returns-in_err-side-clause-refused c =
    let occurs = OccursInTexts c.args.texts.now in
    let error = c.in_err-side.field-0.0 in
    let domain = text_clean c.args.texts.now.domain c.in_ok-domain.domain (rw c.domain.ensures at c.in_ok-domain.ensures.ok) in
    let problem = text_clean c.args.texts.now.problem c.in_ok-problem.problem (rw c.problem.ensures at c.in_ok-problem.ensures.ok) in
    let least = forest_least Side c.args.texts.now.side error (rw c.side.ensures at c.in_err-side.ensures.refused) in
    handed_on _ error (IsFirstAmong occurs) c.from_residual-in_err-side.ensures.1 (refuses_also _ (IsFirstAmong occurs) (λ (fault : Fault). side_first occurs fault domain problem) error least)

pub returns-clause-read : goal.returns-clause-read
returns-clause-read c = record {
  domain = rw c.domain.ensures at c.in_ok-domain.ensures.ok;
  problem = rw c.problem.ensures at c.in_ok-problem.ensures.ok;
  side = rw c.side.ensures at c.in_ok-side.ensures.ok;
}
