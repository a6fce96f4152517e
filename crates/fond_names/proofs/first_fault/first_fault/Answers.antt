use Rattle.std.proofs.Common.{Option, sym, subst}
use Rattle.fond_text.specs.declared.first.Found.{Found}
use Rattle.fond_text.specs.declared.place.FileKind.TheVariants as kind
use Rattle.fond_text.specs.Faults.{IsFirstAmong}
use Rattle.fond_text.specs.Firsts.{IsFirst}
use Rattle.fond_names.specs.Faults.{StandsInNames}
use Rattle.fond_names.specs.Files.{declarations_of}
use Rattle.fond_names.proofs.Order.{first_in_domain, first_in_problem, first_in_side, none_among}
use Rattle.fond_names.proofs.first_fault.first_fault.Goals as goal

pub returns-in-Some-clause-first : goal.returns-in-Some-clause-first
returns-in-Some-clause-first c =
    let occurs = StandsInNames (declarations_of c.args.files.now) in
    let found = c.in-Some.found in
    subst (IsFirstAmong occurs) (sym c.fault_in.ensures)
    (first_in_domain occurs found (subst (λ (one : Option Found). IsFirst (occurs kind.Domain) one) c.in-Some.is c.in_ok-found.ensures))

pub returns-in-Some-2-clause-first : goal.returns-in-Some-2-clause-first
returns-in-Some-2-clause-first c =
    let occurs = StandsInNames (declarations_of c.args.files.now) in
    let domain = subst (λ (one : Option Found). IsFirst (occurs kind.Domain) one) c.in_default.is c.in_ok-found.ensures in
    subst (IsFirstAmong occurs) (sym c.fault_in-in-Some-2.ensures)
    (first_in_problem occurs domain c.in-Some-2.found (subst (λ (one : Option Found). IsFirst (occurs kind.Problem) one) c.in-Some-2.is c.in_ok-found-2.ensures))

pub returns-in-Some-side_fault-clause-first : goal.returns-in-Some-side_fault-clause-first
returns-in-Some-side_fault-clause-first c =
    let occurs = StandsInNames (declarations_of c.args.files.now) in
    let domain = subst (λ (one : Option Found). IsFirst (occurs kind.Domain) one) c.in_default.is c.in_ok-found.ensures in
    let problem = subst (λ (one : Option Found). IsFirst (occurs kind.Problem) one) c.in_default-2.is c.in_ok-found-2.ensures in
    subst (IsFirstAmong occurs) (sym c.fault_in-in-Some-side_fault.ensures) (first_in_side occurs domain problem c.in-Some-side_fault.found c.in-Some-side_fault.ensures)

pub returns-in-None-clause-none : goal.returns-in-None-clause-none
returns-in-None-clause-none c =
    let occurs = StandsInNames (declarations_of c.args.files.now) in
    let domain = subst (λ (one : Option Found). IsFirst (occurs kind.Domain) one) c.in_default.is c.in_ok-found.ensures in
    let problem = subst (λ (one : Option Found). IsFirst (occurs kind.Problem) one) c.in_default-2.is c.in_ok-found-2.ensures in
    none_among occurs domain problem c.in-None.ensures
