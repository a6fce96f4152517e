use Rattle.std.proofs.Common.{[], map, subst}
use Rattle.fond_ast.specs.declared.files.InitAtom.{InitAtom}
use Rattle.fond_text.specs.Firsts.{IsFirst}
use Rattle.fond_names.specs.Faults.{OccursAmong}
use Rattle.fond_names.specs.Files.{declarations_of}
use Rattle.fond_names.specs.Sites.{Scope, AnAtom, condition_sites}
use Rattle.fond_names.proofs.SiteLemmas.{sites_both}
use Rattle.fond_names.proofs.sites.problem_site_fault.Goals as goal

pub returns : goal.returns
returns c =
    let files = declarations_of c.args.files.now in
    let problem = c.args.files.now.problem.now in
    sites_both files (map (λ (one : InitAtom). AnAtom [] one.atom) problem.init) (condition_sites problem.goal []) c.in_ok-first.first c.in_ok-condition_fault.field-0 c.earlier.result c.in_ok-first.ensures
    (subst (λ (around : Scope). IsFirst (OccursAmong files (condition_sites problem.goal around)) c.in_ok-condition_fault.field-0) c.outside-outside.ensures c.in_ok-condition_fault.ensures.first) c.earlier.ensures
