use Rattle.std.proofs.Common.{[], subst}
use Rattle.fond_ast.specs.declared.files.InitAtom.{InitAtom}
use Rattle.fond_text.specs.Firsts.{IsFirst}
use Rattle.fond_names.specs.Faults.{OccursAt}
use Rattle.fond_names.specs.Files.{declarations_of}
use Rattle.fond_names.specs.Sites.{Scope, AnAtom}
use Rattle.fond_names.proofs.SiteLemmas.{site_more}
use Rattle.fond_names.proofs.sites.init_fault.Goals as goal

pub loop-i-preserved : goal.loop-i-preserved
loop-i-preserved c =
    let files = declarations_of c.args.files.now in
    let initial = c.get-initial.result.now in
    record {
      first = site_more files (λ (one : InitAtom). AnAtom [] one.atom) c.args.files.now.problem.now.init c.loop-i.i initial c.loop-i.first c.in_ok-atom_fault.field-0 c.earlier-first.result c.get-initial.ensures c.loop-i.invariant.first
          (subst (λ (around : Scope). IsFirst (λ place code. OccursAt files place code (AnAtom around initial.atom)) c.in_ok-atom_fault.field-0) c.outside-outside.ensures c.in_ok-atom_fault.ensures.first) c.earlier-first.ensures;
      told = c.in_ok-atom_fault.ensures.told;
    }
