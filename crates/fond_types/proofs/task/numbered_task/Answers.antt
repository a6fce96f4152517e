use Rattle.std.proofs.Common.{◌≡◌, inr, true, sym, subst}
use Rattle.fond_text.specs.declared.place.FileKind.TheVariants as kind
use Rattle.fond_names.specs.Files.{declarations_of}
use Rattle.fond_names.specs.Names.{Declarations}
use Rattle.fond_names.specs.Sites.{domain_sites, problem_sites}
use Rattle.fond_types.specs.Sound.{are_sound}
use Rattle.fond_types.proofs.CleanLemmas.{sound_if_clean}
use Rattle.fond_types.proofs.task.numbered_task.Goals as goal

pub with_shared_ranges-requires-clause-domain : goal.with_shared_ranges-requires-clause-domain
with_shared_ranges-requires-clause-domain c =
    let files = declarations_of c.args.files.now in
    subst (λ (some : Declarations). are_sound some (domain_sites some.domain) ≡ true) (sym c.in_ok-table.ensures)
    (sound_if_clean files (domain_sites files.domain) (λ place code h. c.requires kind.Domain place code (inr (inr (inr (inr (inr (inr h))))))))

pub with_shared_ranges-requires-clause-problem : goal.with_shared_ranges-requires-clause-problem
with_shared_ranges-requires-clause-problem c =
    let files = declarations_of c.args.files.now in
    subst (λ (some : Declarations). are_sound some (problem_sites some.problem) ≡ true) (sym c.in_ok-table.ensures)
    (sound_if_clean files (problem_sites files.problem) (λ place code h. c.requires kind.Problem place code (inr (inr h))))
