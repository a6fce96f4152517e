use Rattle.std.proofs.Common.{[], ◌∷◌, codes, map, refl, sym, subst, arith}
use Rattle.std.specs.List.{AllByRecursion, AllZip}
use Rattle.fond_tree.specs.declared.role.Role.TheVariants as role
use Rattle.fond_tree.specs.FormFaults.{Fits}
use Rattle.fond_reader.specs.Bodies.{is_condition, is_initial}
use Rattle.fond_reader.specs.Sorts.{FitsTyped}
use Rattle.fond_reader.specs.declared.typed.Sort.TheVariants.{Names}
use Rattle.fond_reader.proofs.Counts.{names_of_one_kind}
use Rattle.fond_reader.proofs.FileFacts.{short_sections, names_few, goal_few, names_along, each_along}
use Rattle.fond_reader.proofs.FileFits.{problem_fits_at}
use Rattle.fond_reader.proofs.problem.problem_of.Goals as goal

pub contents_of-requires : goal.contents_of-requires
contents_of-requires c = (problem_fits_at c.args.tree.now _ c.requires.fits c.sections_of-sections.ensures).single (codes ":objects") (2, omega arith, refl)

pub read_typed-requires : goal.read_typed-requires
read_typed-requires c =
    let fits = problem_fits_at c.args.tree.now _ c.requires.fits c.sections_of-sections.ensures in subst (FitsTyped Names) (sym c.contents_of.ensures) fits.objects

pub contents_of-requires-2 : goal.contents_of-requires-2
contents_of-requires-2 c = (problem_fits_at c.args.tree.now _ c.requires.fits c.sections_of-sections.ensures).single (codes ":init") (3, omega arith, refl)

pub read_initials-requires : goal.read_initials-requires
read_initials-requires c =
    let fits = problem_fits_at c.args.tree.now _ c.requires.fits c.sections_of-sections.ensures in subst (AllByRecursion (Fits role.Initial)) (sym c.contents_of-2.ensures) fits.init

pub contents_of-requires-3 : goal.contents_of-requires-3
contents_of-requires-3 c = (problem_fits_at c.args.tree.now _ c.requires.fits c.sections_of-sections.ensures).single (codes ":goal") (4, omega arith, refl)

pub read_goal-requires : goal.read_goal-requires
read_goal-requires c =
    let fits = problem_fits_at c.args.tree.now _ c.requires.fits c.sections_of-sections.ensures in
    record { fit = subst (AllZip Fits (role.Condition ∷ [])) (sym c.contents_of-3.ensures) fits.goal }

pub invariant_of-result-clause-one_kind : goal.invariant_of-result-clause-one_kind
invariant_of-result-clause-one_kind c = names_of_one_kind c.in_ok-objects.objects _ c.in_ok-objects.ensures

pub invariant_of-result-clause-few_objects : goal.invariant_of-result-clause-few_objects
invariant_of-result-clause-few_objects c =
    let fits = problem_fits_at c.args.tree.now _ c.requires.fits c.sections_of-sections.ensures in
    let short = short_sections (codes "problem") c.args.tree.now _ fits.file c.requires.short in
    names_few _ short (codes ":objects") c.in_ok-objects.objects (names_along c.in_ok-objects.objects _ _ c.contents_of.ensures c.in_ok-objects.ensures)

pub invariant_of-result-clause-few_variables : goal.invariant_of-result-clause-few_variables
invariant_of-result-clause-few_variables c =
    let fits = problem_fits_at c.args.tree.now _ c.requires.fits c.sections_of-sections.ensures in
    let short = short_sections (codes "problem") c.args.tree.now _ fits.file c.requires.short in
    goal_few _ short (codes ":goal") c.in_ok-goal.goal (each_along (is_condition c.in_ok-goal.goal ∷ []) _ _ c.contents_of-3.ensures c.in_ok-goal.ensures)

pub returns : goal.returns
returns c =
    let fits = problem_fits_at c.args.tree.now _ c.requires.fits c.sections_of-sections.ensures in
    record {
      sections = c.sections_of-sections.result.now;
      file = fits.file;
      place = c.place.ensures;
      known = fits.known;
      single = fits.single;
      domain = fits.domain;
      objects = names_along c.in_ok-objects.objects _ _ c.contents_of.ensures c.in_ok-objects.ensures;
      init = each_along (map is_initial c.in_ok-init.init) _ _ c.contents_of-2.ensures c.in_ok-init.ensures;
      goal = each_along (is_condition c.in_ok-goal.goal ∷ []) _ _ c.contents_of-3.ensures c.in_ok-goal.ensures;
    }
