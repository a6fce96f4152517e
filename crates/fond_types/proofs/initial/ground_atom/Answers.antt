use Rattle.std.proofs.Common.{◌≡◌, ◌&&◌, true, false, List, ℕ, [], map, length, slice_get, ap, ◌∙◌, subst}
use Rattle.std.specs.Option.{option_map_or}
use Rattle.fond_text.specs.Lists.{each_passes}
use Rattle.fond_ast.specs.Ranges.{objects_of, is_among}
use Rattle.fond_ast.specs.Within.{is_atom_within}
use Rattle.fond_ast.specs.declared.names.Term.{Term}
use Rattle.fond_ast.specs.declared.task.LPredicate.{LPredicate}
use Rattle.fond_types.specs.Meanings.{meanings, ranges_around}
use Rattle.fond_names.specs.Names.{objects_declared}
use Rattle.fond_types.specs.Resolves.{is_number_of, is_term, is_atom}
use Rattle.fond_names.specs.Sites.{Scope}
use Rattle.fond_types.proofs.GroundLemmas.{ground_terms, ground_within}
use Rattle.fond_names.proofs.Members.{and_parts, and_both}
use Rattle.fond_types.proofs.initial.ground_atom.Goals as goal

pub returns-clause-resolved : goal.returns-clause-resolved
returns-clause-resolved c =
    let all = meanings c.args.context.now.files in
    let atom = c.args.atom.now in
    let number = c.in_ok-number.number in
    let resolved : is_atom all [] atom number ≡ true = subst (λ (around : Scope). is_atom all around atom number ≡ true) c.outside-outside.ensures c.in_ok-number.ensures.resolved in
    let both = and_parts (is_number_of all.predicates atom.name number.predicate) (each_passes (map (is_term all []) atom.terms) number.terms) resolved in
    ap (λ objects. is_number_of all.predicates atom.name number.predicate && each_passes (map (λ (term : Term). is_number_of all.objects term.name) atom.terms) objects) c.in_ok-objects_in.ensures
    ∙ and_both (is_number_of all.predicates atom.name number.predicate) _ both.0 (ground_terms all atom.terms number.terms both.1)

pub returns-clause-within : goal.returns-clause-within
returns-clause-within c =
    let files = c.args.context.now.files in
    let predicates = c.args.context.now.predicates in
    let number = c.in_ok-number.number in
    let count = length (objects_declared files) in
    let within : is_atom_within count predicates number [] ≡ true = subst (λ (around : Scope). is_atom_within count predicates number (ranges_around (meanings files).range around) ≡ true) c.outside-outside.ensures c.in_ok-number.ensures.within in
    ap (λ (objects : List ℕ). option_map_or (λ (predicate : LPredicate). each_passes (map is_among (objects_of predicate.ranges)) objects) (slice_get predicates number.predicate) false) c.in_ok-objects_in.ensures ∙ ground_within count predicates number within
