use Rattle.std.proofs.Common.{◌≡◌, true, false, None, is_some, map, sym, ap, ◌∙◌}
use Rattle.fond_text.specs.Lists.{each_passes}
use Rattle.fond_ast.specs.declared.files.Declared.{Declared}
use Rattle.fond_ast.specs.declared.form.LAtom.{LAtom}
use Rattle.fond_store.specs.Texts.{number_beside}
use Rattle.fond_types.specs.Meanings.{meanings, numbered_from}
use Rattle.fond_types.specs.Resolves.{is_number_of, is_term, is_atom}
use Rattle.fond_types.proofs.AtomLemmas.{atom_known, sound_atom, atom_within, atom_fluent}
use Rattle.fond_names.proofs.Members.{and_both}
use Rattle.fond_types.proofs.Numbering.{has_number, number_is}
use Rattle.fond_types.proofs.TermLemmas.{first_among}
use Rattle.fond_types.proofs.numbered_atom.numbered_atom.Goals as goal
use Rattle.fond_types.proofs.numbered_atom.numbered_atom.Goals.{In-Some}

pub numbered_terms-requires-clause-known : goal.numbered_terms-requires-clause-known
numbered_terms-requires-clause-known c = atom_known c.args.context.now.files c.args.around.now c.args.atom.now c.requires.sound

pub unreachable-requires : goal.unreachable-requires
unreachable-requires c =
    let files = c.args.context.now.files in
    let name = c.args.atom.now.name in
    let names = (meanings files).predicates in
    let none : number_beside (numbered_from 0 names) name ≡ None = sym c.in-None.ensures.found in
    let sound = sound_atom files c.args.around.now c.args.atom.now c.requires.sound in
    let there = first_among (λ (one : Declared). one.name) files.domain.predicates name in
    let other : false ≡ true =
    sym (ap (λ found. is_some found) none) ∙ has_number 0 names name ∙ sym there ∙ ap (λ found. is_some found) sound.1 in
    cc (other)

is_resolved : (c : In-Some) → is_atom (meanings c.args.context.now.files) c.args.around.now c.args.atom.now (record { predicate = c.in-Some.predicate; terms = c.in_ok-terms.terms }) ≡ true
is_resolved c =
    let all = meanings c.args.context.now.files in
    let name = c.args.atom.now.name in
    let number = c.in-Some.predicate in
    and_both (is_number_of all.predicates name number) (each_passes (map (is_term all c.args.around.now) c.args.atom.now.terms) c.in_ok-terms.terms)
    (number_is all.predicates name number (sym c.in-Some.ensures.found)) c.in_ok-terms.ensures

pub returns-clause-resolved : goal.returns-clause-resolved
returns-clause-resolved c = is_resolved (goal.at.returns-clause-resolved c).In-Some

pub returns-clause-within : goal.returns-clause-within
returns-clause-within c =
    let context = c.args.context.now in
    let numbered = c.in-Some.ensures.numbered in
    let named = numbered.well_named in
    let number : LAtom = record { predicate = c.in-Some.predicate; terms = c.in_ok-terms.terms } in
    atom_within context.files c.args.around.now context.predicates named.rooted named.objects_typed named.parameters_typed numbered.resolved c.requires.typed
    c.args.atom.now number c.requires.sound c.requires.few (is_resolved (goal.at.returns-clause-within c).In-Some)

pub returns-clause-fluent : goal.returns-clause-fluent
returns-clause-fluent c =
    let context = c.args.context.now in
    let numbered = c.in-Some.ensures.numbered in
    let named = numbered.well_named in
    let number : LAtom = record { predicate = c.in-Some.predicate; terms = c.in_ok-terms.terms } in
    atom_fluent context.files c.args.around.now context.predicates named.rooted named.objects_typed named.parameters_typed numbered.resolved c.requires.typed
    c.args.atom.now number c.requires.sound (is_resolved (goal.at.returns-clause-fluent c).In-Some)
