use Rattle.std.proofs.Common.{◌≡◌, ◌&&◌, ◌||◌, not, true, false, None, is_some, sym, ap, ◌∙◌}
use Rattle.fond_ast.specs.declared.form.LTerm.TheVariants.{Object}
use Rattle.fond_ast.specs.declared.names.Term.{Term}
use Rattle.fond_ast.specs.declared.names.TypedName.{TypedName}
use Rattle.fond_store.specs.Texts.{number_beside}
use Rattle.fond_names.specs.Names.{is_among, all_objects, first_of}
use Rattle.fond_names.proofs.Members.{all_got}
use Rattle.fond_types.specs.Meanings.{meanings, numbered_from}
use Rattle.fond_names.specs.Unknown.{is_sound_term}
use Rattle.fond_types.specs.Resolves.{is_number_of, is_pattern_term}
use Rattle.fond_types.proofs.Numbering.{has_number, number_is}
use Rattle.fond_types.proofs.PlaceLemmas.{has_place, if_got}
use Rattle.fond_types.proofs.TermLemmas.{first_among}
use Rattle.fond_types.proofs.patterns.numbered_at.Goals as goal

pub unreachable-requires : goal.unreachable-requires
unreachable-requires c =
    let terms = c.args.terms.now in
    let term = c.get-term.result.now in
    let none : number_beside c.args.places.now term.name ≡ None = cc in
    let never : false ≡ true = sym (ap (λ found. is_some found) (sym (c.requires.places term.name) ∙ none)) ∙ has_place terms c.args.i term c.get-term.ensures c.if-term.true in
    cc (never)

pub unreachable-requires-in-None-object_number : goal.unreachable-requires-in-None-object_number
unreachable-requires-in-None-object_number c =
    let files = c.args.table.now in
    let term = c.get-term.result.now in
    let names = (meanings files).objects in
    let none : number_beside (numbered_from 0 names) term.name ≡ None = sym c.in-None-object_number.ensures in
    let sound : (term.variable || is_some (first_of (all_objects files) term.name)) ≡ true = all_got (is_sound_term files) c.args.terms.now c.args.i term c.get-term.ensures c.requires.sound in
    let there : is_some (first_of (all_objects files) term.name) ≡ is_among names term.name = first_among (λ (one : TypedName). one.name) (all_objects files) term.name in
    let never : false ≡ true =
    sym (ap (λ b. b || is_some (first_of (all_objects files) term.name)) c.if-term.false ∙ there ∙ sym (has_number 0 names term.name) ∙ ap (λ found. is_some found) none) ∙ sound in
    cc (never)

pub returns-in-Some-object_number : goal.returns-in-Some-object_number
returns-in-Some-object_number c =
    let files = c.args.table.now in
    let term = c.get-term.result.now in
    let number = c.in-Some-object_number.number in
    let names = (meanings files).objects in
    let is : is_number_of names term.name number ≡ true = number_is names term.name number (sym c.in-Some-object_number.ensures) in
    if_got (λ (one : Term). is_pattern_term (meanings files) c.args.terms.now one (Object number) ≡ true) _ term c.get-term.ensures ((λ i. not (c.if-term.false i) && is_number_of names term.name number) ∙ is)
