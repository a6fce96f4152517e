use Rattle.std.proofs.Common.{◌≡◌, ◌&&◌, not, true, false, Some, None, is_some, sym, ap, ◌∙◌}
use Rattle.std.specs.Prelude.{◌==◌, if◌then◌else◌}
use Rattle.std.specs.Option.{option_map_or}
use Rattle.fond_ast.specs.declared.form.LTerm.TheVariants.{Object, Variable}
use Rattle.fond_types.proofs.Subsets.{same_number}
use Rattle.fond_ast.specs.declared.names.TypedName.{TypedName}
use Rattle.fond_store.specs.Texts.{number_beside}
use Rattle.fond_names.specs.Names.{is_among, all_objects, first_of}
use Rattle.fond_types.specs.Resolves.{is_number_of, is_term, variable_number}
use Rattle.fond_types.specs.Meanings.{meanings, numbered_from}
use Rattle.fond_names.specs.Sites.{variable_of}
use Rattle.fond_types.proofs.Numbering.{has_number, number_is}
use Rattle.fond_types.proofs.TermLemmas.{no_variable, first_among, term_within}
use Rattle.fond_types.proofs.terms.numbered_term.Goals as goal
use Rattle.fond_types.proofs.terms.numbered_term.Goals.{In-Some, In-Some-object_number}

pub unreachable-requires : goal.unreachable-requires
unreachable-requires c =
    let around = c.args.around.now in
    let name = c.args.term.now.name in
    let none : variable_of around name ≡ None = no_variable around name (sym c.in-None.ensures) in
    let known : is_some (if c.args.term.now.variable then variable_of around name else first_of (all_objects c.args.context.now.files) name) ≡ true = c.requires.known in
    let other : false ≡ true = sym (ap (λ b. is_some (if b then variable_of around name else first_of (all_objects c.args.context.now.files) name)) c.if-term.true ∙ ap (λ found. is_some found) none) ∙ known in
    cc (other)

pub unreachable-requires-in-None-object_number : goal.unreachable-requires-in-None-object_number
unreachable-requires-in-None-object_number c =
    let files = c.args.context.now.files in
    let around = c.args.around.now in
    let name = c.args.term.now.name in
    let names = (meanings files).objects in
    let none : number_beside (numbered_from 0 names) name ≡ None = sym c.in-None-object_number.ensures in
    let known : is_some (if c.args.term.now.variable then variable_of around name else first_of (all_objects files) name) ≡ true = c.requires.known in
    let there : is_some (first_of (all_objects files) name) ≡ is_among names name = first_among (λ (one : TypedName). one.name) (all_objects files) name in
    let other : false ≡ true =
    sym (ap (λ b. is_some (if b then variable_of around name else first_of (all_objects files) name)) c.if-term.false ∙ there ∙ sym (has_number 0 names name) ∙ ap (λ found. is_some found) none) ∙ known in
    cc (other)

is_object : (c : In-Some-object_number) → is_term (meanings c.args.context.now.files) c.args.around.now c.args.term.now (Object c.in-Some-object_number.number) ≡ true
is_object c =
    let name = c.args.term.now.name in
    let number = c.in-Some-object_number.number in
    let names = (meanings c.args.context.now.files).objects in
    let is : is_number_of names name number ≡ true = number_is names name number (sym c.in-Some-object_number.ensures) in
    (λ i. not (c.if-term.false i) && is_number_of names name number) ∙ is

is_variable : (c : In-Some) → is_term (meanings c.args.context.now.files) c.args.around.now c.args.term.now (Variable c.in-Some.number) ≡ true
is_variable c =
    let around = c.args.around.now in
    let number = c.in-Some.number in
    let numbered : variable_number around c.args.term.now.name ≡ Some number = sym c.in-Some.ensures in
    (λ i. c.if-term.true i && option_map_or (λ other. other == number) (numbered i) false) ∙ same_number number

pub returns-in-Some-object_number-clause-resolved : goal.returns-in-Some-object_number-clause-resolved
returns-in-Some-object_number-clause-resolved c = is_object (goal.at.returns-in-Some-object_number-clause-resolved c).In-Some-object_number

pub returns-in-Some-object_number-clause-within : goal.returns-in-Some-object_number-clause-within
returns-in-Some-object_number-clause-within c =
    term_within c.args.context.now.files c.args.around.now c.args.term.now (Object c.in-Some-object_number.number) c.requires.known (is_object (goal.at.returns-in-Some-object_number-clause-within c).In-Some-object_number) c.requires.few

pub returns-in-Some-clause-within : goal.returns-in-Some-clause-within
returns-in-Some-clause-within c =
    term_within c.args.context.now.files c.args.around.now c.args.term.now (Variable c.in-Some.number) c.requires.known (is_variable (goal.at.returns-in-Some-clause-within c).In-Some) c.requires.few
