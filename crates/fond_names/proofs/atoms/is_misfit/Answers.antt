use Rattle.std.proofs.Common.{◌≡◌, ℕ, nat_eq, List, ap, ◌∙◌, subst}
use Rattle.fond_ast.specs.declared.names.TypedName.{TypedName}
use Rattle.fond_store.specs.Texts.{InsertsText}
use Rattle.fond_names.specs.Files.{declarations_of}
use Rattle.fond_names.specs.Subtypes.{are_misfits}
use Rattle.fond_names.proofs.Told.{flag_is, told_more}
use Rattle.fond_names.proofs.atoms.is_misfit.Goals as goal

pub returns-clause-told : goal.returns-clause-told
returns-clause-told c =
    let files = c.args.files.now in
    let argument = c.args.argument.now in
    let declared = c.args.declared.now in
    let parameter = c.args.parameter.now in
    let grown = subst (λ (key : List ℕ). InsertsText c.args.fits.now key c.number_of.result c.insert.new.self) c.in_ok-key.ensures c.in_ok-insert.ensures.ok in
    let is : nat_eq c.number_of.result 1 ≡ are_misfits files.domain.now.kinds declared.kinds parameter.kinds =
    ap (λ n. nat_eq n 1) c.number_of.ensures ∙ flag_is c.in_ok-bad.bad ∙ c.in_ok-bad.ensures ∙ ap (λ (types : List TypedName). are_misfits types declared.kinds parameter.kinds) files.types_declared in
    told_more (declarations_of files) c.args.around.now c.args.fits.now c.insert.new.self argument.variable argument.name c.args.predicate.now c.args.at c.number_of.result declared parameter
    c.requires.told grown c.requires.known c.requires.parameter is
