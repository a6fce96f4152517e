use Rattle.std.proofs.Common.{◌≡◌, true, Some, sym, ◌∙◌, subst}
use Rattle.fond_ast.specs.declared.names.TypedName.{TypedName}
use Rattle.fond_kinds.specs.Kinds.{are_types, Fit}
use Rattle.fond_text.proofs.Earliest.{first_along}
use Rattle.fond_text.specs.declared.code.TheConstants.{TYPE_MISMATCH}
use Rattle.fond_names.specs.Faults.{declaration_of}
use Rattle.fond_names.specs.Files.{declarations_of}
use Rattle.fond_names.specs.Subtypes.{are_misfits}
use Rattle.fond_names.specs.Unknown.{IsMisfit}
use Rattle.fond_names.proofs.Fits.{misfits_decide}
use Rattle.fond_names.proofs.atoms.misfit.Goals as goal

pub returns-in_ok-bad-in-Some-clause-first : goal.returns-in_ok-bad-in-Some-clause-first
returns-in_ok-bad-in-Some-clause-first c =
    let files = c.args.files.now in
    let lists = c.args.around.now in
    let argument = c.args.argument.now in
    let parameter = c.args.parameter.now in
    let types = files.domain.now.kinds in
    let declared = c.in-Some.declared.now in
    let bad = c.in_ok-bad-in-Some.bad in
    let known : declaration_of (declarations_of files) lists argument ≡ Some declared = sym c.in-Some.ensures in
    let told : bad ≡ are_misfits types declared.kinds parameter.kinds = c.in_ok-bad-in-Some.ensures.bad in
    let decides = misfits_decide types declared.kinds parameter.kinds in
    first_along (λ place code. (bad ≡ true) × (place ≡ argument.place) × (code ≡ TYPE_MISMATCH)) (IsMisfit (declarations_of files) lists argument parameter)
    (λ place code h.
    let all = decides.0 (sym told ∙ h.0) in
    record { declared = declared; known = known; has_types = all.0; parameter_has_types = all.1; misfit = all.2; place_is = h.1; coded = h.2 })
    (λ place code h.
    let same : h.declared ≡ declared = (let both : Some h.declared ≡ Some declared = sym h.known ∙ known in cc) in
    (told ∙ decides.1 (subst (λ (one : TypedName). are_types types one.kinds ≡ true) same h.has_types, h.parameter_has_types, subst (λ (one : TypedName). ¬ Fit types one.kinds parameter.kinds) same h.misfit), h.place_is, h.coded))
    c.found_if.result c.found_if.ensures
