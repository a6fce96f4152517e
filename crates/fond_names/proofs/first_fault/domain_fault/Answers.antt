use Rattle.std.proofs.Common.{◌⊎◌, [], ℕ, List, refl, subst}
use Rattle.fond_ast.specs.declared.names.TypedName.{TypedName}
use Rattle.fond_kinds.specs.Faults.{StandsInKinds}
use Rattle.fond_text.proofs.Earliest.{first_of_both}
use Rattle.fond_text.specs.declared.place.Place.{Place}
use Rattle.fond_text.specs.Firsts.{IsFirst}
use Rattle.fond_names.specs.Faults.{HasUnknownType, IsRepeatedObject, HasUnknownParameter, IsRepeatedPredicate, IsRepeatedSchema, OccursAmong}
use Rattle.fond_names.specs.Files.{declarations_of}
use Rattle.fond_names.specs.Sites.{domain_sites}
use Rattle.fond_names.proofs.first_fault.domain_fault.Goals as goal

pub returns : goal.returns
returns c =
    let all = c.args.files.now in
    let files = declarations_of all in
    let domain = files.domain in
    let Later : Place → ℕ → Type 0 = λ place code. IsRepeatedPredicate domain.predicates place code ⊎ (IsRepeatedSchema domain.schemas place code ⊎ OccursAmong files (domain_sites domain) place code) in
    let Parameters : Place → ℕ → Type 0 = λ place code. HasUnknownParameter files place code ⊎ Later place code in
    let Objects : Place → ℕ → Type 0 = λ place code. IsRepeatedObject [] domain.constants place code ⊎ Parameters place code in
    let Constants : Place → ℕ → Type 0 = λ place code. HasUnknownType domain.kinds domain.constants place code ⊎ Objects place code in
    first_of_both (StandsInKinds domain.kinds) Constants c.first_fault.result c.earlier-constants.result c.earlier.result
    (subst (λ (types : List TypedName). IsFirst (StandsInKinds types) c.first_fault.result) all.types_declared c.first_fault.ensures)
    (first_of_both (HasUnknownType domain.kinds domain.constants) Objects c.unknown_type.result c.earlier-objects.result c.earlier-constants.result
    (subst (λ (types : List TypedName). IsFirst (HasUnknownType types domain.constants) c.unknown_type.result) all.types_declared c.unknown_type.ensures)
    (first_of_both (IsRepeatedObject [] domain.constants) Parameters c.redeclared_object.result c.earlier-parameters.result c.earlier-objects.result
    (c.redeclared_object.ensures [] files.problem.objects refl)
    (first_of_both (HasUnknownParameter files) Later c.unknown_parameter.result c.in_ok-later_fault.field-0 c.earlier-parameters.result c.unknown_parameter.ensures c.in_ok-later_fault.ensures c.earlier-parameters.ensures)
    c.earlier-objects.ensures) c.earlier-constants.ensures) c.earlier.ensures
