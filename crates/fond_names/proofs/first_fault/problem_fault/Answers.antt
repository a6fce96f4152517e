use Rattle.std.proofs.Common.{◌⊎◌, ◌++◌, [], ℕ, List, sym, ap, subst, append-nil}
use Rattle.fond_ast.specs.declared.names.TypedName.{TypedName}
use Rattle.fond_text.proofs.Earliest.{first_of_both}
use Rattle.fond_text.specs.declared.place.Place.{Place}
use Rattle.fond_text.specs.Firsts.{IsFirst}
use Rattle.fond_names.specs.Faults.{HasUnknownType, IsRepeatedObject, OccursAmong}
use Rattle.fond_names.specs.Files.{declarations_of}
use Rattle.fond_names.specs.Sites.{problem_sites}
use Rattle.fond_names.proofs.first_fault.problem_fault.Goals as goal

pub returns : goal.returns
returns c =
    let all = c.args.files.now in
    let files = declarations_of all in
    let constants = files.domain.constants in
    let objects = files.problem.objects in
    let Sites : Place → ℕ → Type 0 = OccursAmong files (problem_sites files.problem) in
    let Objects : Place → ℕ → Type 0 = λ place code. IsRepeatedObject constants objects place code ⊎ Sites place code in
    first_of_both (HasUnknownType files.domain.kinds objects) Objects c.unknown_type.result c.earlier-objects.result c.earlier.result
    (subst (λ (types : List TypedName). IsFirst (HasUnknownType types objects) c.unknown_type.result) all.types_declared c.unknown_type.ensures)
    (first_of_both (IsRepeatedObject constants objects) Sites c.redeclared_object.result c.in_ok-sites.sites c.earlier-objects.result
    (c.redeclared_object.ensures constants [] (ap (λ rest. constants ++ rest) (sym (append-nil objects))))
    c.in_ok-sites.ensures c.earlier-objects.ensures) c.earlier.ensures
