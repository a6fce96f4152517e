use Rattle.std.proofs.Common.{◌≡◌, ◌++◌, Some, None, sym, ap, ◌∙◌}
use Rattle.std.specs.Option.{option_copied}
use Rattle.std.specs.Str.{bytes_eq}
use Rattle.fond_ast.specs.declared.names.TypedName.{TypedName}
use Rattle.fond_store.specs.Texts.{number_beside}
use Rattle.fond_names.proofs.Lookups.{found_at, found_none}
use Rattle.fond_names.proofs.lookup.find_object.Goals as goal

pub returns : goal.returns
returns c =
    let files = c.args.files.now in
    let found : number_beside files.objects c.args.name.now ≡ Some c.in_ok-at.field-0 = cc (c.in_ok-at.was, c.find.ensures, c.bytes.ensures.value) in
    found_at (λ (item : TypedName). bytes_eq item.name c.args.name.now) (files.domain.now.constants ++ files.problem.now.objects) c.in_ok-at.field-0 c.joined_get.result.now (sym (files.objects_indexed c.args.name.now) ∙ found) c.joined_get.ensures

pub returns-in_err-at : goal.returns-in_err-at
returns-in_err-at c =
    let files = c.args.files.now in
    let found : number_beside files.objects c.args.name.now ≡ None = cc (c.in_err-at.was, c.find.ensures, c.bytes.ensures.value) in
    let none : c.from_residual.result ≡ None = c.from_residual.ensures in
    ap option_copied none ∙ found_none (λ (item : TypedName). bytes_eq item.name c.args.name.now) (files.domain.now.constants ++ files.problem.now.objects) (sym (files.objects_indexed c.args.name.now) ∙ found)
