use Rattle.std.proofs.Common.{◌≡◌, List, Some, slice_get, sym, ap, ◌∙◌}
use Rattle.std.specs.Str.{bytes_eq}
use Rattle.fond_ast.specs.declared.names.TypedName.{TypedName}
use Rattle.fond_names.proofs.Lookups.{found_at, found_none}
use Rattle.fond_names.proofs.variable.find_in.Goals as goal

pub returns-in-Some : goal.returns-in-Some
returns-in-Some c =
    let at = c.in-Some.at in
    let got : slice_get c.args.variables.now at ≡ Some c.get.result.now = ap (λ (names : List TypedName). slice_get names at) (sym c.names.ensures) ∙ c.get.ensures in
    found_at (λ (item : TypedName). bytes_eq item.name c.args.name.now) c.args.variables.now at c.get.result.now (sym c.in-Some.ensures) got

pub returns-in-None : goal.returns-in-None
returns-in-None c = found_none (λ (item : TypedName). bytes_eq item.name c.args.name.now) c.args.variables.now (sym c.in-None.ensures)
