use Rattle.std.proofs.Common.{◌≡◌, ◌∷◌, Option, ℕ, length, sym, ap, ◌∙◌}
use Rattle.fond_names.specs.Scopes.{scope_of}
use Rattle.fond_names.specs.Sites.{variables_of}
use Rattle.fond_types.specs.Resolves.{placed_or, variable_number}
use Rattle.fond_types.proofs.terms.+variable_number.Goals as goal

pub returns-in-None : goal.returns-in-None
returns-in-None t c =
    let name = c.args.name.now in
    let names = c.in-Inside.variables.now in
    let outer = c.in-Inside.outer.now in
    let lists : names ∷ outer ≡ c.args.around.now = sym (ap scope_of c.in-Inside.is) ∙ c.around.view_is in
    c.variable_number.ensures
    ∙ ap (λ (found : Option ℕ). placed_or found (length (variables_of outer)) (variable_number outer name)) c.in-None.ensures
    ∙ ap (λ around. variable_number around name) lists
