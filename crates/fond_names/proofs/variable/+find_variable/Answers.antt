use Rattle.std.proofs.Common.{◌≡◌, ◌∷◌, Some, None, sym, ap, ◌∙◌, rules}
use Rattle.fond_names.specs.Names.{first_of}
use Rattle.fond_names.specs.Scopes.{scope_of}
use Rattle.fond_names.specs.Sites.{variable_of}
use Rattle.fond_names.proofs.ScopeLemmas.{variable_here, variable_outside}
use Rattle.fond_names.proofs.variable.+find_variable.Goals as goal

pub returns-in-Some : goal.returns-in-Some
returns-in-Some t c =
    let name = c.args.name.now in
    let names = c.in-Inside.variables.now in
    let outer = c.in-Inside.outer.now in
    let lists : names ∷ outer ≡ c.args.around.now = sym (ap scope_of c.in-Inside.is) ∙ c.around.view_is in
    let found : Some c.in-Some.found.now ≡ first_of names name = search rules in
    variable_here names outer name c.in-Some.found.now found ∙ ap (λ around. variable_of around name) lists

pub returns-in-None : goal.returns-in-None
returns-in-None t c =
    let name = c.args.name.now in
    let names = c.in-Inside.variables.now in
    let outer = c.in-Inside.outer.now in
    let lists : names ∷ outer ≡ c.args.around.now = sym (ap scope_of c.in-Inside.is) ∙ c.around.view_is in
    let none : None ≡ first_of names name = search rules in
    c.find_variable.ensures ∙ variable_outside names outer name none ∙ ap (λ around. variable_of around name) lists
