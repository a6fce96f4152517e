-- The lists of variables around a place, by how they nest.
use Rattle.std.specs.Prelude.{[], ◌∷◌}
use Rattle.fond_names.specs.Sites.{Scope}
use Rattle.fond_names.specs.declared.scope.Lists.{Lists}
use Rattle.fond_names.specs.declared.scope.Lists.TheVariants.{Nothing, Inside}

-- the lists, the innermost first
abbrev pub scope_of : Lists → Scope
scope_of Nothing = []
scope_of (Inside variables outer) = variables.now ∷ outer.now
