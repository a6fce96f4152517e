-- Variables in the lists around a place.
use Rattle.std.proofs.Common.{◌≡◌, ℕ, List, ◌∷◌, Some, None, sym, ap, ◌∙◌}
use Rattle.std.specs.Option.{option_or}
use Rattle.std.specs.Str.{bytes_eq}
use Rattle.std.proofs.lemmas.List.Folds.{find-append}
use Rattle.fond_ast.specs.declared.names.TypedName.{TypedName}
use Rattle.fond_names.specs.Names.{first_of}
use Rattle.fond_names.specs.Sites.{Scope, variable_of, variables_of}

module _ (names : List TypedName) (around : Scope) (name : List ℕ) where
  inner : variable_of (names ∷ around) name ≡ option_or (first_of names name) (variable_of around name)
  inner = find-append (λ (declared : TypedName). bytes_eq declared.name name) names (variables_of around)

  -- a variable that the innermost list declares has its declaration there
  pub variable_here : (found : TypedName) → Some found ≡ first_of names name → Some found ≡ variable_of (names ∷ around) name
  variable_here found is = ap (λ first. option_or first (variable_of around name)) is ∙ sym inner

  -- another variable has the declaration that it has outside
  pub variable_outside : None ≡ first_of names name → variable_of around name ≡ variable_of (names ∷ around) name
  variable_outside none = ap (λ first. option_or first (variable_of around name)) none ∙ sym inner
