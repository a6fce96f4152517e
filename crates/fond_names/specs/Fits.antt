-- What is known of arguments at positions of predicates, by a key of each.
use Rattle.std.specs.Prelude.{◌≡◌, ◌==◌, ℕ, Bool, List, ◌∷◌, ◌++◌, Option, Some, length, slice_get, if◌then◌else◌}
use Rattle.std.specs.Option.{option_and_then}
use Rattle.fond_store.specs.Texts.{number_beside}
use Rattle.fond_ast.specs.declared.files.Domain.{Domain}
use Rattle.fond_ast.specs.declared.names.TypedName.{TypedName}
use Rattle.fond_names.specs.Names.{Declarations, all_objects, first_of, predicate_of}
use Rattle.fond_names.specs.Sites.{Scope, variable_of}
use Rattle.fond_names.specs.Subtypes.{are_misfits}

-- the parameter at a position of the predicate with this name, if there is one
abbrev pub parameter_of : Domain → List ℕ → ℕ → Option TypedName
parameter_of domain name at = option_and_then (λ predicate. slice_get predicate.parameters at) (predicate_of domain name)

-- the declaration of a variable in this scope, or the first one of an object with this name, if there is one
abbrev pub named_declaration : Declarations → Scope → Bool → List ℕ → Option TypedName
named_declaration files around variable name = if variable then variable_of around name else first_of (all_objects files) name

-- the key of an argument at a position of a predicate, which begins with 1 for a variable and 0 for a name: within one scope, no
-- other argument, position or predicate has it
abbrev pub key_of : Bool → List ℕ → List ℕ → ℕ → List ℕ
key_of variable name predicate at = (if variable then 1 else 0) ∷ at ∷ length name ∷ (name ++ predicate)

-- if an argument is declared in this scope and the predicate has the position, the number beside their key is 1 if and only if the
-- types of the argument do not fit those of the parameter
pub record AreTold (files : Declarations) (around : Scope) (fits : List (List ℕ × ℕ)) : Type 0 where
  pub told : (variable : Bool) (name predicate : List ℕ) (at number : ℕ) (declared parameter : TypedName) → number_beside fits (key_of variable name predicate at) ≡ Some number →
      named_declaration files around variable name ≡ Some declared → parameter_of files.domain predicate at ≡ Some parameter → (number == 1) ≡ are_misfits files.domain.kinds declared.kinds parameter.kinds
