-- Undeclared types, arguments that do not fit and sound terms, for one list of types, one argument or one term.
use Rattle.std.specs.Prelude.{◌≡◌, ◌||◌, ℕ, Bool, false, true, is_some, List, Contains, Some}
use Rattle.fond_text.specs.declared.code.TheConstants.{UNKNOWN_TYPE, TYPE_MISMATCH}
use Rattle.fond_text.specs.declared.place.Place.{Place}
use Rattle.fond_ast.specs.declared.names.Kind.{Kind}
use Rattle.fond_ast.specs.declared.names.Term.{Term}
use Rattle.fond_ast.specs.declared.names.TypedName.{TypedName}
use Rattle.fond_kinds.specs.Kinds.{is_type, are_types, Fit}
use Rattle.fond_names.specs.Faults.{declaration_of}
use Rattle.fond_names.specs.Names.{Declarations, all_objects, first_of}
use Rattle.fond_names.specs.Sites.{Scope}

-- one of these types is not declared; the fault is at the type
abbrev pub IsUnknownType : List TypedName → List Kind → Place → ℕ → Type 0
IsUnknownType types kinds place code = (kind : Kind) × Contains kinds kind × (is_type types kind.name ≡ false) × (place ≡ kind.place) × (code ≡ UNKNOWN_TYPE)

-- an argument is declared, and so are all types of it and of a parameter, but these types do not fit; the fault is at the
-- argument
pub record IsMisfit (files : Declarations) (around : Scope) (argument : Term) (parameter : TypedName) (place : Place) (code : ℕ) : Type 0 where
  pub declared : TypedName
  pub known : declaration_of files around argument ≡ Some declared
  pub has_types : are_types files.domain.kinds declared.kinds ≡ true
  pub parameter_has_types : are_types files.domain.kinds parameter.kinds ≡ true
  pub misfit : ¬ Fit files.domain.kinds declared.kinds parameter.kinds
  pub place_is : place ≡ argument.place
  pub coded : code ≡ TYPE_MISMATCH

-- whether a term of a pattern is a variable or a declared object
abbrev pub is_sound_term : Declarations → Term → Bool
is_sound_term files term = term.variable || is_some (first_of (all_objects files) term.name)
