-- The faults of names; docs/FAULTS.md lists them under the codes that are printed, F13 to F20.
use Rattle.std.specs.Prelude.{◌≡◌, ◌≢◌, ◌⊎◌, ℕ, true, false, List, [], ◌++◌, map, length, Contains, Option, Some, None, slice_get, find, if◌then◌else◌}
use Rattle.std.specs.List.{AllZip, list_all}
use Rattle.std.specs.Str.{bytes_eq}
use Rattle.fond_text.specs.Firsts.{IsFirst}
use Rattle.fond_text.specs.Lists.{Somewhere}
use Rattle.fond_text.specs.declared.code.TheConstants.{UNKNOWN_TYPE, UNKNOWN_PREDICATE, WRONG_ARITY, TYPE_MISMATCH, UNKNOWN_TERM, REPEATED_NAME, UNKNOWN_SCHEMA}
use Rattle.fond_text.specs.declared.first.Found.{Found}
use Rattle.fond_text.specs.declared.place.FileKind.{FileKind}
use Rattle.fond_text.specs.declared.place.FileKind.TheVariants as kind
use Rattle.fond_text.specs.declared.place.Place.{Place}
use Rattle.fond_ast.specs.declared.names.Kind.{Kind}
use Rattle.fond_ast.specs.declared.names.ReadAtom.{ReadAtom}
use Rattle.fond_ast.specs.declared.names.Term.{Term}
use Rattle.fond_ast.specs.declared.names.TypedName.{TypedName}
use Rattle.fond_ast.specs.declared.files.Declared.{Declared}
use Rattle.fond_ast.specs.declared.files.Domain.{Domain}
use Rattle.fond_ast.specs.declared.files.Pattern.{Pattern}
use Rattle.fond_ast.specs.declared.files.Schema.{Schema}
use Rattle.fond_kinds.specs.Faults.{StandsInKinds}
use Rattle.fond_kinds.specs.Kinds.{only_kind, is_type, are_types, Fit}
use Rattle.fond_names.specs.Names.{Declarations, is_among, first_of, all_objects, predicate_of, schema_of, schema_leaves, schema_names}
use Rattle.fond_names.specs.Sites.{Scope, Site, AnAtom, AnEquality, AList, sites_within, variable_of, domain_sites, problem_sites}

-- one of these declarations has a type that is not declared; the fault is at the type
abbrev pub HasUnknownType : List TypedName → List TypedName → Place → ℕ → Type 0
HasUnknownType types names place code =
    (name : TypedName) × Contains names name × ((kind : Kind) × Contains name.kinds kind × (is_type types kind.name ≡ false) × (place ≡ kind.place)) × (code ≡ UNKNOWN_TYPE)

-- one of these objects, which follow other ones, is declared again with another type than at first; the fault is at the
-- later declaration
abbrev pub IsRepeatedObject : List TypedName → List TypedName → Place → ℕ → Type 0
IsRepeatedObject earlier objects place code =
    Somewhere (λ before declared. ((first : TypedName) × (first_of (earlier ++ before) declared.name ≡ Some first) × (only_kind first ≢ only_kind declared)) × (place ≡ declared.place)) objects
    × (code ≡ REPEATED_NAME)

-- two parameters have the same set of types, in whatever order and however often each is written
abbrev pub HaveSameTypes : TypedName → TypedName → Type 0
HaveSameTypes one other =
    (list_all (λ kind. is_among (map (λ kind. kind.name) other.kinds) kind.name) one.kinds ≡ true)
    × (list_all (λ kind. is_among (map (λ kind. kind.name) one.kinds) kind.name) other.kinds ≡ true)

-- a predicate is declared again with another number of parameters than at first, or other types at some position; the
-- fault is at the later declaration
abbrev pub IsRepeatedPredicate : List Declared → Place → ℕ → Type 0
IsRepeatedPredicate predicates place code =
    Somewhere (λ before declared. ((first : Declared) × (find (λ other. bytes_eq other.name declared.name) before ≡ Some first) × ¬ AllZip HaveSameTypes first.parameters declared.parameters) × (place ≡ declared.place)) predicates
    × (code ≡ REPEATED_NAME)

-- a schema has the name of an earlier one; the fault is at its name
abbrev pub IsRepeatedSchema : List Schema → Place → ℕ → Type 0
IsRepeatedSchema schemas place code =
    Somewhere (λ before schema. (is_among (map (λ other. other.name) before) schema.name ≡ true) × (place ≡ schema.place)) schemas × (code ≡ REPEATED_NAME)

-- a variable occurs twice in a list; the fault is at the later one
abbrev pub IsRepeatedVariable : List TypedName → Place → ℕ → Type 0
IsRepeatedVariable names place code =
    Somewhere (λ before name. (is_among (map (λ other. other.name) before) name.name ≡ true) × (place ≡ name.place)) names × (code ≡ REPEATED_NAME)

-- the declaration of a term: that of a variable around it, or of an object
abbrev pub declaration_of : Declarations → Scope → Term → Option TypedName
declaration_of files around term = if term.variable then variable_of around term.name else first_of (all_objects files) term.name

-- the predicate of an atom is not declared; the fault is at the head of the atom
abbrev pub HasUnknownPredicate : Declarations → ReadAtom → Place → ℕ → Type 0
HasUnknownPredicate files atom place code = (predicate_of files.domain atom.name ≡ None) × (place ≡ atom.head) × (code ≡ UNKNOWN_PREDICATE)

-- an atom has another number of terms than its predicate has parameters; the fault is at the atom
abbrev pub HasWrongArity : Declarations → ReadAtom → Place → ℕ → Type 0
HasWrongArity files atom place code =
    (declared : Declared) × (predicate_of files.domain atom.name ≡ Some declared) × (length atom.terms ≢ length declared.parameters) × (place ≡ atom.place) × (code ≡ WRONG_ARITY)

-- an argument of an atom does not fit the parameter at its position: the predicate and the argument are declared, and so
-- are all types of the argument and of the parameter, but these types do not fit; the fault is at the argument
pub record HasMismatch (files : Declarations) (around : Scope) (atom : ReadAtom) (place : Place) (code : ℕ) : Type 0 where
  pub predicate : Declared
  pub named : predicate_of files.domain atom.name ≡ Some predicate
  pub at : ℕ
  pub argument : Term
  pub has_argument : slice_get atom.terms at ≡ Some argument
  pub parameter : TypedName
  pub has_parameter : slice_get predicate.parameters at ≡ Some parameter
  pub declared : TypedName
  pub known : declaration_of files around argument ≡ Some declared
  pub has_types : are_types files.domain.kinds declared.kinds ≡ true
  pub parameter_has_types : are_types files.domain.kinds parameter.kinds ≡ true
  pub misfit : ¬ Fit files.domain.kinds declared.kinds parameter.kinds
  pub place_is : place ≡ argument.place
  pub coded : code ≡ TYPE_MISMATCH

-- a term is the name of no object, or a variable that no list around it declares; the fault is at the term
abbrev pub IsUnknownTerm : Declarations → Scope → Term → Place → ℕ → Type 0
IsUnknownTerm files around term place code = (declaration_of files around term ≡ None) × (place ≡ term.place) × (code ≡ UNKNOWN_TERM)

-- a term of an atom is unknown; the fault is at the term
abbrev pub HasUnknownTerm : Declarations → Scope → ReadAtom → Place → ℕ → Type 0
HasUnknownTerm files around atom place code = (term : Term) × Contains atom.terms term × IsUnknownTerm files around term place code

-- a fault of names occurs at a site: an atom has an unknown predicate, the wrong number of terms, an argument that does not
-- fit or an unknown term, an equality has an unknown term, or a list has an undeclared type or repeats a variable
abbrev pub OccursAt : Declarations → Place → ℕ → Site → Type 0
OccursAt files place code (AnAtom around atom) =
    HasUnknownPredicate files atom place code ⊎ HasWrongArity files atom place code ⊎ HasMismatch files around atom place code ⊎ HasUnknownTerm files around atom place code
OccursAt files place code (AnEquality around term other) = IsUnknownTerm files around term place code ⊎ IsUnknownTerm files around other place code
OccursAt files place code (AList names) = HasUnknownType files.domain.kinds names place code ⊎ IsRepeatedVariable names place code

-- a fault of names occurs at one of the sites in a list of them
abbrev pub OccursAmong : Declarations → List Site → Place → ℕ → Type 0
OccursAmong files sites place code = (site : Site) × Contains sites site × OccursAt files place code site

-- what was found is the first fault of names at this one site, or nothing if it has none
abbrev pub IsFirstAt : Declarations → Site → Option Found → Type 0
IsFirstAt files site found = IsFirst (λ place code. OccursAt files place code site) found

-- what was found is the first fault of names at all sites of a list, or nothing if none of them has one
abbrev pub IsFirstIn : Declarations → List Site → Option Found → Type 0
IsFirstIn files sites found = IsFirst (OccursAmong files sites) found

-- what was found is the first fault of names at a list of variables and at the sites of the part that it is around, or
-- nothing if they have none
abbrev pub IsFirstWithin : Declarations → List TypedName → (Scope → List Site) → Scope → Option Found → Type 0
IsFirstWithin files names of around found = IsFirstIn files (sites_within names of around) found

-- wherever these objects are a part of `all`, what was found is the first of them that is declared again in `all` with
-- another type than at first, or nothing if there is none
abbrev pub IsFirstRepeated : List TypedName → List TypedName → Option Found → Type 0
IsFirstRepeated all objects found =
    (before after : List TypedName) → all ≡ before ++ (objects ++ after) → IsFirst (IsRepeatedObject before objects) found

-- a parameter of some predicate has a type that is not declared; the fault is at the type
abbrev pub HasUnknownParameter : Declarations → Place → ℕ → Type 0
HasUnknownParameter files place code = (declared : Declared) × Contains files.domain.predicates declared × HasUnknownType files.domain.kinds declared.parameters place code

-- a leaf of the side list that should name a schema names none; the fault is at the leaf
abbrev pub IsUnknownSchema : List (List ℕ) → List Kind → Place → ℕ → Type 0
IsUnknownSchema names leaves place code =
    (leaf : Kind) × Contains leaves leaf × (is_among names leaf.name ≡ false) × (place ≡ leaf.place) × (code ≡ UNKNOWN_SCHEMA)

-- a pattern of a schema has another number of terms than the schema has parameters; the fault is at the pattern
abbrev pub HasWrongCount : Domain → Pattern → Place → ℕ → Type 0
HasWrongCount domain pattern place code =
    (schema : Schema) × (schema_of domain pattern.schema.name ≡ Some schema) × (length pattern.terms ≢ length schema.parameters) × (place ≡ pattern.place) × (code ≡ WRONG_ARITY)

-- a term of a pattern is the name of no object; the fault is at the term
abbrev pub HasUnknownObject : Declarations → Pattern → Place → ℕ → Type 0
HasUnknownObject files pattern place code =
    (term : Term) × Contains pattern.terms term × (term.variable ≡ false) × (first_of (all_objects files) term.name ≡ None) × (place ≡ term.place) × (code ≡ UNKNOWN_TERM)

-- a pattern has another number of terms than its schema has parameters, or one of its terms is the name of no object
abbrev pub IsFaultyPattern : Declarations → Pattern → Place → ℕ → Type 0
IsFaultyPattern files pattern place code = HasWrongCount files.domain pattern place code ⊎ HasUnknownObject files pattern place code

-- some pattern of the side list has another number of terms than its schema has parameters, or one of its terms is the name
-- of no object
abbrev pub HasFaultyPattern : Declarations → Place → ℕ → Type 0
HasFaultyPattern files place code =
    (pattern : Pattern) × Contains files.side.patterns pattern × (HasWrongCount files.domain pattern place code ⊎ HasUnknownObject files pattern place code)

-- in the domain, a predicate is declared again with another number of parameters or other types, a schema has the name of an
-- earlier one, or a fault of names occurs at a site of a schema
abbrev pub HasLaterFault : Declarations → Place → ℕ → Type 0
HasLaterFault files place code =
    IsRepeatedPredicate files.domain.predicates place code
    ⊎ IsRepeatedSchema files.domain.schemas place code
    ⊎ OccursAmong files (domain_sites files.domain) place code

-- a fault of names occurs in this file: in the domain, among its types, constants, predicates and schemas; in the problem,
-- among its objects, its initial atoms and its goal; in the side list, among its leaves and patterns
abbrev pub StandsInNames : Declarations → FileKind → Place → ℕ → Type 0
StandsInNames files kind.Domain place code =
    StandsInKinds files.domain.kinds place code
    ⊎ HasUnknownType files.domain.kinds files.domain.constants place code
    ⊎ IsRepeatedObject [] files.domain.constants place code
    ⊎ HasUnknownParameter files place code
    ⊎ IsRepeatedPredicate files.domain.predicates place code
    ⊎ IsRepeatedSchema files.domain.schemas place code
    ⊎ OccursAmong files (domain_sites files.domain) place code
StandsInNames files kind.Problem place code =
    HasUnknownType files.domain.kinds files.problem.objects place code
    ⊎ IsRepeatedObject files.domain.constants files.problem.objects place code
    ⊎ OccursAmong files (problem_sites files.problem) place code
StandsInNames files kind.Side place code = IsUnknownSchema (schema_names files.domain) (schema_leaves files.side) place code ⊎ HasFaultyPattern files place code
