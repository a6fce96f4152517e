-- Sites that are sound, which are those without an unknown name, a wrong arity or a mismatch, by tests.
use Rattle.std.specs.Prelude.{ℕ, ◌&&◌, Bool, true, false, not, List, is_some, map}
use Rattle.std.specs.List.{list_all, list_any}
use Rattle.std.specs.Option.{option_map_or}
use Rattle.fond_text.specs.Lists.{each_passes}
use Rattle.fond_ast.specs.declared.names.Term.{Term}
use Rattle.fond_ast.specs.declared.names.TypedName.{TypedName}
use Rattle.fond_ast.specs.declared.files.Domain.{Domain}
use Rattle.fond_ast.specs.declared.syntax.Effect.{Effect}
use Rattle.fond_ast.specs.declared.syntax.Effect.TheOpen as effect
use Rattle.fond_ast.specs.declared.syntax.Effect.TheFolds.{fold-Effect}
use Rattle.fond_names.specs.Faults.{declaration_of}
use Rattle.fond_types.specs.Meanings.{are_typed}
use Rattle.fond_names.specs.Names.{Declarations, predicate_of}
use Rattle.fond_types.specs.Resolves.{mentions}
use Rattle.fond_names.specs.Sites.{Scope, Site, AnAtom, AnEquality, AList}
use Rattle.fond_names.specs.Subtypes.{are_misfits}

-- whether a term is declared
abbrev pub is_known : Declarations → Scope → Term → Bool
is_known files around term = is_some (declaration_of files around term)

-- whether an argument is declared and fits a parameter, if the types of both are declared
abbrev pub is_fitting : Declarations → Scope → TypedName → Term → Bool
is_fitting files around parameter term =
    option_map_or (λ declared. not (are_misfits files.domain.kinds declared.kinds parameter.kinds)) (declaration_of files around term) false

-- whether a site has no unknown name, no wrong arity and no mismatch
abbrev pub is_sound : Declarations → Site → Bool
is_sound files (AnAtom around atom) = option_map_or (λ predicate. each_passes (map (is_fitting files around) predicate.parameters) atom.terms) (predicate_of files.domain atom.name) false
is_sound files (AnEquality around term other) = is_known files around term && is_known files around other
is_sound files (AList names) = are_typed files.domain.kinds names

-- whether each of these sites is sound
abbrev pub are_sound : Declarations → List Site → Bool
are_sound files sites = list_all (is_sound files) sites

-- whether an effect of some schema has a literal of the predicate of this name
abbrev pub is_mentioned : Domain → List ℕ → Bool
is_mentioned domain name = list_any (λ schema. mentions name schema.effect) domain.schemas

abbrev pub literals_step : (List ℕ → Bool) → effect.Effect-F Bool → Bool
literals_step passes effect.Nothing = true
literals_step passes (effect.Add atom) = passes atom.name
literals_step passes (effect.Delete atom) = passes atom.name
literals_step passes (effect.And parts) = list_all (λ part. part) parts.items
literals_step passes (effect.Forall names part) = part.value
literals_step passes (effect.When condition part) = part.value
literals_step passes (effect.OneOf parts) = list_all (λ part. part) parts.items

-- whether the predicates of all literals of an effect pass a test
abbrev pub literals_pass : (List ℕ → Bool) → Effect → Bool
literals_pass passes = fold-Effect Bool (literals_step passes)
