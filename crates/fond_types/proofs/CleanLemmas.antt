-- Sites without a fault of names are sound.
use Rattle.std.proofs.Common.{◌≡◌, inl, inr, ℕ, suc, not, nat_eq, Bool, true, false, List, [], ◌∷◌, Option, Some, None, is_some, map, length, slice_get, Contains, refl, sym, ap, ◌∙◌, arith}
use Rattle.std.specs.Option.{option_map_or}
use Rattle.std.proofs.lemmas.Bool.Decides.{nat_tests}
use Rattle.fond_text.specs.Faults.{IsClean}
use Rattle.fond_text.specs.Lists.{each_passes}
use Rattle.fond_text.specs.declared.code.TheConstants.{UNKNOWN_TYPE, UNKNOWN_PREDICATE, WRONG_ARITY, TYPE_MISMATCH, UNKNOWN_TERM}
use Rattle.fond_text.specs.declared.place.Place.{Place}
use Rattle.fond_ast.specs.declared.files.Declared.{Declared}
use Rattle.fond_ast.specs.declared.names.Kind.{Kind}
use Rattle.fond_ast.specs.declared.names.ReadAtom.{ReadAtom}
use Rattle.fond_ast.specs.declared.names.Term.{Term}
use Rattle.fond_ast.specs.declared.names.TypedName.{TypedName}
use Rattle.fond_kinds.specs.Kinds.{is_type, are_types}
use Rattle.fond_names.specs.Faults.{HasUnknownType, IsUnknownTerm, OccursAt, OccursAmong, declaration_of}
use Rattle.fond_types.specs.Meanings.{are_typed}
use Rattle.fond_names.specs.Names.{Declarations, predicate_of}
use Rattle.fond_names.specs.Sites.{Scope, Site, AnAtom, AnEquality, AList}
use Rattle.fond_types.specs.Sound.{is_known, is_fitting, is_sound, are_sound}
use Rattle.fond_names.specs.Subtypes.{are_misfits}
use Rattle.fond_names.proofs.Fits.{misfits_decide}
use Rattle.fond_names.proofs.Members.{and_both, all_from, here, there}

-- types without an unknown one are declared
pub typed_if_clean : (types : List TypedName) (names : List TypedName) → IsClean (HasUnknownType types names) → are_typed types names ≡ true
typed_if_clean types names clean =
    all_from (λ (name : TypedName). are_types types name.kinds) names (λ name within.
    all_from (λ (kind : Kind). is_type types kind.name) name.kinds (λ kind inside. by name kind within inside (is_type types kind.name) refl))
  where
    by : (name : TypedName) (kind : Kind) → Contains names name → Contains name.kinds kind → (b : Bool) → is_type types kind.name ≡ b → b ≡ true
    by name kind within inside true e = refl
    by name kind within inside false e = absurd (clean kind.place UNKNOWN_TYPE (name, within, (kind, inside, e, refl), refl))

known_if : (files : Declarations) (around : Scope) (term : Term) → ((place : Place) (code : ℕ) → ¬ IsUnknownTerm files around term place code) → is_known files around term ≡ true
known_if files around term clean = by (declaration_of files around term) refl
  where
    by : (found : Option TypedName) → declaration_of files around term ≡ found → is_known files around term ≡ true
    by None none = absurd (clean term.place UNKNOWN_TERM (none, refl, refl))
    by (Some declared) some = ap (λ found. is_some found) some

module _ (files : Declarations) (around : Scope) (atom : ReadAtom) (clean : (place : Place) (code : ℕ) → ¬ OccursAt files place code (AnAtom around atom)) (predicate : Declared) (named : predicate_of files.domain atom.name ≡ Some predicate) where
  fits_one : (at : ℕ) (parameter : TypedName) (term : Term) → slice_get predicate.parameters at ≡ Some parameter → slice_get atom.terms at ≡ Some term → Contains atom.terms term → is_fitting files around parameter term ≡ true
  fits_one at parameter term has got within = by (declaration_of files around term) refl
    where
      by : (found : Option TypedName) → declaration_of files around term ≡ found → is_fitting files around parameter term ≡ true
      by None none = absurd (clean term.place UNKNOWN_TERM (inr (inr (inr (term, within, (none, refl, refl))))))
      by (Some declared) some =
          ap (λ found. option_map_or (λ (one : TypedName). not (are_misfits files.domain.kinds one.kinds parameter.kinds)) found false) some
          ∙ good (are_misfits files.domain.kinds declared.kinds parameter.kinds) refl
        where
          good : (b : Bool) → are_misfits files.domain.kinds declared.kinds parameter.kinds ≡ b → not b ≡ true
          good false e = refl
          good true e =
              let all = (misfits_decide files.domain.kinds declared.kinds parameter.kinds).0 e in
              absurd (clean term.place TYPE_MISMATCH (inr (inr (inl (record {
                predicate = predicate;
                named = named;
                at = at;
                argument = term;
                has_argument = got;
                parameter = parameter;
                has_parameter = has;
                declared = declared;
                known = some;
                has_types = all.0;
                parameter_has_types = all.1;
                misfit = all.2;
                place_is = refl;
                coded = refl;
              })))))

  fits_all : (parameters : List TypedName) (terms : List Term) → length terms ≡ length parameters → ((at : ℕ) (parameter : TypedName) (term : Term) → slice_get parameters at ≡ Some parameter → slice_get terms at ≡ Some term → Contains terms term → is_fitting files around parameter term ≡ true) →
      each_passes (map (is_fitting files around) parameters) terms ≡ true
  fits_all [] [] long each = refl
  fits_all [] (term ∷ terms) long each = absurd (omega (arith, long))
  fits_all (parameter ∷ parameters) [] long each = absurd (omega (arith, long))
  fits_all (parameter ∷ parameters) (term ∷ terms) long each =
      and_both (is_fitting files around parameter term) (each_passes (map (is_fitting files around) parameters) terms) (each 0 parameter term refl refl (here term terms))
      (fits_all parameters terms (omega (arith, long)) (λ at other one has got within. each (suc at) other one has got (there term terms one within)))

  fits_predicate : each_passes (map (is_fitting files around) predicate.parameters) atom.terms ≡ true
  fits_predicate = by (nat_eq (length atom.terms) (length predicate.parameters)) refl
    where
      by : (b : Bool) → nat_eq (length atom.terms) (length predicate.parameters) ≡ b → each_passes (map (is_fitting files around) predicate.parameters) atom.terms ≡ true
      by true e = fits_all predicate.parameters atom.terms (grind (arith, nat_tests, e)) fits_one
      by false e = absurd (clean atom.place WRONG_ARITY (inr (inl (predicate, named, λ same. let other : false ≡ true = sym e ∙ ones same in cc (other), refl, refl))))
        where
          ones : length atom.terms ≡ length predicate.parameters → nat_eq (length atom.terms) (length predicate.parameters) ≡ true
          ones same = grind (arith, nat_tests, same)

sound_one : (files : Declarations) (site : Site) → ((place : Place) (code : ℕ) → ¬ OccursAt files place code site) → is_sound files site ≡ true
sound_one files (AnAtom around atom) clean = by (predicate_of files.domain atom.name) refl
  where
    by : (found : Option Declared) → predicate_of files.domain atom.name ≡ found → is_sound files (AnAtom around atom) ≡ true
    by None none = absurd (clean atom.head UNKNOWN_PREDICATE (inl (none, refl, refl)))
    by (Some predicate) named =
        ap (λ found. option_map_or (λ (one : Declared). each_passes (map (is_fitting files around) one.parameters) atom.terms) found false) named ∙ fits_predicate files around atom clean predicate named
sound_one files (AnEquality around term other) clean =
    and_both (is_known files around term) (is_known files around other) (known_if files around term (λ place code h. clean place code (inl h))) (known_if files around other (λ place code h. clean place code (inr h)))
sound_one files (AList names) clean = typed_if_clean files.domain.kinds names (λ place code h. clean place code (inl h))

-- sites without a fault are sound
pub sound_if_clean : (files : Declarations) (sites : List Site) → IsClean (OccursAmong files sites) → are_sound files sites ≡ true
sound_if_clean files sites clean = all_from (is_sound files) sites (λ site within. sound_one files site (λ place code h. clean place code (site, within, h)))
