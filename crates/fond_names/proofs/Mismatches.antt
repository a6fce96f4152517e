-- Arguments that do not fit their parameters, one by one.
use Rattle.std.proofs.Common.{◌≡◌, ℕ, ◌≤◌, min, Option, Some, length, slice_get, sym, ◌∙◌, subst, arith}
use Rattle.fond_ast.specs.declared.files.Declared.{Declared}
use Rattle.fond_ast.specs.declared.names.ReadAtom.{ReadAtom}
use Rattle.fond_ast.specs.declared.names.Term.{Term}
use Rattle.fond_ast.specs.declared.names.TypedName.{TypedName}
use Rattle.fond_text.proofs.Earliest.{first_along}
use Rattle.fond_text.specs.declared.first.Found.{Found}
use Rattle.fond_text.specs.declared.place.Place.{Place}
use Rattle.fond_text.specs.Firsts.{IsFirst}
use Rattle.fond_names.specs.Faults.{HasMismatch}
use Rattle.fond_names.specs.Names.{Declarations, predicate_of}
use Rattle.fond_names.specs.Sites.{Scope}
use Rattle.fond_names.specs.Unknown.{IsMisfit}
use Rattle.fond_names.proofs.Among.{Below}
use Rattle.std.proofs.lemmas.Option.{slice_get_within}

module _ (files : Declarations) (around : Scope) (predicate : Declared) (atom : ReadAtom) where
  -- the argument at this index does not fit the parameter there
  pub record IsMisfitAt (at : ℕ) (place : Place) (code : ℕ) : Type 0 where
    pub argument : Term
    pub has_argument : slice_get atom.terms at ≡ Some argument
    pub parameter : TypedName
    pub has_parameter : slice_get predicate.parameters at ≡ Some parameter
    pub fault : IsMisfit files around argument parameter place code

  pub misfit_at : (at : ℕ) (argument : Term) (parameter : TypedName) (found : Option Found) → slice_get atom.terms at ≡ Some argument → slice_get predicate.parameters at ≡ Some parameter →
      IsFirst (IsMisfit files around argument parameter) found → IsFirst (IsMisfitAt at) found
  misfit_at at argument parameter found one other h =
      first_along (IsMisfit files around argument parameter) (IsMisfitAt at)
      (λ place code fault. record { argument = argument; has_argument = one; parameter = parameter; has_parameter = other; fault = fault })
      (λ place code misfit.
      let first : misfit.argument ≡ argument = (let both : Some misfit.argument ≡ Some argument = sym misfit.has_argument ∙ one in cc) in
      let second : misfit.parameter ≡ parameter = (let both : Some misfit.parameter ≡ Some parameter = sym misfit.has_parameter ∙ other in cc) in
      subst (λ (term : Term). IsMisfit files around term parameter place code) first (subst (λ (name : TypedName). IsMisfit files around misfit.argument name place code) second misfit.fault))
      found h

  -- the first misfit below the shorter length is the first mismatch
  pub mismatch_all : (named : predicate_of files.domain atom.name ≡ Some predicate) (count : ℕ) (found : Option Found) → min (length atom.terms) (length predicate.parameters) ≤ count →
      IsFirst (Below IsMisfitAt count) found → IsFirst (HasMismatch files around atom) found
  mismatch_all named count found all h =
      first_along (Below IsMisfitAt count) (HasMismatch files around atom)
      (λ place code below.
      let misfit = below.2 in
      record {
        predicate = predicate;
        named = named;
        at = below.0;
        argument = misfit.argument;
        has_argument = misfit.has_argument;
        parameter = misfit.parameter;
        has_parameter = misfit.has_parameter;
        declared = misfit.fault.declared;
        known = misfit.fault.known;
        has_types = misfit.fault.has_types;
        parameter_has_types = misfit.fault.parameter_has_types;
        misfit = misfit.fault.misfit;
        place_is = misfit.fault.place_is;
        coded = misfit.fault.coded;
      })
      (λ place code mismatch.
      let same : mismatch.predicate ≡ predicate = (let both : Some mismatch.predicate ≡ Some predicate = sym mismatch.named ∙ named in cc) in
      let has : slice_get predicate.parameters mismatch.at ≡ Some mismatch.parameter = subst (λ (one : Declared). slice_get one.parameters mismatch.at ≡ Some mismatch.parameter) same mismatch.has_parameter in
      let within = slice_get_within atom.terms mismatch.at mismatch.argument mismatch.has_argument in
      let inside = slice_get_within predicate.parameters mismatch.at mismatch.parameter has in (
        mismatch.at,
        omega (arith, all, within, inside),
        record {
          argument = mismatch.argument;
          has_argument = mismatch.has_argument;
          parameter = mismatch.parameter;
          has_parameter = has;
          fault = record { declared = mismatch.declared; known = mismatch.known; has_types = mismatch.has_types; parameter_has_types = mismatch.parameter_has_types; misfit = mismatch.misfit; place_is = mismatch.place_is; coded = mismatch.coded };
        },
      ))
      found h
