-- The faults of an atom whose predicate is declared, and of one whose predicate is not.
use Rattle.std.proofs.Common.{◌≡◌, ◌⊎◌, inl, inr, ℕ, true, Option, Some, None, refl, sym, ◌∙◌}
use Rattle.fond_ast.specs.declared.files.Declared.{Declared}
use Rattle.fond_ast.specs.declared.names.ReadAtom.{ReadAtom}
use Rattle.fond_text.proofs.Earliest.{first_along, first_of_both}
use Rattle.fond_text.specs.declared.code.TheConstants.{UNKNOWN_PREDICATE}
use Rattle.fond_text.specs.declared.first.Found.{Found}
use Rattle.fond_text.specs.declared.place.Place.{Place}
use Rattle.fond_text.specs.Firsts.{IsFirst, IsEarlier}
use Rattle.fond_names.specs.Faults.{HasWrongArity, HasMismatch, HasUnknownTerm, OccursAt}
use Rattle.fond_names.specs.Names.{Declarations, predicate_of}
use Rattle.fond_names.specs.Sites.{Scope, AnAtom}

module _ (files : Declarations) (around : Scope) (atom : ReadAtom) where
  pub fault_if_declared : (predicate : Declared) → predicate_of files.domain atom.name ≡ Some predicate → (arity arguments terms rest first : Option Found) →
      IsFirst (HasWrongArity files atom) arity → IsFirst (HasMismatch files around atom) arguments → IsFirst (HasUnknownTerm files around atom) terms → IsEarlier arguments terms rest → IsEarlier arity rest first →
      IsFirst (λ place code. OccursAt files place code (AnAtom around atom)) first
  fault_if_declared predicate named arity arguments terms rest first p q r e f =
      first_along (λ place code. HasWrongArity files atom place code ⊎ (HasMismatch files around atom place code ⊎ HasUnknownTerm files around atom place code)) (λ place code. OccursAt files place code (AnAtom around atom))
      (λ place code h. inr h) back first
      (first_of_both (HasWrongArity files atom) (λ place code. HasMismatch files around atom place code ⊎ HasUnknownTerm files around atom place code) arity rest first p
      (first_of_both (HasMismatch files around atom) (HasUnknownTerm files around atom) arguments terms rest q r e) f)
    where
      back : (place : Place) (code : ℕ) → OccursAt files place code (AnAtom around atom) → HasWrongArity files atom place code ⊎ (HasMismatch files around atom place code ⊎ HasUnknownTerm files around atom place code)
      back place code (inl unknown) = let other : None ≡ Some predicate = sym unknown.0 ∙ named in absurd (cc (other))
      back place code (inr h) = h

  pub fault_if_unknown : predicate_of files.domain atom.name ≡ None → (head terms first : Option Found) →
      IsFirst (λ place code. (true ≡ true) × (place ≡ atom.head) × (code ≡ UNKNOWN_PREDICATE)) head → IsFirst (HasUnknownTerm files around atom) terms → IsEarlier head terms first →
      IsFirst (λ place code. OccursAt files place code (AnAtom around atom)) first
  fault_if_unknown none head terms first p r e =
      first_along (λ place code. ((true ≡ true) × (place ≡ atom.head) × (code ≡ UNKNOWN_PREDICATE)) ⊎ HasUnknownTerm files around atom place code) (λ place code. OccursAt files place code (AnAtom around atom))
      over back first
      (first_of_both (λ place code. (true ≡ true) × (place ≡ atom.head) × (code ≡ UNKNOWN_PREDICATE)) (HasUnknownTerm files around atom) head terms first p r e)
    where
      over : (place : Place) (code : ℕ) → ((true ≡ true) × (place ≡ atom.head) × (code ≡ UNKNOWN_PREDICATE)) ⊎ HasUnknownTerm files around atom place code → OccursAt files place code (AnAtom around atom)
      over place code (inl h) = inl (none, h.1, h.2)
      over place code (inr h) = inr (inr (inr h))

      back : (place : Place) (code : ℕ) → OccursAt files place code (AnAtom around atom) → ((true ≡ true) × (place ≡ atom.head) × (code ≡ UNKNOWN_PREDICATE)) ⊎ HasUnknownTerm files around atom place code
      back place code (inl h) = inl (refl, h.1, h.2)
      back place code (inr (inl arity)) = let other : None ≡ Some arity.0 = sym none ∙ arity.1 in absurd (cc (other))
      back place code (inr (inr (inl mismatch))) = let other : None ≡ Some mismatch.predicate = sym none ∙ mismatch.named in absurd (cc (other))
      back place code (inr (inr (inr h))) = inr h
