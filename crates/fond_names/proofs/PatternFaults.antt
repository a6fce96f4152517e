-- The first faults of a pattern, by tests.
use Rattle.std.proofs.Common.{◌≡◌, ◌≢◌, ℕ, ◌||◌, Bool, true, false, not, nat_eq, Option, Some, None, is_some, length, refl, sym, ap, ◌∙◌, subst, arith}
use Rattle.std.specs.Bool.{Decides}
use Rattle.std.proofs.lemmas.Bool.Decides.{nat_tests}
use Rattle.fond_ast.specs.declared.files.Domain.{Domain}
use Rattle.fond_ast.specs.declared.files.Pattern.{Pattern}
use Rattle.fond_ast.specs.declared.files.Schema.{Schema}
use Rattle.fond_text.proofs.Earliest.{first_along}
use Rattle.fond_text.specs.declared.code.TheConstants.{UNKNOWN_TERM, WRONG_ARITY}
use Rattle.fond_text.specs.declared.first.Found.{Found}
use Rattle.fond_text.specs.Firsts.{IsFirst}
use Rattle.fond_names.specs.Faults.{HasUnknownObject, HasWrongCount}
use Rattle.fond_names.specs.Names.{Declarations, all_objects, first_of, schema_of}
use Rattle.fond_names.specs.Unknown.{is_sound_term}
use Rattle.fond_names.proofs.Missing.{IsMissing}

neither : {X : Type 0} (b : Bool) (found : Option X) → (b || is_some found) ≡ false → (b ≡ false) × (found ≡ None)
neither true found e = cc
neither false None e = (refl, refl)
neither false (Some x) e = cc

nothing : {X : Type 0} (b : Bool) (found : Option X) → b ≡ false → found ≡ None → (b || is_some found) ≡ false
nothing b found e none = let same : is_some found ≡ false = ap is_some none in (ap (λ c. c || is_some found) e) ∙ same

differ : (m n : ℕ) (b : Bool) → nat_eq m n ≡ b → Decides (not b) (m ≢ n)
differ m n true e = let same : m ≡ n = grind (arith, nat_tests, e) in (λ no. cc, λ other. absurd (other same))
differ m n false e = (λ yes same. let again : nat_eq m n ≡ true = grind (arith, nat_tests, same) in let other : false ≡ true = sym e ∙ again in cc (other), λ other. refl)

-- a pattern of a schema has another number of terms if the test of the two lengths says so
pub count_if_told : (domain : Domain) (pattern : Pattern) (schema : Schema) → schema_of domain pattern.schema.name ≡ Some schema → (wrong : Bool) → wrong ≡ not (nat_eq (length pattern.terms) (length schema.parameters)) →
    (first : Option Found) → IsFirst (λ place code. (wrong ≡ true) × (place ≡ pattern.place) × (code ≡ WRONG_ARITY)) first → IsFirst (HasWrongCount domain pattern) first
count_if_told domain pattern schema named wrong told first h =
    first_along (λ place code. (wrong ≡ true) × (place ≡ pattern.place) × (code ≡ WRONG_ARITY)) (HasWrongCount domain pattern)
    (λ place code p. (schema, named, decides.0 (sym told ∙ p.0), p.1, p.2))
    (λ place code p.
    let same : p.0 ≡ schema = (let both : Some p.0 ≡ Some schema = sym p.1 ∙ named in cc) in
    (told ∙ decides.1 (subst (λ (one : Schema). length pattern.terms ≢ length one.parameters) same p.2), p.3, p.4))
    first h
  where
    decides : Decides (not (nat_eq (length pattern.terms) (length schema.parameters))) (length pattern.terms ≢ length schema.parameters)
    decides = differ (length pattern.terms) (length schema.parameters) (nat_eq (length pattern.terms) (length schema.parameters)) refl

module _ (files : Declarations) (pattern : Pattern) where
  -- the first term that is neither is the first name that no object has
  pub object_if_missing : (first : Option Found) → IsFirst (IsMissing (is_sound_term files) (λ term. term.place) UNKNOWN_TERM pattern.terms) first → IsFirst (HasUnknownObject files pattern) first
  object_if_missing first h =
      first_along (IsMissing (is_sound_term files) (λ term. term.place) UNKNOWN_TERM pattern.terms) (HasUnknownObject files pattern)
      (λ place code p.
      let both = neither p.0.variable (first_of (all_objects files) p.0.name) p.2 in
      (p.0, p.1, both.0, both.1, p.3, p.4))
      (λ place code p. (p.0, p.1, nothing p.0.variable (first_of (all_objects files) p.0.name) p.2 p.3, p.4, p.5))
      first h
