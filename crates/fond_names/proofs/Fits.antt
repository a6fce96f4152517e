-- Types that do not fit those of a parameter, by the test.
use Rattle.std.proofs.Common.{◌≡◌, ◌&&◌, Bool, true, false, not, List, refl, sym, ◌∙◌}
use Rattle.std.specs.Bool.{Decides}
use Rattle.std.specs.List.{list_all}
use Rattle.fond_ast.specs.declared.names.Kind.{Kind}
use Rattle.fond_ast.specs.declared.names.TypedName.{TypedName}
use Rattle.fond_kinds.specs.Kinds.{is_type, are_types, Fit}
use Rattle.fond_names.specs.Subtypes.{is_subtype, is_below, is_below_some, are_misfits}
use Rattle.fond_names.proofs.Ancestors.{subtype_decides}
use Rattle.fond_names.proofs.Members.{and_parts, and_both, all_hold, all_from, some_holds, some_from}

module _ (types : List TypedName) (kinds parameter : List Kind) where
  abbrev fits : Bool
  fits = list_all (λ (kind : Kind). is_below_some types kind.name parameter) kinds

  -- types that pass the test fit
  pub fit_if : fits ≡ true → Fit types kinds parameter
  fit_if all = λ kind within.
      let some = some_holds (λ (other : Kind). is_below types kind.name other.name) parameter (all_hold (λ (one : Kind). is_below_some types one.name parameter) kinds kind all within) in
      let below = and_parts (is_type types kind.name && is_type types some.0.name) (is_subtype types kind.name some.0.name) some.2 in
      (some.0, some.1, (subtype_decides types kind.name some.0.name).0 below.1)

  module _ (declared : are_types types kinds ≡ true) (parameter_declared : are_types types parameter ≡ true) where
    -- declared types that fit pass the test
    pub if_fit : Fit types kinds parameter → fits ≡ true
    if_fit fit =
        all_from (λ (kind : Kind). is_below_some types kind.name parameter) kinds (λ kind within.
        let some = fit kind within in
        some_from (λ (other : Kind). is_below types kind.name other.name) parameter some.0 some.1
        (and_both (is_type types kind.name && is_type types some.0.name) (is_subtype types kind.name some.0.name)
        (and_both (is_type types kind.name) (is_type types some.0.name) (all_hold (λ (one : Kind). is_type types one.name) kinds kind declared within) (all_hold (λ (one : Kind). is_type types one.name) parameter some.0 parameter_declared some.1))
        ((subtype_decides types kind.name some.0.name).1 some.2)))

  fails : (b : Bool) → not b ≡ true → b ≡ false
  fails true e = sym e
  fails false e = refl

  failed : (b : Bool) → (b ≡ true → ⊥) → not b ≡ true
  failed true never = absurd (never refl)
  failed false never = refl

  -- the test of misfits decides
  pub misfits_decide : Decides (are_misfits types kinds parameter) ((are_types types kinds ≡ true) × (are_types types parameter ≡ true) × ¬ Fit types kinds parameter)
  misfits_decide = (to, from)
    where
      to : are_misfits types kinds parameter ≡ true → (are_types types kinds ≡ true) × (are_types types parameter ≡ true) × ¬ Fit types kinds parameter
      to e =
          let parts = and_parts (are_types types kinds && are_types types parameter) (not fits) e in
          let both = and_parts (are_types types kinds) (are_types types parameter) parts.0 in
          (both.0, both.1, λ fit. let other : false ≡ true = sym (fails fits parts.1) ∙ if_fit both.0 both.1 fit in cc (other))

      from : (are_types types kinds ≡ true) × (are_types types parameter ≡ true) × ¬ Fit types kinds parameter → are_misfits types kinds parameter ≡ true
      from h = and_both (are_types types kinds && are_types types parameter) (not fits) (and_both (are_types types kinds) (are_types types parameter) h.0 h.1) (failed fits (λ e. h.2 (fit_if e)))
