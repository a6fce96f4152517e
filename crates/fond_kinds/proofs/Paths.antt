-- Paths of parents: lists that grow and shrink at their end.
use Rattle.std.proofs.Common.{◌≡◌, ℕ, zero, suc, ◌+◌, ◌<◌, List, [], ◌∷◌, ◌++◌, Bool, true, false, Option, Some, length, get_or, refl, sym, ap, ◌∙◌, subst, inl, inr, arith}
use Rattle.std.specs.Prelude.{Contains, sum_by, if◌then◌else◌}
use Rattle.std.proofs.lemmas.List.Elements.{Contains-append_left, Contains-append_right, Contains-append_cases}
use Rattle.std.proofs.lemmas.List.Sums.{sum_by-set}
use Rattle.std.specs.Prelude.{slice_set}
use Rattle.fond_text.specs.Lists.{AreDistinct}
use Rattle.fond_kinds.specs.Parents.{parent_of}
use Rattle.fond_kinds.specs.Forests.{is_marked}
use Rattle.fond_kinds.specs.Growth.{missing, first_or, Leads}

pub the_only : {X : Type 0} (x y : X) → Contains (y ∷ []) x → x ≡ y
the_only x y (zero, within, is) = sym is
the_only x y (suc k, within, is) = absurd (omega arith)

pub none : {X : Type 0} (x : X) → ¬ Contains [] x
none x (k, within, is) = absurd (omega arith)

pub is_last : {X : Type 0} (xs : List X) (y : X) → Contains (xs ++ y ∷ []) y
is_last xs y = Contains-append_right xs (y ∷ []) y (0, omega arith, refl)

-- a distinct list with one more at its end, and without its last
pub distinct-more : (xs : List ℕ) (y : ℕ) → AreDistinct xs → ¬ Contains xs y → AreDistinct (xs ++ y ∷ [])
distinct-more [] y distinct new = (none y, tt)
distinct-more (x ∷ xs) y distinct new = (
  (λ has. elim (Contains-append_cases xs (y ∷ []) x has) [
    | inl before ↦ distinct.0 before
    | inr last ↦ new (subst (λ z. Contains (x ∷ xs) z) (the_only x y last) (0, omega arith, refl))
  ]),
  distinct-more xs y distinct.1 (λ has. new (later x xs y has)),
)
  where
    later : (x : ℕ) (xs : List ℕ) (y : ℕ) → Contains xs y → Contains (x ∷ xs) y
    later x xs y has = Contains-append_right (x ∷ []) xs y has

pub distinct-front : (xs : List ℕ) (y : ℕ) → AreDistinct (xs ++ y ∷ []) → AreDistinct xs × ¬ Contains xs y
distinct-front [] y distinct = (tt, none y)
distinct-front (x ∷ xs) y distinct =
    let rest : AreDistinct xs × ¬ Contains xs y = distinct-front xs y distinct.1 in (
      ((λ has. distinct.0 (Contains-append_left xs (y ∷ []) x has)), rest.0),
      λ has. elim (Contains-append_cases (x ∷ []) xs y has) [
        | inl first ↦ distinct.0 (subst (λ z. Contains (xs ++ y ∷ []) z) (the_only y x first) (is_last xs y))
        | inr more ↦ rest.1 more
      ],
    )

-- a path with one more number at its end, and without its last
pub first-more : (xs : List ℕ) (y end : ℕ) → first_or (xs ++ y ∷ []) end ≡ first_or xs y
first-more [] y end = refl
first-more (x ∷ xs) y end = refl

pub leads-more : (parents : List (Option ℕ)) (xs : List ℕ) (y end : ℕ) → Leads parents xs y → parent_of parents y ≡ Some end → Leads parents (xs ++ y ∷ []) end
leads-more parents [] y end leads last = (last, tt)
leads-more parents (x ∷ xs) y end leads last = (leads.0 ∙ ap (λ z. Some z) (sym (first-more xs y end)), leads-more parents xs y end leads.1 last)

pub leads-front : (parents : List (Option ℕ)) (xs : List ℕ) (y end : ℕ) → Leads parents (xs ++ y ∷ []) end → Leads parents xs y × (parent_of parents y ≡ Some end)
leads-front parents [] y end leads = (tt, leads.0)
leads-front parents (x ∷ xs) y end leads =
    let rest : Leads parents xs y × (parent_of parents y ≡ Some end) = leads-front parents xs y end leads.1 in
    ((leads.0 ∙ ap (λ z. Some z) (first-more xs y end), rest.0), rest.1)

-- one more mark leaves one fewer without a mark
pub missing-set : (marks : List Bool) (y : ℕ) → y < length marks → is_marked marks y ≡ false → missing (slice_set marks y true) + 1 ≡ missing marks
missing-set marks y within not =
    let f : Bool → ℕ = λ mark. if mark then 0 else 1 in
    let whole : sum_by f (slice_set marks y true) + f (get_or marks y false) ≡ sum_by f marks + f true = sum_by-set f marks y true false within in
    let one : f (get_or marks y false) ≡ 1 = ap f not in
    omega (arith, whole, one)
