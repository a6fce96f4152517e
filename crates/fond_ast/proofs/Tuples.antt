-- The lists of one object of each range have their objects in the ranges, place by place.
use Rattle.std.proofs.Common.{◌≡◌, inl, inr, ℕ, true, List, [], ◌∷◌, map, refl, sym, ap, ◌∙◌, arith}
use Rattle.std.specs.Prelude.{◌==◌}
use Rattle.std.proofs.lemmas.Bool.Decides.{nat_tests}
use Rattle.fond_text.specs.Lists.{each_passes}
use Rattle.fond_ast.specs.Ranges.{is_among}
use Rattle.fond_ast.specs.Conditions.{tuples}
use Rattle.fond_ast.specs.Laws.{TuplesLieInRanges}
use Rattle.fond_ast.proofs.Bools.{and-both, and-parts, or-left, or-right, or-cases}
use Rattle.fond_ast.proofs.Members.{Member, Member-from_Contains, Contains-from_Member, Member-map, Member-from_map, Member-flat_map, Member-from_flat_map}

among : (range : List ℕ) (object : ℕ) → Member range object → is_among range object ≡ true
among [] object m = absurd m
among (other ∷ range) object (inl e) = or-left (other == object) (is_among range object) (let f : other ≡ object = sym e in grind (arith, nat_tests))
among (other ∷ range) object (inr m) = or-right (other == object) (is_among range object) (among range object m)

of-among : (range : List ℕ) (object : ℕ) → is_among range object ≡ true → Member range object
of-among [] object h = cc
of-among (other ∷ range) object h =
    elim (or-cases (other == object) (is_among range object) h) [ inl e ↦ inl (let f : other ≡ object = grind (arith, nat_tests, e) in sym f) | inr m ↦ inr (of-among range object m) ]

lies : (ranges : List (List ℕ)) (objects : List ℕ) → Member (tuples ranges) objects → each_passes (map is_among ranges) objects ≡ true
lies [] objects (inl e) = ap (each_passes []) e
lies [] objects (inr none) = absurd none
lies (range ∷ ranges) objects m =
    let outer = Member-from_flat_map (λ object. map (λ rest. object ∷ rest) (tuples ranges)) range objects m in
    let inner = Member-from_map (λ rest. outer.0 ∷ rest) (tuples ranges) objects outer.2 in
    ap (each_passes (map is_among (range ∷ ranges))) inner.2
    ∙ and-both (is_among range outer.0) (each_passes (map is_among ranges) inner.0) (among range outer.0 outer.1) (lies ranges inner.0 inner.1)

of-lies : (ranges : List (List ℕ)) (objects : List ℕ) → each_passes (map is_among ranges) objects ≡ true → Member (tuples ranges) objects
of-lies [] [] h = inl refl
of-lies [] (object ∷ objects) h = cc
of-lies (range ∷ ranges) [] h = cc
of-lies (range ∷ ranges) (object ∷ objects) h =
    let all = and-parts (is_among range object) (each_passes (map is_among ranges) objects) h in
    Member-flat_map (λ first. map (λ rest. first ∷ rest) (tuples ranges)) range object (object ∷ objects) (of-among range object all.0)
    (Member-map (λ rest. object ∷ rest) (tuples ranges) objects (of-lies ranges objects all.1))

pub tuples-lie-in-ranges : TuplesLieInRanges
tuples-lie-in-ranges ranges objects = (
  λ c. lies ranges objects (Member-from_Contains (tuples ranges) objects c),
  λ h. Contains-from_Member (tuples ranges) objects (of-lies ranges objects h),
)
