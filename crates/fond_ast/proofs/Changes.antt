-- The changes that outcomes make.
use Rattle.std.proofs.Common.{◌≡◌, ◌∙◌, ◌&&◌, ◌||◌, Bool, true, false, List, [], ◌∷◌, ◌++◌, map, refl, sym, ap}
use Rattle.std.specs.Prelude.{filter, if◌then◌else◌}
use Rattle.std.specs.Ordering.{eq_by_cmp}
use Rattle.std.specs.List.{list_any}
use Rattle.std.specs.FinSet as set
use Rattle.std.proofs.lemmas.List.{map-append}
use Rattle.std.proofs.lemmas.List.Elements.{filter-append}
use Rattle.std.proofs.lemmas.List.Folds.{list_any-append}
use Rattle.fond_text.specs.Bools.{is_same}
use Rattle.fond_text.specs.declared.atom.Atom.{Atom}
use Rattle.fond_ast.specs.States.{State, atom_cmp, atoms_of}
use Rattle.fond_ast.specs.Effects.{no_change, both}
use Rattle.fond_ast.specs.Truths.{holds}
use Rattle.fond_ast.specs.Outcomes.{Guard, Literal, guarded, takes_place, changed_atoms, change_of}
use Rattle.fond_ast.proofs.Atoms.{atom_cmp_total, atom_cmp-IsAntisymmetric}

-- the atoms of two lists are those of the one and those of the other
pub atoms_of-append : (xs ys : List Atom) → atoms_of (xs ++ ys) ≡ set.union (atoms_of xs) (atoms_of ys)
atoms_of-append xs ys = set.same_set atom_cmp_total atom_cmp-IsAntisymmetric _ _ (λ q.
    set.contains-from_list atom_cmp_total (xs ++ ys) q
    ∙ list_any-append (eq_by_cmp atom_cmp q) xs ys
    ∙ ap (λ b. b || list_any (eq_by_cmp atom_cmp q) ys) (sym (set.contains-from_list atom_cmp_total xs q))
    ∙ ap (λ b. set.contains (atoms_of xs) q || b) (sym (set.contains-from_list atom_cmp_total ys q))
    ∙ sym (set.contains-union atom_cmp_total (atoms_of xs) (atoms_of ys) q))

module _ (state : State) where
  abbrev counts : Bool → Literal → Bool
  counts sign literal = is_same literal.add sign && takes_place state literal

  atoms-append : (sign : Bool) (first second : List Literal) → changed_atoms state sign (first ++ second) ≡ set.union (changed_atoms state sign first) (changed_atoms state sign second)
  atoms-append sign first second =
      ap (λ literals. atoms_of (map (λ (literal : Literal). literal.atom) literals)) (filter-append (counts sign) first second)
      ∙ ap atoms_of (map-append (λ (literal : Literal). literal.atom) (filter (counts sign) first) (filter (counts sign) second))
      ∙ atoms_of-append _ _

  -- two outcomes together make both changes
  pub change-append : (first second : List Literal) → change_of state (first ++ second) ≡ both (change_of state first) (change_of state second)
  change-append first second = λ i. record { del = atoms-append false first second i; add = atoms-append true first second i }

  -- a literal under one more condition counts if the condition holds and the literal counts
  one-more : (a b c : Bool) → b ≡ true → (a && (b && c)) ≡ (a && c)
  one-more a true c e = refl
  one-more a false c e = cc

  none-more : (a b c : Bool) → b ≡ false → (a && (b && c)) ≡ false
  none-more true true c e = cc
  none-more true false c e = refl
  none-more false b c e = refl

  module _ (guard : Guard) where
    kept-atoms : holds state guard.env guard.condition ≡ true → (sign : Bool) (outcome : List Literal) → map (λ literal. literal.atom) (filter (counts sign) (map (guarded guard) outcome)) ≡ map (λ literal. literal.atom) (filter (counts sign) outcome)
    kept-atoms is sign [] = refl
    kept-atoms is sign (literal ∷ outcome) =
        by (counts sign (guarded guard literal)) (counts sign literal) (one-more (is_same literal.add sign) (holds state guard.env guard.condition) (takes_place state literal) is) (kept-atoms is sign outcome)
      where
        by : (a b : Bool) → a ≡ b →
            map (λ (literal : Literal). literal.atom) (filter (counts sign) (map (guarded guard) outcome)) ≡ map (λ (literal : Literal). literal.atom) (filter (counts sign) outcome) →
            map (λ (literal : Literal). literal.atom) (if a then guarded guard literal ∷ filter (counts sign) (map (guarded guard) outcome) else filter (counts sign) (map (guarded guard) outcome))
            ≡ map (λ (literal : Literal). literal.atom) (if b then literal ∷ filter (counts sign) outcome else filter (counts sign) outcome)
        by true true e later = ap (λ rest. literal.atom ∷ rest) later
        by true false e later = cc
        by false true e later = cc
        by false false e later = later

    no-atoms : holds state guard.env guard.condition ≡ false → (sign : Bool) (outcome : List Literal) → filter (counts sign) (map (guarded guard) outcome) ≡ []
    no-atoms is sign [] = refl
    no-atoms is sign (literal ∷ outcome) =
        by (counts sign (guarded guard literal)) (none-more (is_same literal.add sign) (holds state guard.env guard.condition) (takes_place state literal) is) (no-atoms is sign outcome)
      where
        by : (a : Bool) → a ≡ false → filter (counts sign) (map (guarded guard) outcome) ≡ [] → (if a then guarded guard literal ∷ filter (counts sign) (map (guarded guard) outcome) else filter (counts sign) (map (guarded guard) outcome)) ≡ []
        by true e later = cc
        by false e later = later

    -- under a condition that holds, an outcome makes its own change
    pub change-guarded : holds state guard.env guard.condition ≡ true → (outcome : List Literal) → change_of state (map (guarded guard) outcome) ≡ change_of state outcome
    change-guarded is outcome = λ i. record { del = atoms_of (kept-atoms is false outcome i); add = atoms_of (kept-atoms is true outcome i) }

    -- under a condition that does not hold, an outcome changes nothing
    pub change-barred : holds state guard.env guard.condition ≡ false → (outcome : List Literal) → change_of state (map (guarded guard) outcome) ≡ no_change
    change-barred is outcome =
        λ i. record { del = atoms_of (map (λ (literal : Literal). literal.atom) (no-atoms is false outcome i)); add = atoms_of (map (λ (literal : Literal). literal.atom) (no-atoms is true outcome i)) }
