-- A fault of a tree is a fault of its own, or occurs in one of its parts.
use Rattle.std.proofs.Common.{◌≡◌, ◌⊎◌, inl, inr, ℕ, zero, suc, List, [], ◌∷◌, Some, slice_get, refl, sym, subst}
use Rattle.std.specs.Prelude.{option_and_then}
use Rattle.fond_text.specs.declared.place.Place.{Place}
use Rattle.fond_tree.specs.declared.tree.Tree.{Tree}
use Rattle.fond_tree.specs.declared.role.Role.{Role}
use Rattle.fond_tree.specs.Parts.{Part, part, parts, part_at}
use Rattle.fond_tree.specs.FormFaults.{IsOwnFault, Stands}

-- a fault occurs in one of these parts
abbrev pub Among : List Part → Place → ℕ → Type 0
Among [] place code = ⊥
Among (first ∷ rest) place code = Stands first.role first.tree place code ⊎ Among rest place code

-- some part inside one of these parts has a fault of its own
record Reached (list : List Part) (place : Place) (code : ℕ) : Type 0 where
  pub number : ℕ
  pub path : List ℕ
  pub at : Part
  pub reached : option_and_then (λ inner. part_at inner path) (slice_get list number) ≡ Some at
  pub own : IsOwnFault at place code

among_at : (list : List Part) (number : ℕ) (path : List ℕ) (at : Part) (place : Place) (code : ℕ) →
    option_and_then (λ inner. part_at inner path) (slice_get list number) ≡ Some at → IsOwnFault at place code → Among list place code
among_at [] number path at place code reached own = absurd (cc)
among_at (first ∷ rest) zero path at place code reached own = inl (record { path = path; at = at; reached = reached; own = own })
among_at (first ∷ rest) (suc number) path at place code reached own = inr (among_at rest number path at place code reached own)

reached_among : (list : List Part) (place : Place) (code : ℕ) → Among list place code → Reached list place code
reached_among [] place code h = absurd h
reached_among (first ∷ rest) place code (inl s) = record { number = zero; path = s.path; at = s.at; reached = s.reached; own = s.own }
reached_among (first ∷ rest) place code (inr h) =
    let r = reached_among rest place code h in
    record { number = suc r.number; path = r.path; at = r.at; reached = r.reached; own = r.own }

own_or_among : (whole : Part) (path : List ℕ) (at : Part) (place : Place) (code : ℕ) → part_at whole path ≡ Some at → IsOwnFault at place code →
    IsOwnFault whole place code ⊎ Among (parts whole) place code
own_or_among whole [] at place code reached own =
    let same : whole ≡ at = cc in
    inl (subst (λ (p : Part). IsOwnFault p place code) (sym same) own)
own_or_among whole (number ∷ path) at place code reached own = inr (among_at (parts whole) number path at place code reached own)

pub stands_down : (role : Role) (tree : Tree) (place : Place) (code : ℕ) → Stands role tree place code → IsOwnFault (part role tree) place code ⊎ Among (parts (part role tree)) place code
stands_down role tree place code s = own_or_among (part role tree) s.path s.at place code s.reached s.own

pub stands_up : (role : Role) (tree : Tree) (place : Place) (code : ℕ) → IsOwnFault (part role tree) place code ⊎ Among (parts (part role tree)) place code → Stands role tree place code
stands_up role tree place code (inl own) = record { path = []; at = part role tree; reached = refl; own = own }
stands_up role tree place code (inr h) =
    let r = reached_among (parts (part role tree)) place code h in
    record { path = r.number ∷ r.path; at = r.at; reached = r.reached; own = r.own }
