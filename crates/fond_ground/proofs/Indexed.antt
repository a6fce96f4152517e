-- Atoms are the same if their numbers are.
use Rattle.std.proofs.Common.{◌≡◌, ℕ, ◌+◌, ◌∙◌, Bool, true, List, [], ◌∷◌, Some, position, cond, refl, sym, ap}
use Rattle.std.specs.List.{position_from}
use Rattle.std.specs.Str.{bytes_eq}
use Rattle.std.specs.Cmp.Lexicographic.{bytes_decides}
use Rattle.std.proofs.lemmas.Bool.Decides.{same_from_decides}
use Rattle.std.proofs.lemmas.Iterator.Adapters.{position_from-zero}
use Rattle.fond_text.specs.declared.atom.Atom.{Atom}
use Rattle.fond_task.specs.Distinct.{atom_numbers}
use Rattle.fond_ground.specs.Atoms.{is_same_atom}

turned : (xs ys : List ℕ) → bytes_eq xs ys ≡ bytes_eq ys xs
turned xs ys = same_from_decides _ _ (bytes_decides xs ys) (let d = bytes_decides ys xs in (λ e. sym (d.0 e), λ e. d.1 (sym e)))

pub same-atom : (atom other : Atom) → is_same_atom atom other ≡ bytes_eq (atom_numbers other) (atom_numbers atom)
same-atom atom other = turned (atom_numbers atom) (atom_numbers other)

same_position : {X : Type 0} (f g : X → Bool) (xs : List X) (i : ℕ) → ((x : X) → f x ≡ g x) → position_from f i xs ≡ position_from g i xs
same_position f g [] i same = refl
same_position f g (x ∷ xs) i same = ap (λ b. cond b (Some i) (position_from f (i + 1) xs)) (same x) ∙ ap (cond (g x) (Some i)) (same_position f g xs (i + 1) same)

-- the first atom with the numbers of an atom is the first that is the same
pub first-same : (atoms : List Atom) (atom : Atom) → position (λ other. bytes_eq (atom_numbers other) (atom_numbers atom)) atoms ≡ position (is_same_atom atom) atoms
first-same atoms atom =
    position_from-zero _ atoms ∙ same_position _ _ atoms 0 (λ other. sym (same-atom atom other)) ∙ sym (position_from-zero (is_same_atom atom) atoms)

pub same-itself : (atom : Atom) → is_same_atom atom atom ≡ true
same-itself atom = same-atom atom atom ∙ (bytes_decides (atom_numbers atom) (atom_numbers atom)).1 refl
