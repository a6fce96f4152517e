-- Sets of atoms are equal if they have the same atoms.
use Rattle.std.proofs.Common.{◌≡◌, ◌∷◌}
use Rattle.std.specs.Cmp.{IsTotalOrder}
use Rattle.std.specs.Cmp.Lexicographic.{on_texts}
use Rattle.std.specs.FinSet as set
use Rattle.std.specs.FinSet.{IsAntisymmetric, nat_cmp-IsAntisymmetric, slice_cmp-IsAntisymmetric}
use Rattle.fond_text.specs.declared.atom.Atom.{Atom}
use Rattle.fond_ast.specs.States.{atom_cmp}
use Rattle.fond_ast.specs.Laws.{StatesAreTheirAtoms}

pub atom_cmp_total : IsTotalOrder atom_cmp
atom_cmp_total = on_texts (λ (atom : Atom). atom.predicate ∷ atom.objects)

pub atom_cmp-IsAntisymmetric : IsAntisymmetric atom_cmp
atom_cmp-IsAntisymmetric atom other tie =
    let same : atom.predicate ∷ atom.objects ≡ other.predicate ∷ other.objects = slice_cmp-IsAntisymmetric nat_cmp-IsAntisymmetric _ _ tie in
    let predicates : atom.predicate ≡ other.predicate = cc in
    let objects : atom.objects ≡ other.objects = cc in
    λ i. record { predicate = predicates i; objects = objects i }

pub states-are-their-atoms : StatesAreTheirAtoms
states-are-their-atoms = set.same_set atom_cmp_total atom_cmp-IsAntisymmetric
