-- Finite sets of ground atoms, and states.
use Rattle.std.specs.Prelude.{List, ◌∷◌}
use Rattle.std.specs.Ordering.{nat_cmp}
use Rattle.std.specs.Cmp.Lexicographic.{slice_cmp}
use Rattle.std.specs.FinSet as set
use Rattle.std.specs.declared.cmp.Ordering.{Ordering}
use Rattle.fond_text.specs.declared.atom.Atom.{Atom}

-- the order of atoms: by the predicate, and then by the objects in order
abbrev pub atom_cmp : Atom → Atom → Ordering
atom_cmp atom other = slice_cmp nat_cmp (atom.predicate ∷ atom.objects) (other.predicate ∷ other.objects)

-- a finite set of ground atoms
abbrev pub AtomSet : Type 0
AtomSet = set.FinSet atom_cmp

-- a state is the set of its true atoms
abbrev pub State : Type 0
State = AtomSet

-- the empty set
abbrev pub no_atoms : AtomSet
no_atoms = set.empty

-- the set of one atom
abbrev pub only : Atom → AtomSet
only atom = set.insert no_atoms atom

-- the set of the atoms of a list
abbrev pub atoms_of : List Atom → AtomSet
atoms_of atoms = set.from_list atoms
