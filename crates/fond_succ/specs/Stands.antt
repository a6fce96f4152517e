-- The states of a task for which the states of its ground task stand.
use Rattle.std.specs.Prelude.{Bool, true, false, not, List, [], ◌∷◌, filter, map}
use Rattle.std.specs.FinSet as set
use Rattle.fond_text.specs.declared.atom.Atom.{Atom}
use Rattle.fond_ast.specs.Within.{is_fluent}
use Rattle.fond_ast.specs.declared.task.LiftedTask.{LiftedTask}
use Rattle.fond_ast.specs.States.{State, atoms_of}
use Rattle.fond_ground.specs.Atoms.{fluent_atoms}

-- the atoms that have the value true
abbrev pub true_atoms : List Atom → List Bool → List Atom
true_atoms (atom ∷ atoms) (true ∷ values) = atom ∷ true_atoms atoms values
true_atoms (atom ∷ atoms) (false ∷ values) = true_atoms atoms values
true_atoms atoms values = []

-- the initial atoms of static predicates
abbrev pub static_atoms : LiftedTask → List Atom
static_atoms task = filter (λ atom. not (is_fluent task.predicates atom.predicate)) task.init

-- the state for which truth values of the fluent atoms stand: the set of the true ones, with the initial atoms of static
-- predicates
abbrev pub stands : LiftedTask → List Bool → State
stands task values = set.union (atoms_of (true_atoms (fluent_atoms task) values)) (atoms_of (static_atoms task))

-- the truth values of the fluent atoms in a state
abbrev pub restrict : LiftedTask → State → List Bool
restrict task state = map (set.contains state) (fluent_atoms task)
