-- Ground atoms over numbers, and the objects among terms.
use Rattle.std.specs.Prelude.{ℕ, Bool, List, [], ◌∷◌, map}
use Rattle.fond_text.specs.Lists.{each_passes}
use Rattle.fond_text.specs.declared.atom.Atom.{Atom}
use Rattle.fond_ast.specs.declared.form.LTerm.{LTerm}
use Rattle.fond_ast.specs.declared.form.LTerm.TheVariants.{Object, Variable}
use Rattle.fond_names.specs.Names.{Declarations}
use Rattle.fond_types.specs.Meanings.{meanings}
use Rattle.fond_types.specs.Resolves.{is_ground_atom, positive}

-- the objects among some terms, in order
abbrev pub objects_in : List LTerm → List ℕ
objects_in [] = []
objects_in (Object number ∷ terms) = number ∷ objects_in terms
objects_in (Variable number ∷ terms) = objects_in terms

-- whether ground atoms are the initial ones of a problem that are not negated
abbrev pub are_initial : Declarations → List Atom → Bool
are_initial files atoms = each_passes (map (is_ground_atom (meanings files)) (positive files.problem.init)) atoms
