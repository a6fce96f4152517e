-- Which atoms, conditions and effects a tree is read as.
use Rattle.std.specs.Prelude.{◌==◌, ◌&&◌, Bool, false, not, List, [], ◌∷◌, map, length, Option, Some, None, codes, if◌then◌else◌}
use Rattle.fond_text.specs.Bools.{is_same}
use Rattle.fond_text.specs.Lists.{each_passes}
use Rattle.fond_tree.specs.declared.tree.Tree.{Tree}
use Rattle.fond_tree.specs.Trees.{members_of, place_of}
use Rattle.fond_ast.specs.declared.names.ReadAtom.{ReadAtom}
use Rattle.fond_ast.specs.declared.names.Term.{Term}
use Rattle.fond_ast.specs.declared.files.InitAtom.{InitAtom}
use Rattle.fond_ast.specs.declared.syntax.Cond.{Cond}
use Rattle.fond_ast.specs.declared.syntax.Cond.TheOpen as condition
use Rattle.fond_ast.specs.declared.syntax.Cond.TheFolds.{fold-Cond}
use Rattle.fond_ast.specs.declared.syntax.Effect.{Effect}
use Rattle.fond_ast.specs.declared.syntax.Effect.TheOpen as effect
use Rattle.fond_ast.specs.declared.syntax.Effect.TheFolds.{fold-Effect}
use Rattle.fond_tree.specs.Roles.{is_term as is_term_leaf}
use Rattle.fond_tree.specs.Words.{is_variable}
use Rattle.fond_reader.specs.Forms.{is_place, is_sorted, is_named, is_unit, is_form}
use Rattle.fond_reader.specs.Typed.{is_variable_list}

-- whether a tree is read as a term: a name or a variable
abbrev pub is_term : Term → Tree → Bool
is_term term tree = is_sorted is_term_leaf term.place term.name tree && is_same term.variable (is_variable term.name)

-- whether members are those of an atom: its name and its terms
abbrev pub are_of_atom : ReadAtom → Option (List Tree) → Bool
are_of_atom atom None = false
are_of_atom atom (Some []) = false
are_of_atom atom (Some (head ∷ after)) = is_named atom.head atom.name head && each_passes (map is_term atom.terms) after

-- whether a tree is read as an atom: a node of a name and terms
abbrev pub is_atom : ReadAtom → Tree → Bool
is_atom atom tree = is_place atom.place (place_of tree) && are_of_atom atom (members_of tree)

-- a condition is read from a tree by its operator and the trees of its parts
abbrev pub condition_step : condition.Cond-F (Tree → Bool) → Tree → Bool
condition_step condition.Truth tree = is_unit tree
condition_step (condition.Holds atom) tree = is_atom atom tree
condition_step (condition.Equal term other) tree = is_form (codes "=") (is_term term ∷ is_term other ∷ []) tree
condition_step (condition.And parts) tree = is_form (codes "and") parts.items tree
condition_step (condition.Or parts) tree = is_form (codes "or") parts.items tree
condition_step (condition.Not part) tree = is_form (codes "not") (part.value ∷ []) tree
condition_step (condition.Imply part other) tree = is_form (codes "imply") (part.value ∷ other.value ∷ []) tree
condition_step (condition.Forall names part) tree = is_form (codes "forall") (is_variable_list names ∷ part.value ∷ []) tree
condition_step (condition.Exists names part) tree = is_form (codes "exists") (is_variable_list names ∷ part.value ∷ []) tree

-- whether a tree is read as a condition: `()`, an atom, or an operator before its operands
abbrev pub is_condition : Cond → Tree → Bool
is_condition = fold-Cond (Tree → Bool) condition_step

-- an effect is read from a tree by its operator and the trees of its parts; a choice has at least one part
abbrev pub effect_step : effect.Effect-F (Tree → Bool) → Tree → Bool
effect_step effect.Nothing tree = is_unit tree
effect_step (effect.Add atom) tree = is_atom atom tree
effect_step (effect.Delete atom) tree = is_form (codes "not") (is_atom atom ∷ []) tree
effect_step (effect.And parts) tree = is_form (codes "and") parts.items tree
effect_step (effect.Forall names part) tree = is_form (codes "forall") (is_variable_list names ∷ part.value ∷ []) tree
effect_step (effect.When condition part) tree = is_form (codes "when") (is_condition condition ∷ part.value ∷ []) tree
effect_step (effect.OneOf parts) tree = not (length parts.items == 0) && is_form (codes "oneof") parts.items tree

-- whether a tree is read as an effect: `()`, an atom, `not` before an atom, or an operator before its operands
abbrev pub is_effect : Effect → Tree → Bool
is_effect = fold-Effect (Tree → Bool) effect_step

-- whether a tree is read as an initial atom, or as one with `not` before it
abbrev pub is_initial : InitAtom → Tree → Bool
is_initial initial tree = if initial.positive then is_atom initial.atom tree else is_form (codes "not") (is_atom initial.atom ∷ []) tree
