-- The value of a condition in Kleene's strong three-valued logic, given the values of the ground atoms.
use Rattle.std.specs.Prelude.{◌==◌, ℕ, List, ◌++◌, map, if◌then◌else◌}
use Rattle.fond_text.specs.declared.atom.Atom.{Atom}
use Rattle.fond_ast.specs.Ranges.{objects_of}
use Rattle.fond_ast.specs.declared.form.LCond.{LCond}
use Rattle.fond_ast.specs.declared.form.LCond.TheOpen.{LCond-F, Truth, Holds, Equal, And, Or, Not, Imply, Forall, Exists}
use Rattle.fond_ast.specs.declared.form.LCond.TheFolds.{fold-LCond}
use Rattle.fond_ast.specs.Conditions.{object_of, ground_atom, tuples}
use Rattle.fond_task.specs.declared.form.Kleene.{Kleene}
use Rattle.fond_task.specs.declared.form.Kleene.TheVariants.{No, Yes}
use Rattle.fond_task.specs.Values.{greater, greatest, least, opposite}

abbrev pub condition_step : (Atom → Kleene) → LCond-F (List ℕ → Kleene) → List ℕ → Kleene
condition_step known Truth env = Yes
condition_step known (Holds atom) env = known (ground_atom env atom)
condition_step known (Equal term other) env = if object_of env term == object_of env other then Yes else No
condition_step known (And parts) env = least (map (λ part. part env) parts.items)
condition_step known (Or parts) env = greatest (map (λ part. part env) parts.items)
condition_step known (Not part) env = opposite (part.value env)
condition_step known (Imply part other) env = greater (opposite (part.value env)) (other.value env)
condition_step known (Forall ranges part) env = least (map (λ objects. part.value (env ++ objects)) (tuples (objects_of ranges)))
condition_step known (Exists ranges part) env = greatest (map (λ objects. part.value (env ++ objects)) (tuples (objects_of ranges)))

-- the value of a condition, given the value of each ground atom and the objects of the variables around the condition: a
-- conjunction has the least value of its parts, a disjunction the greatest, a negation the opposite of its part, an
-- implication the greater of the opposite of its first part and its second, and a quantified condition that of the
-- conjunction or the disjunction over the lists of objects of its ranges
abbrev pub condition_value : (Atom → Kleene) → List ℕ → LCond → Kleene
condition_value known env condition = fold-LCond (List ℕ → Kleene) (condition_step known) condition env
