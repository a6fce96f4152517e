-- Whether conditions hold, as a test.
use Rattle.std.specs.Prelude.{◌==◌, ◌||◌, ℕ, Bool, true, not, List, ◌++◌}
use Rattle.std.specs.List.{list_all, list_any}
use Rattle.std.specs.FinSet as set
use Rattle.fond_ast.specs.Ranges.{objects_of}
use Rattle.fond_ast.specs.declared.form.LCond.{LCond}
use Rattle.fond_ast.specs.declared.form.LCond.TheOpen.{LCond-F, Truth, Holds, Equal, And, Or, Not, Imply, Forall, Exists}
use Rattle.fond_ast.specs.declared.form.LCond.TheFolds.{fold-LCond}
use Rattle.fond_ast.specs.States.{State}
use Rattle.fond_ast.specs.Conditions.{object_of, ground_atom, tuples}

abbrev pub holds_step : State → LCond-F (List ℕ → Bool) → List ℕ → Bool
holds_step state Truth env = true
holds_step state (Holds atom) env = set.contains state (ground_atom env atom)
holds_step state (Equal term other) env = object_of env term == object_of env other
holds_step state (And parts) env = list_all (λ part. part env) parts.items
holds_step state (Or parts) env = list_any (λ part. part env) parts.items
holds_step state (Not part) env = not (part.value env)
holds_step state (Imply part other) env = not (part.value env) || other.value env
holds_step state (Forall ranges part) env = list_all (λ objects. part.value (env ++ objects)) (tuples (objects_of ranges))
holds_step state (Exists ranges part) env = list_any (λ objects. part.value (env ++ objects)) (tuples (objects_of ranges))

-- whether a condition holds in a state, where these are the objects of the variables around it
abbrev pub holds : State → List ℕ → LCond → Bool
holds state env condition = fold-LCond (List ℕ → Bool) (holds_step state) condition env
