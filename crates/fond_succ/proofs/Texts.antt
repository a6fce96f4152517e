-- A state and the one for which it stands have the same text.
use Rattle.std.proofs.Common.{◌≡◌, ℕ, zero, suc, ◌+◌, List, [], ◌∷◌, ◌++◌, Bool, Some, refl, sym, ap, ◌∙◌, arith}
use Rattle.std.specs.Prelude.{slice_get, codes, if◌then◌else◌}
use Rattle.std.specs.List.{enumerate_from, flat_map}
use Rattle.std.specs.FinSet as set
use Rattle.fond_text.specs.declared.atom.Atom.{Atom}
use Rattle.fond_ast.specs.declared.task.LiftedTask.{LiftedTask}
use Rattle.fond_ast.specs.States.{State}
use Rattle.fond_state.specs.Cubes.{truth_at}
use Rattle.fond_task.specs.declared.task.Labels.{Labels}
use Rattle.fond_task.specs.declared.task.Task.{Task}
use Rattle.fond_task.specs.Texts as ground_texts
use Rattle.fond_task.specs.Texts.{atom_text}
use Rattle.fond_ground.specs.Atoms.{fluent_atoms}
use Rattle.fond_ground.specs.Grounds.{IsGroundOf}
use Rattle.fond_ground.specs.Texts.{labels_of, state_text}
use Rattle.fond_succ.specs.Stands.{stands}
use Rattle.fond_succ.proofs.Plays.{distinct}
use Rattle.fond_succ.proofs.States.{numbered_stands}

-- the line of an atom that is true
abbrev line : Labels → Bool → Atom → List ℕ
line labels truth atom = if truth then atom_text labels atom ++ codes "\n" else []

-- the lines of atoms are the same if their truth values are
lines_alike : (labels : Labels) (values : List Bool) (state : State) (from : ℕ) (atoms : List Atom) → ((i : ℕ) (atom : Atom) → slice_get atoms i ≡ Some atom → truth_at values (from + i) ≡ set.contains state atom)
    → flat_map (λ item. line labels (truth_at values item.0) item.1) (enumerate_from from atoms) ≡ flat_map (λ atom. line labels (set.contains state atom) atom) atoms
lines_alike labels values state from [] each = refl
lines_alike labels values state from (atom ∷ atoms) each =
    let here : from ≡ from + zero = omega arith in
    ap (λ truth. line labels truth atom ++ flat_map (λ item. line labels (truth_at values item.0) item.1) (enumerate_from (from + 1) atoms)) (ap (truth_at values) here ∙ each zero atom refl)
    ∙ ap (λ rest. line labels (set.contains state atom) atom ++ rest) (lines_alike labels values state (from + 1) atoms (λ i other at. (let next : from + 1 + i ≡ from + suc i = omega arith in ap (truth_at values) next ∙ each (suc i) other at)))

pub texts_alike : (task : LiftedTask) (game : Task) (is : IsGroundOf task game) (values : List Bool) → ground_texts.state_text game values ≡ state_text task (stands task values)
texts_alike task game is values =
    ap (λ atoms. codes "state\n" ++ flat_map (λ item. line game.labels (truth_at values item.0) item.1) (enumerate_from 0 atoms)) is.atoms
    ∙ ap (λ labels. codes "state\n" ++ flat_map (λ item. line labels (truth_at values item.0) item.1) (enumerate_from 0 (fluent_atoms task))) is.labels
    ∙ ap (λ lines. codes "state\n" ++ lines) (lines_alike (labels_of task) values (stands task values) 0 (fluent_atoms task) (λ i atom at.
    let plain : 0 + i ≡ i = omega arith in
    ap (truth_at values) plain ∙ sym (numbered_stands task (distinct task game is) values atom i at)))
