-- A ground condition is true in a state if and only if the condition for which it stands holds in the state for which the state
-- stands.
use Rattle.std.proofs.Common.{◌≡◌, ℕ, zero, suc, ◌<◌, inl, inr, List, [], ◌∷◌, Bool, true, false, not, Some, length, refl, sym, ap, ◌∙◌, subst, arith}
use Rattle.std.specs.Prelude.{IsTrue, if◌then◌else◌}
use Rattle.std.specs.FinSet as set
use Rattle.std.proofs.lemmas.Bool.{cases_Bool}
use Rattle.std.proofs.lemmas.Option.{none-some, same_Some, slice_get_within}
use Rattle.fond_text.specs.declared.atom.Atom.{Atom}
use Rattle.fond_ast.specs.Within.{is_fluent}
use Rattle.fond_ast.specs.declared.form.LCond.{LCond}
use Rattle.fond_ast.specs.declared.task.LiftedTask.{LiftedTask}
use Rattle.fond_ast.specs.Outcomes.{Guard, Literal, takes_place}
use Rattle.fond_ast.specs.Solutions.{initial}
use Rattle.fond_ast.specs.Truths.{holds}
use Rattle.fond_state.specs.Cubes.{LiesIn, full_cube, literal_at, truth_at}
use Rattle.fond_join.specs.Kept.{is_no, open_value, static_value}
use Rattle.fond_join.specs.Values.{condition_value}
use Rattle.fond_task.specs.declared.form.Form.{Form}
use Rattle.fond_task.specs.declared.form.Kleene.{Kleene}
use Rattle.fond_task.specs.declared.form.Kleene.TheVariants.{No, Unknown, Yes}
use Rattle.fond_task.specs.declared.task.Entry.{Entry}
use Rattle.fond_task.specs.Distinct.{are_distinct_atoms}
use Rattle.fond_task.specs.Truth.{is_true}
use Rattle.fond_task.specs.Values.{literal_value, value}
use Rattle.fond_task.proofs.Tells.{Tells, Tells-value}
use Rattle.fond_ground.specs.Atoms.{atom_number, fluent_atoms}
use Rattle.fond_ground.specs.Grounds.{IsEntryOf}
use Rattle.fond_ground.specs.Values.{StandsFor, atom_value, value_or}
use Rattle.fond_succ.specs.Stands.{stands}
use Rattle.fond_succ.proofs.Firsts.{some_or_none}
use Rattle.fond_succ.proofs.Atoms.{atom-at}
use Rattle.fond_succ.proofs.States.{numbered_stands, static_stands, unfluent_stands}
use Rattle.fond_succ.proofs.Values.{IsKnown, condition_fits, known, known_kept, least_fits, tells_kept}

-- a state lies in its full cube
lies_in_full : (values : List Bool) → LiesIn values (full_cube values)
lies_in_full [] atom sign is = absurd (none-some sign is)
lies_in_full (value ∷ values) zero sign is = same_Some value sign is
lies_in_full (value ∷ values) (suc atom) sign is = lies_in_full values atom sign is

-- the full cube has a literal of each atom, of its truth value
full_literal : (values : List Bool) (n : ℕ) → n < length values → literal_at (full_cube values) n ≡ Some (truth_at values n)
full_literal [] n below = absurd (omega (arith, below))
full_literal (value ∷ values) zero below = refl
full_literal (value ∷ values) (suc n) below = full_literal values n (omega (arith, below))

literal_known : (truth : Bool) → literal_value (Some truth) true ≡ known truth
literal_known true = refl
literal_known false = refl

-- if the value of a form on the full cube is known, it is the truth of the form
known_truth : (values : List Bool) (form : Form) (truth : Bool) → value (full_cube values) form ≡ known truth → is_true values form ≡ truth
known_truth values form truth is = told truth (let P : Kleene → Type 0 = λ v. Tells v (is_true values form) in subst P is (Tells-value values (full_cube values) (lies_in_full values) form))
  where
    told : (truth : Bool) → Tells (known truth) (is_true values form) → is_true values form ≡ truth
    told true tells = tells
    told false tells = tells

module _ (task : LiftedTask) (distinct : IsTrue (are_distinct_atoms (fluent_atoms task))) where
  -- the value of an atom if nothing is known of the fluent atoms agrees with its truth in each state
  open_tells : (values : List Bool) (atom : Atom) → Tells (open_value task atom) (set.contains (stands task values) atom)
  open_tells values atom = elim (cases_Bool (is_fluent task.predicates atom.predicate)) [
    | inl fluent ↦ subst (λ b. Tells (if b then Unknown else static_value task atom) (set.contains (stands task values) atom)) (sym fluent) tt
    | inr static ↦ subst (λ b. Tells (if b then Unknown else static_value task atom) (set.contains (stands task values) atom)) (sym static)
        (subst (Tells (static_value task atom)) (sym (unfluent_stands task distinct values atom static)) (tells_kept.sure (set.contains (initial task) atom)))
  ]

  -- a condition that holds in some state is not surely false if nothing is known of the fluent atoms
  pub not_surely_false : (values : List Bool) (env : List ℕ) (condition : LCond) → IsTrue (holds (stands task values) env condition) → IsTrue (not (is_no (condition_value (open_value task) env condition)))
  not_surely_false values env condition is =
      open_ (condition_value (open_value task) env condition) (holds (stands task values) env condition) is (condition_fits Tells tells_kept (open_value task) (stands task values) (open_tells values) condition env)
    where
      open_ : (v : Kleene) (b : Bool) → IsTrue b → Tells v b → IsTrue (not (is_no v))
      open_ No b is tells = sym tells ∙ is
      open_ Unknown b is tells = refl
      open_ Yes b is tells = refl

  module _ (values : List Bool) (long : length values ≡ length (fluent_atoms task)) where
    -- on the full cube, the value of an atom is its truth in the state
    pub atom_known : (atom : Atom) → atom_value task (full_cube values) atom ≡ known (set.contains (stands task values) atom)
    atom_known atom = elim (some_or_none (atom_number task atom)) [
      | inl one ↦ (let at = atom-at task atom one.0 one.1 in
          let below : one.0 < length (fluent_atoms task) = slice_get_within (fluent_atoms task) one.0 atom at in
          ap (value_or (full_cube values) (static_value task atom)) one.1 ∙ ap (λ o. literal_value o true) (full_literal values one.0 (omega (arith, below, long))) ∙ literal_known (truth_at values one.0)
          ∙ ap known (sym (numbered_stands task distinct values atom one.0 at)))
      | inr none ↦ ap (value_or (full_cube values) (static_value task atom)) none ∙ ap known (sym (static_stands task distinct values atom none))
    ]

    condition_known : (env : List ℕ) (condition : LCond) → condition_value (atom_value task (full_cube values)) env condition ≡ known (holds (stands task values) env condition)
    condition_known env condition = condition_fits IsKnown known_kept (atom_value task (full_cube values)) (stands task values) atom_known condition env

    -- a form that stands for a condition is true if and only if the condition holds
    pub form_holds : (env : List ℕ) (condition : LCond) (form : Form) → StandsFor task env condition form → is_true values form ≡ holds (stands task values) env condition
    form_holds env condition form is = known_truth values form _ (is (full_cube values) ∙ condition_known env condition)

    -- the condition of an entry is true if and only if the literal for which the entry stands takes place
    pub entry_holds : (literal : Literal) (entry : Entry) → IsEntryOf task literal entry → is_true values entry.cond ≡ takes_place (stands task values) literal
    entry_holds literal entry is = known_truth values entry.cond _ (is.valued (full_cube values) ∙ least_fits IsKnown known_kept (λ (guard : Guard). condition_value (atom_value task (full_cube values)) guard.env guard.condition) (λ (guard : Guard). holds (stands task values) guard.env guard.condition)
        (λ guard. condition_known guard.env guard.condition) literal.guards)
