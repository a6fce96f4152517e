-- Conditions, effects and initial atoms that are read fit.
use Rattle.std.proofs.Common.{◌≡◌, ◌==◌, Bool, true, false, not, List, [], ◌∷◌, map, length, codes, refl, sym, ap, subst, ◌∙◌, if◌then◌else◌}
use Rattle.std.specs.List.{AllByRecursion, AllZip}
use Rattle.fond_text.specs.Lists.{each_passes}
use Rattle.fond_tree.specs.declared.tree.Tree.{Tree}
use Rattle.fond_ast.specs.declared.files.InitAtom.{InitAtom}
use Rattle.fond_ast.specs.declared.names.ReadAtom.{ReadAtom}
use Rattle.fond_ast.specs.declared.syntax.Cond.{Cond, roll-Cond}
use Rattle.fond_ast.specs.declared.syntax.Cond.TheOpen as open_condition
use Rattle.fond_ast.specs.declared.syntax.Cond.TheFolds.{fold-roll-Cond, map-Cond, ind-Cond}
use Rattle.fond_ast.specs.declared.syntax.Effect.{Effect, roll-Effect}
use Rattle.fond_ast.specs.declared.syntax.Effect.TheOpen as open_effect
use Rattle.fond_ast.specs.declared.syntax.Effect.TheFolds.{fold-roll-Effect, map-Effect, ind-Effect}
use Rattle.fond_tree.specs.declared.role.Role.{Role}
use Rattle.fond_tree.specs.declared.role.Role.TheVariants as role
use Rattle.fond_tree.specs.declared.role.Rest.TheVariants.{Each}
use Rattle.fond_tree.specs.Roles.{shape, Members, choice}
use Rattle.fond_tree.specs.FormFaults.{Fits}
use Rattle.fond_tree.proofs.FormFits.{atom_fits_plain, atom_fits_condition, atom_fits_effect, atom_fits_initial, unit_fits_condition, unit_fits_effect, condition_each, condition_fixed, effect_each, effect_fixed, initial_fixed}
use Rattle.fond_reader.specs.Bodies.{is_atom, is_term, condition_step, is_condition, effect_step, is_effect, is_initial}
use Rattle.fond_reader.specs.Forms.{is_form}
use Rattle.fond_reader.specs.Typed.{is_variable_list}
use Rattle.fond_reader.proofs.ReadLeaves.{term_fits, atom_there, variables_fit}
use Rattle.fond_reader.proofs.Shapes.{form_there, unit_there}
use Rattle.fond_reader.proofs.Through.{first_of_both, second_of_both, true_is_false}

-- operands that are read one by one fit one by one
zip_one : (role : Role) (read : Tree → Bool) → ((tree : Tree) → read tree ≡ true → Fits role tree) → (trees : List Tree) → each_passes (read ∷ []) trees ≡ true → AllZip Fits (role ∷ []) trees
zip_one role read fits [] is = absurd (cc)
zip_one role read fits (t ∷ []) is = (fits t (first_of_both _ _ is), tt)
zip_one role read fits (t ∷ u ∷ us) is = let none = second_of_both (read t) false is in absurd (cc)

zip_two : (role other : Role) (read next : Tree → Bool) → ((tree : Tree) → read tree ≡ true → Fits role tree) → ((tree : Tree) → next tree ≡ true → Fits other tree) →
    (trees : List Tree) → each_passes (read ∷ next ∷ []) trees ≡ true → AllZip Fits (role ∷ other ∷ []) trees
zip_two role other read next fits fit [] is = absurd (cc)
zip_two role other read next fits fit (t ∷ ts) is = (fits t (first_of_both _ _ is), zip_one other next fit ts (second_of_both (read t) _ is))

pub atom_fits : (atom : ReadAtom) (tree : Tree) → is_atom atom tree ≡ true → Fits role.Atom tree
atom_fits atom tree is = let a = atom_there atom tree is in atom_fits_plain tree a.name a.after a.has a.named a.leaves a.shape_is

-- ---- conditions

abbrev ConditionFits : Cond → Type 0
ConditionFits condition = (tree : Tree) → is_condition condition tree ≡ true → Fits role.Condition tree

abbrev Part : Type 0
Part = (condition : Cond) × ConditionFits condition

parts_fit : (parts : List Part) (trees : List Tree) → each_passes (map is_condition (map (λ part. part.0) parts)) trees ≡ true → AllByRecursion (Fits role.Condition) trees
parts_fit [] [] is = tt
parts_fit [] (t ∷ ts) is = absurd (cc)
parts_fit (part ∷ parts) [] is = absurd (cc)
parts_fit (part ∷ parts) (t ∷ ts) is = (part.1 t (first_of_both _ _ is), parts_fit parts ts (second_of_both (is_condition part.0 t) _ is))

module _ (tree : Tree) where
  layer_fits : (y : open_condition.Cond-F Part) → condition_step (map-Cond Cond (Tree → Bool) is_condition (map-Cond Part Cond (λ part. part.0) y)) tree ≡ true → Fits role.Condition tree
  layer_fits open_condition.Truth is = unit_fits_condition tree (unit_there tree is)
  layer_fits (open_condition.Holds atom) is = let a = atom_there atom tree is in atom_fits_condition tree a.name a.after a.has a.named a.leaves a.shape_is
  layer_fits (open_condition.Equal term other) is =
      let form = form_there (codes "=") (is_term term ∷ is_term other ∷ []) tree is in
      condition_fixed tree (codes "=") form.after form.has (role.Term ∷ role.Term ∷ []) refl (zip_two role.Term role.Term (is_term term) (is_term other) (term_fits term) (term_fits other) form.after form.read)
  layer_fits (open_condition.And parts) is =
      let form = form_there (codes "and") (map is_condition (map (λ part. part.0) parts.items)) tree is in
      condition_each tree (codes "and") form.after form.has refl (parts_fit parts.items form.after form.read)
  layer_fits (open_condition.Or parts) is =
      let form = form_there (codes "or") (map is_condition (map (λ part. part.0) parts.items)) tree is in
      condition_each tree (codes "or") form.after form.has refl (parts_fit parts.items form.after form.read)
  layer_fits (open_condition.Not part) is =
      let form = form_there (codes "not") (is_condition part.value.0 ∷ []) tree is in
      condition_fixed tree (codes "not") form.after form.has (role.Condition ∷ []) refl (zip_one role.Condition (is_condition part.value.0) part.value.1 form.after form.read)
  layer_fits (open_condition.Imply part other) is =
      let form = form_there (codes "imply") (is_condition part.value.0 ∷ is_condition other.value.0 ∷ []) tree is in
      condition_fixed tree (codes "imply") form.after form.has (role.Condition ∷ role.Condition ∷ []) refl
      (zip_two role.Condition role.Condition (is_condition part.value.0) (is_condition other.value.0) part.value.1 other.value.1 form.after form.read)
  layer_fits (open_condition.Forall names part) is =
      let form = form_there (codes "forall") (is_variable_list names ∷ is_condition part.value.0 ∷ []) tree is in
      condition_fixed tree (codes "forall") form.after form.has (role.Variables ∷ role.Condition ∷ []) refl
      (zip_two role.Variables role.Condition (is_variable_list names) (is_condition part.value.0) (variables_fit names) part.value.1 form.after form.read)
  layer_fits (open_condition.Exists names part) is =
      let form = form_there (codes "exists") (is_variable_list names ∷ is_condition part.value.0 ∷ []) tree is in
      condition_fixed tree (codes "exists") form.after form.has (role.Variables ∷ role.Condition ∷ []) refl
      (zip_two role.Variables role.Condition (is_variable_list names) (is_condition part.value.0) (variables_fit names) part.value.1 form.after form.read)

of_layer : (layer : open_condition.Cond-F Cond) → ((tree : Tree) → condition_step (map-Cond Cond (Tree → Bool) is_condition layer) tree ≡ true → Fits role.Condition tree) → ConditionFits (roll-Cond layer)
of_layer layer step tree is = step tree (sym (ap (λ reads. reads tree) (fold-roll-Cond (Tree → Bool) condition_step layer)) ∙ is)

-- a tree that is read as a condition fits
pub condition_fits : (condition : Cond) → ConditionFits condition
condition_fits = ind-Cond ConditionFits (λ x y is.
    subst (λ (layer : open_condition.Cond-F Cond). ConditionFits (roll-Cond layer)) is (of_layer (map-Cond Part Cond (λ part. part.0) y) (λ tree read. layer_fits tree y read)))

-- ---- effects

abbrev EffectFits : Effect → Type 0
EffectFits effect = (tree : Tree) → is_effect effect tree ≡ true → Fits role.Effect tree

abbrev EffectPart : Type 0
EffectPart = (effect : Effect) × EffectFits effect

effects_fit : (parts : List EffectPart) (trees : List Tree) → each_passes (map is_effect (map (λ part. part.0) parts)) trees ≡ true → AllByRecursion (Fits role.Effect) trees
effects_fit [] [] is = tt
effects_fit [] (t ∷ ts) is = absurd (cc)
effects_fit (part ∷ parts) [] is = absurd (cc)
effects_fit (part ∷ parts) (t ∷ ts) is = (part.1 t (first_of_both _ _ is), effects_fit parts ts (second_of_both (is_effect part.0 t) _ is))

-- a choice that is read has a member
choice_asks : (reads : List (Tree → Bool)) (after : List Tree) → not (length reads == 0) ≡ true → each_passes reads after ≡ true → choice after ≡ Members (shape (role.Head ∷ []) (Each role.Effect))
choice_asks [] [] some read = absurd (true_is_false (sym some))
choice_asks (r ∷ rs) [] some read = absurd (true_is_false (sym read))
choice_asks reads (t ∷ ts) some read = refl

module _ (tree : Tree) where
  effect_layer_fits : (y : open_effect.Effect-F EffectPart) → effect_step (map-Effect Effect (Tree → Bool) is_effect (map-Effect EffectPart Effect (λ part. part.0) y)) tree ≡ true → Fits role.Effect tree
  effect_layer_fits open_effect.Nothing is = unit_fits_effect tree (unit_there tree is)
  effect_layer_fits (open_effect.Add atom) is = let a = atom_there atom tree is in atom_fits_effect tree a.name a.after a.has a.named a.leaves a.shape_is
  effect_layer_fits (open_effect.Delete atom) is =
      let form = form_there (codes "not") (is_atom atom ∷ []) tree is in
      effect_fixed tree (codes "not") form.after form.has (role.Atom ∷ []) refl (zip_one role.Atom (is_atom atom) (atom_fits atom) form.after form.read)
  effect_layer_fits (open_effect.And parts) is =
      let form = form_there (codes "and") (map is_effect (map (λ part. part.0) parts.items)) tree is in
      effect_each tree (codes "and") form.after form.has refl (effects_fit parts.items form.after form.read)
  effect_layer_fits (open_effect.Forall names part) is =
      let form = form_there (codes "forall") (is_variable_list names ∷ is_effect part.value.0 ∷ []) tree is in
      effect_fixed tree (codes "forall") form.after form.has (role.Variables ∷ role.Effect ∷ []) refl
      (zip_two role.Variables role.Effect (is_variable_list names) (is_effect part.value.0) (variables_fit names) part.value.1 form.after form.read)
  effect_layer_fits (open_effect.When condition part) is =
      let form = form_there (codes "when") (is_condition condition ∷ is_effect part.value.0 ∷ []) tree is in
      effect_fixed tree (codes "when") form.after form.has (role.Condition ∷ role.Effect ∷ []) refl
      (zip_two role.Condition role.Effect (is_condition condition) (is_effect part.value.0) (condition_fits condition) part.value.1 form.after form.read)
  effect_layer_fits (open_effect.OneOf parts) is =
      let reads : List (Tree → Bool) = map is_effect (map (λ part. part.0) parts.items) in
      let form = form_there (codes "oneof") reads tree (second_of_both (not (length reads == 0)) _ is) in
      effect_each tree (codes "oneof") form.after form.has (choice_asks reads form.after (first_of_both _ _ is) form.read) (effects_fit parts.items form.after form.read)

of_effect_layer : (layer : open_effect.Effect-F Effect) → ((tree : Tree) → effect_step (map-Effect Effect (Tree → Bool) is_effect layer) tree ≡ true → Fits role.Effect tree) → EffectFits (roll-Effect layer)
of_effect_layer layer step tree is = step tree (sym (ap (λ reads. reads tree) (fold-roll-Effect (Tree → Bool) effect_step layer)) ∙ is)

-- a tree that is read as an effect fits
pub effect_fits : (effect : Effect) → EffectFits effect
effect_fits = ind-Effect EffectFits (λ x y is.
    subst (λ (layer : open_effect.Effect-F Effect). EffectFits (roll-Effect layer)) is (of_effect_layer (map-Effect EffectPart Effect (λ part. part.0) y) (λ tree read. effect_layer_fits tree y read)))

-- a tree that is read as an initial atom fits
pub initial_fits : (initial : InitAtom) (tree : Tree) → is_initial initial tree ≡ true → Fits role.Initial tree
initial_fits initial tree is = from initial.positive is where
  from : (positive : Bool) → (if positive then is_atom initial.atom tree else is_form (codes "not") (is_atom initial.atom ∷ []) tree) ≡ true → Fits role.Initial tree
  from true h = let a = atom_there initial.atom tree h in atom_fits_initial tree a.name a.after a.has a.named a.leaves a.shape_is
  from false h =
      let form = form_there (codes "not") (is_atom initial.atom ∷ []) tree h in
      initial_fixed tree (codes "not") form.after form.has (role.Atom ∷ []) refl (zip_one role.Atom (is_atom initial.atom) (atom_fits initial.atom) form.after form.read)
