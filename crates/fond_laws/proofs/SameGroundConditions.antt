-- Conditions that are alike have the same values.
use Rattle.std.proofs.Common.{◌≡◌, ℕ, ◌∙◌, List, ◌∷◌, ◌++◌, map, refl, sym, ap}
use Rattle.fond_text.specs.declared.atom.Atom.{Atom}
use Rattle.fond_ast.specs.Ranges.{objects_of}
use Rattle.fond_ast.specs.declared.form.LCond.{LCond, Truth, Holds, Equal, And', Or', Not', Imply', Forall', Exists', Row_of-LCond, end_of-LCond, more_of-LCond}
use Rattle.fond_ast.specs.declared.form.LCond.TheBlock.{items-the_row-LCond, items_shown-the_row-LCond-0}
use Rattle.fond_ast.specs.declared.form.LCond.TheOpen.{LCond-F}
use Rattle.fond_ast.specs.declared.form.LCond.TheViews.{out-LCond, outs-And', outs-Or', outs-Not', outs-Imply', outs-Forall', outs-Exists'}
use Rattle.fond_ast.specs.declared.form.LCond.TheFolds.{fold-LCond, fold_out-LCond, map-LCond}
use Rattle.fond_ast.specs.Conditions.{tuples}
use Rattle.fond_task.specs.declared.form.Kleene.{Kleene}
use Rattle.fond_task.specs.Values.{greater, greatest, least, opposite}
use Rattle.fond_join.specs.Values.{condition_step, condition_value}
use Rattle.fond_laws.specs.Lifted.{AreSameConditions, IsSameCondition}

module _ (known : Atom → Kleene) where
  abbrev values : LCond → List ℕ → Kleene
  values = fold-LCond (List ℕ → Kleene) (condition_step known)

  -- the value of a condition is that of its layer
  value-at : (env : List ℕ) (condition : LCond) (layer : LCond-F LCond) → out-LCond condition ≡ layer → condition_value known env condition ≡ condition_step known (map-LCond LCond (List ℕ → Kleene) values layer) env
  value-at env condition layer e =
      ap (λ value. value env) (fold_out-LCond (List ℕ → Kleene) (condition_step known) condition) ∙ ap (λ form. condition_step known (map-LCond LCond (List ℕ → Kleene) values form) env) e

  -- the values of each condition of a row
  abbrev each_value : {m : _} → List ℕ → Row_of-LCond m → List Kleene
  each_value env row = map (λ part. part env) (map values (items-the_row-LCond _ row))

  -- the value of a conjunction is the least of its parts
  value-And' : (env : List ℕ) (shape : _) (row : Row_of-LCond _) → condition_value known env (And' shape row) ≡ least (each_value env row)
  value-And' env shape row = value-at env _ _ (outs-And' shape row) ∙ ap (λ parts. least (map (λ part. part env) (map values parts))) (items_shown-the_row-LCond-0 shape row)

  -- the value of a disjunction is the greatest of its parts
  value-Or' : (env : List ℕ) (shape : _) (row : Row_of-LCond _) → condition_value known env (Or' shape row) ≡ greatest (each_value env row)
  value-Or' env shape row = value-at env _ _ (outs-Or' shape row) ∙ ap (λ parts. greatest (map (λ part. part env) (map values parts))) (items_shown-the_row-LCond-0 shape row)

  mutual
    -- conditions that are alike have the same value
    pub same_value : (condition other : LCond) → IsSameCondition condition other → (env : List ℕ) → condition_value known env condition ≡ condition_value known env other
    same_value Truth Truth same env = refl
    same_value (Holds atom) (Holds number) same env = ap (λ a. condition_value known env (Holds a)) same
    same_value (Equal one two) (Equal first second) same env = λ i. condition_value known env (Equal (same.0 i) (same.1 i))
    same_value (And' shape parts) (And' form others) same env = value-And' env shape parts ∙ ap least (same_values parts others same env) ∙ sym (value-And' env form others)
    same_value (Or' shape parts) (Or' form others) same env = value-Or' env shape parts ∙ ap greatest (same_values parts others same env) ∙ sym (value-Or' env form others)
    same_value (Not' shape part) (Not' form other) same env =
        value-at env _ _ (outs-Not' shape part) ∙ ap opposite (same_value part other same env) ∙ sym (value-at env _ _ (outs-Not' form other))
    same_value (Imply' shape part next over) (Imply' form other after more) same env =
        let joined : greater (opposite (condition_value known env part)) (condition_value known env over) ≡ greater (opposite (condition_value known env other)) (condition_value known env more) =
        λ i. greater (opposite (same_value part other same.0 env i)) (same_value over more same.1 env i) in
        value-at env _ _ (outs-Imply' shape part next over) ∙ joined ∙ sym (value-at env _ _ (outs-Imply' form other after more))
    same_value (Forall' ranges shape part) (Forall' others form other) same env =
        let joined : least (map (λ objects. condition_value known (env ++ objects) part) (tuples (objects_of ranges))) ≡ least (map (λ objects. condition_value known (env ++ objects) other) (tuples (objects_of others))) =
        λ i. least (map (λ objects. same_value part other same.1 (env ++ objects) i) (tuples (same.0 i))) in
        value-at env _ _ (outs-Forall' ranges shape part) ∙ joined ∙ sym (value-at env _ _ (outs-Forall' others form other))
    same_value (Exists' ranges shape part) (Exists' others form other) same env =
        let joined : greatest (map (λ objects. condition_value known (env ++ objects) part) (tuples (objects_of ranges))) ≡ greatest (map (λ objects. condition_value known (env ++ objects) other) (tuples (objects_of others))) =
        λ i. greatest (map (λ objects. same_value part other same.1 (env ++ objects) i) (tuples (same.0 i))) in
        value-at env _ _ (outs-Exists' ranges shape part) ∙ joined ∙ sym (value-at env _ _ (outs-Exists' others form other))
    same_value condition other same env = absurd same

    -- conditions that are alike place by place have the same values
    same_values : {m n : _} (row : Row_of-LCond m) (others : Row_of-LCond n) → AreSameConditions row others → (env : List ℕ) → each_value env row ≡ each_value env others
    same_values end_of-LCond end_of-LCond same env = refl
    same_values end_of-LCond (more_of-LCond other others) same env = absurd same
    same_values (more_of-LCond part rest) end_of-LCond same env = absurd same
    same_values (more_of-LCond part rest) (more_of-LCond other others) same env = λ i. same_value part other same.0 env i ∷ same_values rest others same.1 env i

-- conditions that are alike have the same value under the same values of atoms
pub value_same : (known also : Atom → Kleene) → ((atom : Atom) → known atom ≡ also atom) → (condition other : LCond) → IsSameCondition condition other → (env : List ℕ) → condition_value known env condition ≡ condition_value also env other
value_same known also each condition other same env = same_value known condition other same env ∙ (λ i. condition_value (λ atom. each atom i) env other)
