-- The greatest or the least of values, of the values of parts that are left, and over tuples.
use Rattle.std.proofs.Common.{◌≡◌, ℕ, ◌+◌, ◌<◌, List, [], ◌∷◌, ◌++◌, Option, Some, Box, Global, map, drop, length, get_or, refl, sym, ap, ◌∙◌}
use Rattle.std.specs.Prelude.{fold}
use Rattle.std.specs.List.{flat_map}
use Rattle.std.proofs.lemmas.List.{map-append, append_assoc}
use Rattle.fond_ast.specs.Ranges.{RangeList, objects_of}
use Rattle.fond_ast.specs.declared.form.LCond.{LCond}
use Rattle.fond_ast.specs.declared.form.LCond.TheVariants.{Forall, Exists, rolls-Forall, rolls-Exists}
use Rattle.fond_ast.specs.declared.form.LCond.TheOpen as open_condition
use Rattle.fond_ast.specs.declared.form.LCond.TheFolds.{fold-roll-LCond}
use Rattle.fond_ast.specs.declared.task.LiftedTask.{LiftedTask}
use Rattle.fond_ast.specs.Conditions.{tuples}
use Rattle.fond_task.specs.declared.form.Junction.{Junction}
use Rattle.fond_task.specs.declared.form.Junction.TheVariants.{All, Any}
use Rattle.fond_task.specs.declared.form.Kleene.{Kleene}
use Rattle.fond_task.specs.declared.form.Kleene.TheVariants.{No, Unknown, Yes}
use Rattle.fond_task.specs.Junctions.{dual, joined, joined_all, neutral}
use Rattle.fond_task.specs.Values.{greater, lesser}
use Rattle.fond_task.proofs.Images.{least_no, greatest_yes}
use Rattle.fond_join.specs.Partial.{partial_step, partial_value}
use Rattle.fond_join.proofs.Items.{drop_item}

lesser_assoc : (a b c : Kleene) → lesser (lesser a b) c ≡ lesser a (lesser b c)
lesser_assoc No b c = refl
lesser_assoc Unknown No c = refl
lesser_assoc Unknown Unknown No = refl
lesser_assoc Unknown Unknown Unknown = refl
lesser_assoc Unknown Unknown Yes = refl
lesser_assoc Unknown Yes c = refl
lesser_assoc Yes b c = refl

greater_assoc : (a b c : Kleene) → greater (greater a b) c ≡ greater a (greater b c)
greater_assoc No b c = refl
greater_assoc Unknown No c = refl
greater_assoc Unknown Unknown No = refl
greater_assoc Unknown Unknown Unknown = refl
greater_assoc Unknown Unknown Yes = refl
greater_assoc Unknown Yes c = refl
greater_assoc Yes b c = refl

joined_assoc : (junction : Junction) (a b c : Kleene) → joined junction (joined junction a b) c ≡ joined junction a (joined junction b c)
joined_assoc All a b c = lesser_assoc a b c
joined_assoc Any a b c = greater_assoc a b c

joined_last : (junction : Junction) (a : Kleene) → a ≡ joined junction a (neutral junction)
joined_last All No = refl
joined_last All Unknown = refl
joined_last All Yes = refl
joined_last Any No = refl
joined_last Any Unknown = refl
joined_last Any Yes = refl

pub joined_first : (junction : Junction) (a : Kleene) → joined junction (neutral junction) a ≡ a
joined_first All a = refl
joined_first Any a = refl

-- a value that is joined to itself stays
pub joined_self : (junction : Junction) (a : Kleene) → joined junction a a ≡ a
joined_self All No = refl
joined_self All Unknown = refl
joined_self All Yes = refl
joined_self Any No = refl
joined_self Any Unknown = refl
joined_self Any Yes = refl

-- a value that is joined twice
pub joined_again : (junction : Junction) (a v : Kleene) → joined junction (joined junction a v) v ≡ joined junction a v
joined_again junction a v = joined_assoc junction a v v ∙ ap (joined junction a) (joined_self junction v)

-- more of the same values
pub joined_alike : {X : Type 0} (junction : Junction) (of : X → Kleene) (a v : Kleene) → ((x : X) → of x ≡ v) → (xs : List X) → fold (joined junction) (joined junction a v) (map of xs) ≡ joined junction a v
joined_alike junction of a v each [] = refl
joined_alike junction of a v each (x ∷ xs) = ap (λ u. fold (joined junction) u (map of xs)) (ap (joined junction (joined junction a v)) (each x) ∙ joined_again junction a v) ∙ joined_alike junction of a v each xs

fold_append : (junction : Junction) (a : Kleene) (xs ys : List Kleene) → fold (joined junction) a (xs ++ ys) ≡ fold (joined junction) (fold (joined junction) a xs) ys
fold_append junction a [] ys = refl
fold_append junction a (x ∷ xs) ys = fold_append junction (joined junction a x) xs ys

fold_from : (junction : Junction) (a b : Kleene) (xs : List Kleene) → fold (joined junction) (joined junction a b) xs ≡ joined junction a (fold (joined junction) b xs)
fold_from junction a b [] = refl
fold_from junction a b (x ∷ xs) = ap (λ v. fold (joined junction) v xs) (joined_assoc junction a b x) ∙ fold_from junction a (joined junction b x) xs

-- a fold from a value joins the value to all others
pub fold_all : (junction : Junction) (a : Kleene) (xs : List Kleene) → fold (joined junction) a xs ≡ joined junction a (joined_all junction xs)
fold_all junction a xs = ap (λ v. fold (joined junction) v xs) (joined_last junction a) ∙ fold_from junction a (neutral junction) xs

-- the values of the parts of parts
fold_flat : {X Y : Type 0} (junction : Junction) (of : Y → Kleene) (parts : X → List Y) (a : Kleene) (xs : List X) →
    fold (joined junction) a (map of (flat_map parts xs)) ≡ fold (joined junction) a (map (λ x. joined_all junction (map of (parts x))) xs)
fold_flat junction of parts a [] = refl
fold_flat junction of parts a (x ∷ xs) =
    ap (fold (joined junction) a) (map-append of (parts x) (flat_map parts xs))
    ∙ fold_append junction a (map of (parts x)) (map of (flat_map parts xs))
    ∙ ap (λ v. fold (joined junction) v (map of (flat_map parts xs))) (fold_all junction a (map of (parts x)))
    ∙ fold_flat junction of parts (joined junction a (joined_all junction (map of (parts x)))) xs

pub map_map : {X Y Z : Type 0} (f : Y → Z) (g : X → Y) (xs : List X) → map f (map g xs) ≡ map (λ x. f (g x)) xs
map_map f g [] = refl
map_map f g (x ∷ xs) = ap (λ rest. f (g x) ∷ rest) (map_map f g xs)

pub map_same : {X Y : Type 0} (f g : X → Y) → ((x : X) → f x ≡ g x) → (xs : List X) → map f xs ≡ map g xs
map_same f g same [] = refl
map_same f g same (x ∷ xs) = λ i. same x i ∷ map_same f g same xs i

module _ (task : LiftedTask) (env : List (Option ℕ)) (part : LCond) (junction : Junction) where
  -- the value of the part over the tuples of ranges, the first object of which is this one
  abbrev pub over_rest : List (List ℕ) → ℕ → Kleene
  over_rest ranges object = joined_all junction (map (λ objects. partial_value task ((env ++ Some object ∷ []) ++ map Some objects) part) (tuples ranges))

  -- the value of a part over tuples is that over the tuples with each first object
  pub over_first : (range : List ℕ) (ranges : List (List ℕ)) →
      joined_all junction (map (over_rest ranges) range) ≡ joined_all junction (map (λ objects. partial_value task (env ++ map Some objects) part) (tuples (range ∷ ranges)))
  over_first range ranges = sym (
      fold_flat junction (λ (objects : List ℕ). partial_value task (env ++ map Some objects) part) (λ object. map (λ objects. object ∷ objects) (tuples ranges)) (neutral junction) range
      ∙ ap (joined_all junction) (map_same _ (over_rest ranges) (λ object. ap (joined_all junction) (
      map_map (λ (objects : List ℕ). partial_value task (env ++ map Some objects) part) (λ objects. object ∷ objects) (tuples ranges)
      ∙ map_same _ _ (λ objects. ap (λ around. partial_value task around part) (sym (append_assoc env (Some object ∷ []) (map Some objects)))) (tuples ranges)
      )) range)
      )

-- one more value is joined
pub joined_next : {X : Type 0} (junction : Junction) (of : X → Kleene) (a : Kleene) (xs : List X) (i : ℕ) (x : X) → i < length xs → x ≡ get_or xs i x →
    fold (joined junction) (joined junction a (of x)) (map of (drop (i + 1) xs)) ≡ fold (joined junction) a (map of (drop i xs))
joined_next junction of a xs i x within is = sym (ap (λ left. fold (joined junction) a (map of left)) (drop_item xs i x within is))

-- the value of the dual junction without parts decides a junction: No a conjunction, and Yes a disjunction
pub decided_stays : (junction : Junction) (values : List Kleene) → fold (joined junction) (neutral (dual junction)) values ≡ neutral (dual junction)
decided_stays All values = least_no values
decided_stays Any values = greatest_yes values

-- the value of a quantified condition, by the form of the quantifier
pub at_forall : (task : LiftedTask) (env : List (Option ℕ)) (ranges : RangeList) (part : Box LCond Global) →
    joined_all All (map (λ objects. partial_value task (env ++ map Some objects) part.value) (tuples (objects_of ranges))) ≡ partial_value task env (Forall ranges part)
at_forall task env ranges part =
    sym (ap (partial_value task env) (sym (rolls-Forall ranges part)) ∙ ap (λ value. value env) (fold-roll-LCond (List (Option ℕ) → Kleene) (partial_step task) (open_condition.Forall ranges part)))

pub at_exists : (task : LiftedTask) (env : List (Option ℕ)) (ranges : RangeList) (part : Box LCond Global) →
    joined_all Any (map (λ objects. partial_value task (env ++ map Some objects) part.value) (tuples (objects_of ranges))) ≡ partial_value task env (Exists ranges part)
at_exists task env ranges part =
    sym (ap (partial_value task env) (sym (rolls-Exists ranges part)) ∙ ap (λ value. value env) (fold-roll-LCond (List (Option ℕ) → Kleene) (partial_step task) (open_condition.Exists ranges part)))
