-- The numbers of fluent atoms and kept actions have names.
use Rattle.std.proofs.Common.{◌≡◌, ◌∙◌, ℕ, ◌+◌, ◌<◌, ◌&&◌, nat_lt, Bool, true, false, List, [], ◌∷◌, length, map, filter, cond, refl, ap, arith}
use Rattle.std.specs.Prelude.{if◌then◌else◌}
use Rattle.std.specs.List.{AllZip, enumerate_from, flat_map, list_all}
use Rattle.std.proofs.lemmas.Bool.Decides.{nat_tests}
use Rattle.std.proofs.lemmas.List.{length-map}
use Rattle.std.proofs.lemmas.List.Folds.{list_all-append}
use Rattle.fond_text.specs.declared.atom.GroundAction.{GroundAction}
use Rattle.fond_ast.specs.Ranges.{objects_of, is_rising}
use Rattle.fond_ast.specs.Within.{are_ranges_within, is_schema_within, is_condition_within, is_effect_within}
use Rattle.fond_ast.specs.declared.task.LPredicate.{LPredicate}
use Rattle.fond_ast.specs.declared.task.LSchema.{LSchema}
use Rattle.fond_ast.specs.declared.task.LiftedTask.{LiftedTask}
use Rattle.fond_join.specs.Kept.{is_kept, kept_args}
use Rattle.fond_ast.specs.Conditions.{tuples}
use Rattle.fond_ast.proofs.Bools.{and-both, and-parts}
use Rattle.fond_task.specs.Named.{are_named_objects, is_named_action, is_named_atom}
use Rattle.fond_task.specs.declared.task.Act.{Act}
use Rattle.fond_ground.specs.Atoms.{atoms_over, fluent_atoms}
use Rattle.fond_ground.specs.Grounds.{kept_actions, IsActOf}
use Rattle.fond_ground.specs.Texts.{labels_of}

all-flat : {X Y : Type 0} (f : X → List Y) (p : X → Bool) (q : Y → Bool) → ((x : X) → p x ≡ true → list_all q (f x) ≡ true) → (xs : List X) → list_all p xs ≡ true → list_all q (flat_map f xs) ≡ true
all-flat f p q each [] all = refl
all-flat f p q each (x ∷ xs) all =
    let parts = and-parts (p x) (list_all p xs) all in
    list_all-append q (f x) (flat_map f xs) ∙ and-both (list_all q (f x)) (list_all q (flat_map f xs)) (each x parts.0) (all-flat f p q each xs parts.1)

all-map : {X Y : Type 0} (f : X → Y) (p : X → Bool) (q : Y → Bool) → ((x : X) → p x ≡ true → q (f x) ≡ true) → (xs : List X) → list_all p xs ≡ true → list_all q (map f xs) ≡ true
all-map f p q each [] all = refl
all-map f p q each (x ∷ xs) all =
    let parts = and-parts (p x) (list_all p xs) all in
    and-both (q (f x)) (list_all q (map f xs)) (each x parts.0) (all-map f p q each xs parts.1)

all-filter : {X : Type 0} (keep p : X → Bool) (xs : List X) → list_all p xs ≡ true → list_all p (filter keep xs) ≡ true
all-filter keep p [] all = refl
all-filter keep p (x ∷ xs) all = let parts = and-parts (p x) (list_all p xs) all in by (keep x) parts.0 (all-filter keep p xs parts.1)
  where
    by : (b : Bool) → p x ≡ true → list_all p (filter keep xs) ≡ true → list_all p (cond b (x ∷ filter keep xs) (filter keep xs)) ≡ true
    by true here rest = and-both (p x) (list_all p (filter keep xs)) here rest
    by false here rest = rest

all-if : {X : Type 0} (b : Bool) (p : X → Bool) (xs : List X) → list_all p xs ≡ true → list_all p (if b then xs else []) ≡ true
all-if true p xs all = all
all-if false p xs all = refl

-- items that pass a test, with their numbers, which are below a bound
numbers-below : {X : Type 0} (p : X → Bool) (bound : ℕ) (xs : List X) (from : ℕ) → from + length xs ≡ bound → list_all p xs ≡ true → list_all (λ (item : ℕ × X). nat_lt item.0 bound && p item.1) (enumerate_from from xs) ≡ true
numbers-below p bound [] from whole all = refl
numbers-below p bound (x ∷ xs) from whole all =
    let parts = and-parts (p x) (list_all p xs) all in
    let less : from < bound = omega (arith, whole) in
    let below : nat_lt from bound ≡ true = grind (arith, nat_tests, less) in
    and-both (nat_lt from bound && p x) _ (and-both (nat_lt from bound) (p x) below parts.0) (numbers-below p bound xs (from + 1) (omega (arith, whole)) parts.1)

-- the lists of one object of each range are of objects below the ranges' bound
tuples-below : (count : ℕ) (ranges : List (List ℕ)) → list_all (λ range. is_rising range && list_all (λ object. nat_lt object count) range) ranges ≡ true
    → list_all (list_all (λ object. nat_lt object count)) (tuples ranges) ≡ true
tuples-below count [] within = refl
tuples-below count (range ∷ ranges) within =
    let parts = and-parts (is_rising range && list_all (λ object. nat_lt object count) range) _ within in
    let here = (and-parts (is_rising range) (list_all (λ object. nat_lt object count) range) parts.0).1 in
    let rest = tuples-below count ranges parts.1 in
    all-flat (λ object. map (λ objects. object ∷ objects) (tuples ranges)) (λ object. nat_lt object count) (list_all (λ object. nat_lt object count))
    (λ object below. all-map (λ objects. object ∷ objects) (list_all (λ object. nat_lt object count)) (list_all (λ object. nat_lt object count)) (λ objects all. and-both (nat_lt object count) (list_all (λ object. nat_lt object count) objects) below all) (tuples ranges) rest)
    range here

-- the numbers of fluent atoms have names
pub atoms-named : (task : LiftedTask) → list_all (is_named_atom (labels_of task)) (fluent_atoms task) ≡ true
atoms-named task =
    let count = length task.objects in
    let labels = labels_of task in
    let long = length-map task.predicates (λ predicate. predicate.name) in
    all-flat (λ (item : ℕ × LPredicate). if item.1.fluent then atoms_over item.0 item.1.ranges else []) (λ item. nat_lt item.0 (length labels.predicates) && are_ranges_within count item.1.ranges) (is_named_atom labels)
    (λ item within.
    let parts = and-parts (nat_lt item.0 (length labels.predicates)) (are_ranges_within count item.1.ranges) within in
    all-if item.1.fluent (is_named_atom labels) (atoms_over item.0 item.1.ranges)
    (all-map (λ objects. record { predicate = item.0; objects = objects }) (list_all (λ object. nat_lt object count)) (is_named_atom labels)
    (λ objects below. and-both (nat_lt item.0 (length labels.predicates)) (are_named_objects labels objects) parts.0 below)
    (tuples (objects_of item.1.ranges)) (tuples-below count (objects_of item.1.ranges) parts.1)))
    (enumerate_from 0 task.predicates)
    (numbers-below (λ (predicate : LPredicate). are_ranges_within count predicate.ranges) (length labels.predicates) task.predicates 0 (omega (arith, long)) task.predicates_within)

ranges-within : (task : LiftedTask) (schema : LSchema) → is_schema_within (length task.objects) task.predicates schema ≡ true → are_ranges_within (length task.objects) schema.ranges ≡ true
ranges-within task schema within =
    let count = length task.objects in
    (and-parts (are_ranges_within count schema.ranges) _
    (and-parts (are_ranges_within count schema.ranges && is_condition_within count task.predicates schema.pre (objects_of schema.ranges)) (is_effect_within count task.predicates schema.effect (objects_of schema.ranges)) within).0).0

actions-named : (task : LiftedTask) → list_all (is_named_action (labels_of task)) (kept_actions task) ≡ true
actions-named task =
    let count = length task.objects in
    let labels = labels_of task in
    let long = length-map task.schemas (λ schema. schema.name) in
    all-flat (λ (item : ℕ × LSchema). map (λ objects. record { schema = item.0; objects = objects }) (kept_args task item.1)) (λ item. nat_lt item.0 (length labels.schemas) && is_schema_within count task.predicates item.1) (is_named_action labels)
    (λ item within.
    let parts = and-parts (nat_lt item.0 (length labels.schemas)) (is_schema_within count task.predicates item.1) within in
    all-map (λ objects. record { schema = item.0; objects = objects }) (list_all (λ object. nat_lt object count)) (is_named_action labels)
    (λ objects below. and-both (nat_lt item.0 (length labels.schemas)) (are_named_objects labels objects) parts.0 below)
    (kept_args task item.1)
    (all-filter (is_kept task item.1) (list_all (λ object. nat_lt object count)) (tuples (objects_of item.1.ranges))
    (tuples-below count (objects_of item.1.ranges) (ranges-within task item.1 parts.1))))
    (enumerate_from 0 task.schemas)
    (numbers-below (is_schema_within count task.predicates) (length labels.schemas) task.schemas 0 (omega (arith, long)) task.schemas_within)

acts-of : (task : LiftedTask) (p : GroundAction → Bool) (actions : List GroundAction) (acts : List Act) → AllZip (IsActOf task) actions acts → list_all p actions ≡ true → list_all (λ act. p act.ground) acts ≡ true
acts-of task p [] [] h all = refl
acts-of task p [] (act ∷ acts) h all = absurd h
acts-of task p (action ∷ actions) [] h all = absurd h
acts-of task p (action ∷ actions) (act ∷ acts) h all =
    let parts = and-parts (p action) (list_all p actions) all in
    and-both (p act.ground) (list_all (λ act. p act.ground) acts) (ap p h.0.named ∙ parts.0) (acts-of task p actions acts h.1 parts.1)

-- the numbers of actions that stand for the kept ones have names
pub acts-named : (task : LiftedTask) (acts : List Act) → AllZip (IsActOf task) (kept_actions task) acts → list_all (λ act. is_named_action (labels_of task) act.ground) acts ≡ true
acts-named task acts are = acts-of task (is_named_action (labels_of task)) (kept_actions task) acts are (actions-named task)
