-- The atoms of the literals of effects are fluent atoms.
use Rattle.std.proofs.Common.{◌≡◌, inl, inr, ℕ, zero, suc, ◌+◌, ◌∙◌, ◌&&◌, nat_lt, Bool, true, false, not, List, [], ◌∷◌, ◌++◌, Option, Some, None, is_some, length, get_or, slice_get, map, filter, cond, refl, sym, ap, subst, arith}
use Rattle.std.specs.Prelude.{◌==◌, if◌then◌else◌}
use Rattle.std.specs.List.{enumerate_from, list_all, position_from}
use Rattle.std.specs.Option.{option_map_or}
use Rattle.std.proofs.lemmas.Bool.Decides.{nat_tests}
use Rattle.std.proofs.lemmas.Iterator.Adapters.{position_from-zero}
use Rattle.fond_text.specs.Lists.{each_passes}
use Rattle.fond_text.specs.declared.atom.Atom.{Atom}
use Rattle.fond_ast.specs.Ranges.{objects_of, is_among}
use Rattle.fond_ast.specs.Within.{fits_range, is_term_within, is_atom_within, is_fluent, is_effect_within, effect_within_step, is_effect_fluent, fluent_step, is_schema_within, is_schema_fluent, are_ranges_within, is_condition_within}
use Rattle.fond_ast.specs.declared.form.LAtom.{LAtom}
use Rattle.fond_ast.specs.declared.form.LTerm.{LTerm}
use Rattle.fond_ast.specs.declared.form.LTerm.TheVariants.{Object, Variable}
use Rattle.fond_ast.specs.declared.form.LEffect.{LEffect, Nothing, Add, Delete, And', Forall', When', OneOf', Row_of-LEffect, end_of-LEffect, more_of-LEffect}
use Rattle.fond_ast.specs.declared.form.LEffect.TheBlock.{items-the_row-LEffect, items_shown-the_row-LEffect-0}
use Rattle.fond_ast.specs.declared.form.LEffect.TheOpen.{LEffect-F}
use Rattle.fond_ast.specs.declared.form.LEffect.TheViews.{out-LEffect, outs-Nothing, outs-Add, outs-Delete, outs-And', outs-Forall', outs-When', outs-OneOf'}
use Rattle.fond_ast.specs.declared.form.LEffect.TheFolds.{fold-LEffect, fold_out-LEffect, map-LEffect}
use Rattle.fond_ast.specs.declared.task.LPredicate.{LPredicate}
use Rattle.fond_ast.specs.declared.task.LSchema.{LSchema}
use Rattle.fond_ast.specs.declared.task.LiftedTask.{LiftedTask}
use Rattle.fond_join.specs.Kept.{is_kept, kept_args}
use Rattle.fond_ast.specs.Conditions.{ground_atom, object_of, tuples}
use Rattle.fond_ast.proofs.Bools.{and-both, and-parts, or-cases}
use Rattle.fond_ast.proofs.Members.{Member, Member-from_Contains, Contains-from_Member, Member-map, Member-flat_map}
use Rattle.fond_ast.proofs.Tuples.{tuples-lie-in-ranges}
use Rattle.fond_ground.specs.Atoms.{atom_number, atoms_over, fluent_atoms, is_same_atom}
use Rattle.fond_ground.specs.Effects.{is_numbered, numbered_by, numbered_step}
use Rattle.fond_ground.proofs.Indexed.{same-itself}

-- objects for which a term may stand, and objects that lie in a range
among-all : (range objects : List ℕ) (object : ℕ) → list_all (is_among range) objects ≡ true → is_among objects object ≡ true → is_among range object ≡ true
among-all range [] object all here = cc
among-all range (other ∷ objects) object all here =
    let parts = and-parts (is_among range other) (list_all (is_among range) objects) all in
    elim (or-cases (other == object) (is_among objects object) here) [
      | inl e ↦ (let same : other ≡ object = grind (arith, nat_tests, e) in subst (λ o. is_among range o ≡ true) same parts.0)
      | inr h ↦ among-all range objects object parts.1 h
    ]

variable-among : (around : List (List ℕ)) (env range : List ℕ) (number : ℕ) → each_passes (map is_among around) env ≡ true → option_map_or (list_all (is_among range)) (slice_get around number) false ≡ true
    → is_among range (get_or env number 0) ≡ true
variable-among [] env range zero inside fits = absurd (cc)
variable-among [] env range (suc number) inside fits = absurd (cc)
variable-among (one ∷ around) [] range number inside fits = absurd (cc)
variable-among (one ∷ around) (object ∷ env) range zero inside fits = among-all range one object fits (and-parts (is_among one object) (each_passes (map is_among around) env) inside).0
variable-among (one ∷ around) (object ∷ env) range (suc number) inside fits = variable-among around env range number (and-parts (is_among one object) (each_passes (map is_among around) env) inside).1 fits

object-among : (b : Bool) (range : List ℕ) (number : ℕ) → option_map_or (list_all (is_among range)) (if b then Some (number ∷ []) else None) false ≡ true → is_among range number ≡ true
object-among true range number fits = (and-parts (is_among range number) true fits).0
object-among false range number fits = absurd (cc)

term-among : (count : ℕ) (around : List (List ℕ)) (env range : List ℕ) (term : LTerm) → each_passes (map is_among around) env ≡ true → fits_range count around range term ≡ true → is_among range (object_of env term) ≡ true
term-among count around env range (Object number) inside fits = object-among (nat_lt number count) range number fits
term-among count around env range (Variable number) inside fits = variable-among around env range number inside fits

terms-among : (count : ℕ) (around : List (List ℕ)) (env : List ℕ) (ranges : List (List ℕ)) (terms : List LTerm) → each_passes (map is_among around) env ≡ true → each_passes (map (fits_range count around) ranges) terms ≡ true
    → each_passes (map is_among ranges) (map (object_of env) terms) ≡ true
terms-among count around env [] [] inside fits = refl
terms-among count around env [] (term ∷ terms) inside fits = absurd (cc)
terms-among count around env (range ∷ ranges) [] inside fits = absurd (cc)
terms-among count around env (range ∷ ranges) (term ∷ terms) inside fits =
    let parts = and-parts (fits_range count around range term) (each_passes (map (fits_range count around) ranges) terms) fits in
    and-both _ _ (term-among count around env range term inside parts.0) (terms-among count around env ranges terms inside parts.1)

pub passes-append : (ranges more : List (List ℕ)) (objects others : List ℕ) → each_passes (map is_among ranges) objects ≡ true → each_passes (map is_among more) others ≡ true → each_passes (map is_among (ranges ++ more)) (objects ++ others) ≡ true
passes-append [] more [] others h k = k
passes-append [] more (object ∷ objects) others h k = absurd (cc)
passes-append (range ∷ ranges) more [] others h k = absurd (cc)
passes-append (range ∷ ranges) more (object ∷ objects) others h k =
    let parts = and-parts (is_among range object) (each_passes (map is_among ranges) objects) h in
    and-both _ _ parts.0 (passes-append ranges more objects others parts.1 k)

enumerated : {X : Type 0} (xs : List X) (from i : ℕ) (x : X) → slice_get xs i ≡ Some x → Member (enumerate_from from xs) (from + i, x)
enumerated [] from zero x at = absurd (cc)
enumerated [] from (suc i) x at = absurd (cc)
enumerated (y ∷ ys) from zero x at = let same : y ≡ x = cc in let n : from + 0 ≡ from = omega arith in inl (λ j. (n j, sym same j))
enumerated (y ∷ ys) from (suc i) x at = let n : from + 1 + i ≡ from + suc i = omega arith in inr (subst (λ k. Member (enumerate_from (from + 1) ys) (k, x)) n (enumerated ys (from + 1) i x at))

found_from : {X : Type 0} (test : X → Bool) (xs : List X) (i : ℕ) (x : X) → Member xs x → test x ≡ true → is_some (position_from test i xs) ≡ true
found_from test [] i x m h = absurd m
found_from test (y ∷ ys) i x (inl e) h = ap (λ b. is_some (cond b (Some i) (position_from test (i + 1) ys))) (ap test (sym e) ∙ h)
found_from test (y ∷ ys) i x (inr m) h = by (test y) (found_from test ys (i + 1) x m h)
  where
    by : (b : Bool) → is_some (position_from test (i + 1) ys) ≡ true → is_some (cond b (Some i) (position_from test (i + 1) ys)) ≡ true
    by true later = refl
    by false later = later

-- an atom of a fluent predicate whose objects lie in the ranges has a number
has_number : (task : LiftedTask) (number : ℕ) (predicate : LPredicate) (objects : List ℕ) → slice_get task.predicates number ≡ Some predicate → predicate.fluent ≡ true
    → each_passes (map is_among (objects_of predicate.ranges)) objects ≡ true → is_some (atom_number task (record { predicate = number; objects = objects })) ≡ true
has_number task number predicate objects at fluent inside =
    let atom : Atom = record { predicate = number; objects = objects } in
    let tuple = Member-from_Contains (tuples (objects_of predicate.ranges)) objects ((tuples-lie-in-ranges (objects_of predicate.ranges) objects).1 inside) in
    let over : Member (atoms_over number predicate.ranges) atom = Member-map (λ some. record { predicate = number; objects = some }) (tuples (objects_of predicate.ranges)) objects tuple in
    let within : Member (if predicate.fluent then atoms_over number predicate.ranges else []) atom = subst (λ b. Member (if b then atoms_over number predicate.ranges else []) atom) (sym fluent) over in
    let zero_plus : 0 + number ≡ number = omega arith in
    let item : Member (enumerate_from 0 task.predicates) (number, predicate) = subst (λ n. Member (enumerate_from 0 task.predicates) (n, predicate)) zero_plus (enumerated task.predicates 0 number predicate at) in
    let member : Member (fluent_atoms task) atom = Member-flat_map (λ item. if item.1.fluent then atoms_over item.0 item.1.ranges else []) (enumerate_from 0 task.predicates) (number, predicate) atom item within in
    ap is_some (position_from-zero (is_same_atom atom) (fluent_atoms task)) ∙ found_from (is_same_atom atom) (fluent_atoms task) 0 atom member (same-itself atom)

module _ (task : LiftedTask) (count : ℕ) where
  literal_number : (atom : LAtom) (env : List ℕ) (around : List (List ℕ)) → each_passes (map is_among around) env ≡ true → is_atom_within count task.predicates atom around ≡ true → is_fluent task.predicates atom.predicate ≡ true
      → is_some (atom_number task (ground_atom env atom)) ≡ true
  literal_number atom env around inside within fluent = by (slice_get task.predicates atom.predicate) refl
    where
      by : (found : Option LPredicate) → slice_get task.predicates atom.predicate ≡ found → is_some (atom_number task (ground_atom env atom)) ≡ true
      by None at = let no : false ≡ true = sym (ap (λ found. option_map_or (λ (predicate : LPredicate). predicate.fluent) found false) at) ∙ fluent in cc
      by (Some predicate) at =
          let is : predicate.fluent ≡ true = sym (ap (λ found. option_map_or (λ (one : LPredicate). one.fluent) found false) at) ∙ fluent in
          let fits = (and-parts (list_all (is_term_within count around) atom.terms) _ within).1 in
          let terms : each_passes (map (fits_range count around) (objects_of predicate.ranges)) atom.terms ≡ true =
          sym (ap (λ found. option_map_or (λ (one : LPredicate). each_passes (map (fits_range count around) (objects_of one.ranges)) atom.terms) found false) at) ∙ fits in
          has_number task atom.predicate predicate (map (object_of env) atom.terms) at is (terms-among count around env (objects_of predicate.ranges) atom.terms inside terms)

  fold-at : {Y : Type 0} (step : LEffect-F Y → Y) (effect : LEffect) (layer : LEffect-F LEffect) → out-LEffect effect ≡ layer → fold-LEffect Y step effect ≡ step (map-LEffect LEffect Y (fold-LEffect Y step) layer)
  fold-at {Y} step effect layer e = fold_out-LEffect Y step effect ∙ ap (λ form. step (map-LEffect LEffect Y (fold-LEffect Y step) form)) e

  abbrev within_by : LEffect → List (List ℕ) → Bool
  within_by = is_effect_within count task.predicates

  abbrev fluent_by : LEffect → Bool
  fluent_by = is_effect_fluent task.predicates

  abbrev within-at : (effect : LEffect) (layer : LEffect-F LEffect) → out-LEffect effect ≡ layer → (around : List (List ℕ)) → within_by effect around ≡ effect_within_step count task.predicates (map-LEffect LEffect (List (List ℕ) → Bool) within_by layer) around
  within-at effect layer e around = ap (λ f. f around) (fold-at (effect_within_step count task.predicates) effect layer e)

  abbrev numbered-at : (effect : LEffect) (layer : LEffect-F LEffect) → out-LEffect effect ≡ layer → (env : List ℕ) → is_numbered task env effect ≡ numbered_step task (map-LEffect LEffect (List ℕ → Bool) (numbered_by task) layer) env
  numbered-at effect layer e env = ap (λ f. f env) (fold-at (numbered_step task) effect layer e)

  all_objects : (test : List ℕ → Bool) (xs : List (List ℕ)) → ((objects : List ℕ) → Member xs objects → test objects ≡ true) → list_all test xs ≡ true
  all_objects test [] each = refl
  all_objects test (objects ∷ xs) each = and-both (test objects) (list_all test xs) (each objects (inl refl)) (all_objects test xs (λ other m. each other (inr m)))

  mutual
    numbered_effect : (effect : LEffect) (env : List ℕ) (around : List (List ℕ)) → each_passes (map is_among around) env ≡ true → within_by effect around ≡ true → fluent_by effect ≡ true → is_numbered task env effect ≡ true
    numbered_effect Nothing env around inside within fluent = numbered-at Nothing _ outs-Nothing env
    numbered_effect (Add atom) env around inside within fluent =
        numbered-at (Add atom) _ (outs-Add atom) env ∙ literal_number atom env around inside (sym (within-at (Add atom) _ (outs-Add atom) around) ∙ within) (sym (fold-at (fluent_step task.predicates) (Add atom) _ (outs-Add atom)) ∙ fluent)
    numbered_effect (Delete atom) env around inside within fluent =
        numbered-at (Delete atom) _ (outs-Delete atom) env ∙ literal_number atom env around inside (sym (within-at (Delete atom) _ (outs-Delete atom) around) ∙ within) (sym (fold-at (fluent_step task.predicates) (Delete atom) _ (outs-Delete atom)) ∙ fluent)
    numbered_effect (And' shape row) env around inside within fluent =
        numbered-at (And' shape row) _ (outs-And' shape row) env ∙ ap (λ parts. list_all (λ part. part env) (map (numbered_by task) parts)) (items_shown-the_row-LEffect-0 shape row)
        ∙ numbered_row row env around inside
        (sym (within-at (And' shape row) _ (outs-And' shape row) around ∙ ap (λ parts. list_all (λ part. part around) (map within_by parts)) (items_shown-the_row-LEffect-0 shape row)) ∙ within)
        (sym (fold-at (fluent_step task.predicates) (And' shape row) _ (outs-And' shape row) ∙ ap (λ parts. list_all (λ part. part) (map fluent_by parts)) (items_shown-the_row-LEffect-0 shape row)) ∙ fluent)
    numbered_effect (OneOf' shape row) env around inside within fluent =
        let parts = and-parts _ _ (sym (within-at (OneOf' shape row) _ (outs-OneOf' shape row) around ∙ ap (λ parts. not (length (map within_by parts) == 0) && list_all (λ part. part around) (map within_by parts)) (items_shown-the_row-LEffect-0 shape row)) ∙ within) in
        numbered-at (OneOf' shape row) _ (outs-OneOf' shape row) env
        ∙ ap (λ parts. not (length (map (numbered_by task) parts) == 0) && list_all (λ part. part env) (map (numbered_by task) parts)) (items_shown-the_row-LEffect-0 shape row)
        ∙ and-both _ _ (some_members row parts.0)
        (numbered_row row env around inside parts.1
        (sym (fold-at (fluent_step task.predicates) (OneOf' shape row) _ (outs-OneOf' shape row) ∙ ap (λ parts. list_all (λ part. part) (map fluent_by parts)) (items_shown-the_row-LEffect-0 shape row)) ∙ fluent))
    numbered_effect (When' condition shape part) env around inside within fluent =
        let parts = and-parts _ _ (sym (within-at (When' condition shape part) _ (outs-When' condition shape part) around) ∙ within) in
        numbered-at (When' condition shape part) _ (outs-When' condition shape part) env
        ∙ numbered_effect part env around inside parts.1 (sym (fold-at (fluent_step task.predicates) (When' condition shape part) _ (outs-When' condition shape part)) ∙ fluent)
    numbered_effect (Forall' ranges shape part) env around inside within fluent =
        let parts = and-parts _ _ (sym (within-at (Forall' ranges shape part) _ (outs-Forall' ranges shape part) around) ∙ within) in
        let rest = sym (fold-at (fluent_step task.predicates) (Forall' ranges shape part) _ (outs-Forall' ranges shape part)) ∙ fluent in
        numbered-at (Forall' ranges shape part) _ (outs-Forall' ranges shape part) env
        ∙ all_objects _ (tuples (objects_of ranges))
        (λ objects m. numbered_effect part (env ++ objects) (around ++ objects_of ranges)
        (passes-append around (objects_of ranges) env objects inside ((tuples-lie-in-ranges (objects_of ranges) objects).0 (Contains-from_Member (tuples (objects_of ranges)) objects m))) parts.1 rest)

    numbered_row : {m : _} (row : Row_of-LEffect m) (env : List ℕ) (around : List (List ℕ)) → each_passes (map is_among around) env ≡ true → list_all (λ part. part around) (map within_by (items-the_row-LEffect _ row)) ≡ true
        → list_all (λ part. part) (map fluent_by (items-the_row-LEffect _ row)) ≡ true → list_all (λ part. part env) (map (numbered_by task) (items-the_row-LEffect _ row)) ≡ true
    numbered_row end_of-LEffect env around inside within fluent = refl
    numbered_row (more_of-LEffect part rest) env around inside within fluent =
        let first = and-parts _ _ within in
        let second = and-parts _ _ fluent in
        and-both _ _ (numbered_effect part env around inside first.0 second.0) (numbered_row rest env around inside first.1 second.1)

    some_members : {m : _} (row : Row_of-LEffect m) → not (length (map within_by (items-the_row-LEffect _ row)) == 0) ≡ true → not (length (map (numbered_by task) (items-the_row-LEffect _ row)) == 0) ≡ true
    some_members end_of-LEffect some = some
    some_members (more_of-LEffect part rest) some = grind (arith, nat_tests)

all_filtered : (test keep : List ℕ → Bool) (xs : List (List ℕ)) → ((objects : List ℕ) → Member xs objects → test objects ≡ true) → list_all test (filter keep xs) ≡ true
all_filtered test keep [] each = refl
all_filtered test keep (objects ∷ xs) each = by (keep objects) (all_filtered test keep xs (λ other m. each other (inr m)))
  where
    by : (b : Bool) → list_all test (filter keep xs) ≡ true → list_all test (cond b (objects ∷ filter keep xs) (filter keep xs)) ≡ true
    by true rest = and-both (test objects) (list_all test (filter keep xs)) (each objects (inl refl)) rest
    by false rest = rest

pub all_get : {X : Type 0} (test : X → Bool) (items : List X) (i : ℕ) (item : X) → list_all test items ≡ true → slice_get items i ≡ Some item → test item ≡ true
all_get test [] zero item h e = absurd (cc)
all_get test [] (suc i) item h e = absurd (cc)
all_get test (x ∷ xs) zero item h e = let same : x ≡ item = cc in subst (λ y. test y ≡ true) same (and-parts (test x) (list_all test xs) h).0
all_get test (x ∷ xs) (suc i) item h e = all_get test xs i item (and-parts (test x) (list_all test xs) h).1 e

-- the atoms of the literals of a kept action have numbers
pub kept_numbered : (task : LiftedTask) (i : ℕ) (schema : LSchema) → slice_get task.schemas i ≡ Some schema → list_all (λ objects. is_numbered task objects schema.effect) (kept_args task schema) ≡ true
kept_numbered task i schema at =
    let count = length task.objects in
    let within = all_get (is_schema_within count task.predicates) task.schemas i schema task.schemas_within at in
    let fluent = all_get (is_schema_fluent task.predicates) task.schemas i schema task.effects_fluent at in
    let effect = (and-parts (are_ranges_within count schema.ranges && is_condition_within count task.predicates schema.pre (objects_of schema.ranges)) (is_effect_within count task.predicates schema.effect (objects_of schema.ranges)) within).1 in
    all_filtered (λ objects. is_numbered task objects schema.effect) (is_kept task schema) (tuples (objects_of schema.ranges))
    (λ objects m. numbered_effect task count schema.effect objects (objects_of schema.ranges) ((tuples-lie-in-ranges (objects_of schema.ranges) objects).0 (Contains-from_Member (tuples (objects_of schema.ranges)) objects m)) effect fluent)
