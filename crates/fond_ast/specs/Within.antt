-- Tasks in which each number names something, each argument lies in the range of its parameter, and each choice has a
-- member.
use Rattle.std.specs.Prelude.{ℕ, ◌+◌, ◌==◌, ◌&&◌, ◌^◌, nat_lt, Bool, true, false, not, List, [], ◌∷◌, ◌++◌, Option, Some, None, is_some, map, length, slice_get, if◌then◌else◌}
use Rattle.std.specs.List.{list_all, list_any}
use Rattle.std.specs.Option.{option_map_or}
use Rattle.fond_text.specs.Lists.{each_passes}
use Rattle.fond_text.specs.declared.atom.Atom.{Atom}
use Rattle.fond_ast.specs.Ranges.{RangeList, objects_of, is_among, is_rising}
use Rattle.fond_ast.specs.declared.form.LAtom.{LAtom}
use Rattle.fond_ast.specs.declared.form.LTerm.{LTerm}
use Rattle.fond_ast.specs.declared.form.LTerm.TheVariants.{Object, Variable}
use Rattle.fond_ast.specs.declared.form.LCond.{LCond}
use Rattle.fond_ast.specs.declared.form.LCond.TheOpen as condition
use Rattle.fond_ast.specs.declared.form.LCond.TheFolds.{fold-LCond}
use Rattle.fond_ast.specs.declared.form.LEffect.{LEffect}
use Rattle.fond_ast.specs.declared.form.LEffect.TheOpen as effect
use Rattle.fond_ast.specs.declared.form.LEffect.TheFolds.{fold-LEffect}
use Rattle.fond_ast.specs.declared.task.LPredicate.{LPredicate}
use Rattle.fond_ast.specs.declared.task.LSchema.{LSchema}

-- whether ranges list objects below this number, each range in rising order
abbrev pub are_ranges_within : ℕ → RangeList → Bool
are_ranges_within count ranges = list_all (λ range. is_rising range && list_all (λ object. nat_lt object count) range) (objects_of ranges)

-- the objects for which a term may stand, if it is one of this many objects, or a variable with one of these ranges around
-- it
abbrev pub term_objects : ℕ → List (List ℕ) → LTerm → Option (List ℕ)
term_objects count around (Object number) = if nat_lt number count then Some (number ∷ []) else None
term_objects count around (Variable number) = slice_get around number

-- whether a term is one of this many objects, or a variable around it, of which there are fewer than 2^32
abbrev pub is_term_within : ℕ → List (List ℕ) → LTerm → Bool
is_term_within count around term = nat_lt (length around) (2 ^ 32) && is_some (term_objects count around term)

-- whether each object for which a term may stand lies in a range; false if the term stands for nothing
abbrev pub fits_range : ℕ → List (List ℕ) → List ℕ → LTerm → Bool
fits_range count around range term = option_map_or (list_all (is_among range)) (term_objects count around term) false

-- whether the task has the predicate of an atom, and the atom has one term for each range of the predicate, which names
-- something and fits the range
abbrev pub is_atom_within : ℕ → List LPredicate → LAtom → List (List ℕ) → Bool
is_atom_within count predicates atom around =
    list_all (is_term_within count around) atom.terms
    && option_map_or (λ predicate. each_passes (map (fits_range count around) (objects_of predicate.ranges)) atom.terms) (slice_get predicates atom.predicate) false

abbrev pub condition_within_step : ℕ → List LPredicate → condition.LCond-F (List (List ℕ) → Bool) → List (List ℕ) → Bool
condition_within_step count predicates condition.Truth around = true
condition_within_step count predicates (condition.Holds atom) around = is_atom_within count predicates atom around
condition_within_step count predicates (condition.Equal term other) around = is_term_within count around term && is_term_within count around other
condition_within_step count predicates (condition.And parts) around = list_all (λ part. part around) parts.items
condition_within_step count predicates (condition.Or parts) around = list_all (λ part. part around) parts.items
condition_within_step count predicates (condition.Not part) around = part.value around
condition_within_step count predicates (condition.Imply part other) around = part.value around && other.value around
condition_within_step count predicates (condition.Forall ranges part) around = are_ranges_within count ranges && part.value (around ++ objects_of ranges)
condition_within_step count predicates (condition.Exists ranges part) around = are_ranges_within count ranges && part.value (around ++ objects_of ranges)

-- whether each number in a condition names something and each argument fits, with variables of these ranges around it
abbrev pub is_condition_within : ℕ → List LPredicate → LCond → List (List ℕ) → Bool
is_condition_within count predicates = fold-LCond (List (List ℕ) → Bool) (condition_within_step count predicates)

abbrev pub effect_within_step : ℕ → List LPredicate → effect.LEffect-F (List (List ℕ) → Bool) → List (List ℕ) → Bool
effect_within_step count predicates effect.Nothing around = true
effect_within_step count predicates (effect.Add atom) around = is_atom_within count predicates atom around
effect_within_step count predicates (effect.Delete atom) around = is_atom_within count predicates atom around
effect_within_step count predicates (effect.And parts) around = list_all (λ part. part around) parts.items
effect_within_step count predicates (effect.Forall ranges part) around = are_ranges_within count ranges && part.value (around ++ objects_of ranges)
effect_within_step count predicates (effect.When condition part) around = is_condition_within count predicates condition around && part.value around
effect_within_step count predicates (effect.OneOf parts) around = not (length parts.items == 0) && list_all (λ part. part around) parts.items

-- whether each number in an effect names something, each argument fits and each choice has a member, with variables of
-- these ranges around it
abbrev pub is_effect_within : ℕ → List LPredicate → LEffect → List (List ℕ) → Bool
is_effect_within count predicates = fold-LEffect (List (List ℕ) → Bool) (effect_within_step count predicates)

-- whether the numbers in the precondition and the effect of a schema name something and their arguments fit
abbrev pub is_schema_within : ℕ → List LPredicate → LSchema → Bool
is_schema_within count predicates schema =
    are_ranges_within count schema.ranges
    && is_condition_within count predicates schema.pre (objects_of schema.ranges) && is_effect_within count predicates schema.effect (objects_of schema.ranges)

-- whether the predicate of this number is fluent
abbrev pub is_fluent : List LPredicate → ℕ → Bool
is_fluent predicates number = option_map_or (λ predicate. predicate.fluent) (slice_get predicates number) false

abbrev pub fluent_step : List LPredicate → effect.LEffect-F Bool → Bool
fluent_step predicates effect.Nothing = true
fluent_step predicates (effect.Add atom) = is_fluent predicates atom.predicate
fluent_step predicates (effect.Delete atom) = is_fluent predicates atom.predicate
fluent_step predicates (effect.And parts) = list_all (λ part. part) parts.items
fluent_step predicates (effect.Forall ranges part) = part.value
fluent_step predicates (effect.When condition part) = part.value
fluent_step predicates (effect.OneOf parts) = list_all (λ part. part) parts.items

-- whether each literal of an effect has a fluent predicate
abbrev pub is_effect_fluent : List LPredicate → LEffect → Bool
is_effect_fluent predicates = fold-LEffect Bool (fluent_step predicates)

-- whether each literal in the effect of a schema has a fluent predicate
abbrev pub is_schema_fluent : List LPredicate → LSchema → Bool
is_schema_fluent predicates schema = is_effect_fluent predicates schema.effect

-- whether the task has the predicate of a ground atom, whose objects lie in the predicate's ranges, place by place
abbrev pub is_initial_within : List LPredicate → Atom → Bool
is_initial_within predicates atom =
    option_map_or (λ predicate. each_passes (map is_among (objects_of predicate.ranges)) atom.objects) (slice_get predicates atom.predicate) false
