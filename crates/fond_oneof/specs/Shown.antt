-- What an entry, or a literal of an outcome, means: its condition only by its values and by its atoms.
use Rattle.std.specs.Prelude.{◌≡◌, ℕ, Bool, true, List, ◌++◌, ◌&&◌, Option, map}
use Rattle.std.specs.List.{flat_map, list_all}
use Rattle.fond_task.specs.declared.form.Form.{Form}
use Rattle.fond_task.specs.declared.form.Kleene.{Kleene}
use Rattle.fond_task.specs.declared.form.Kleene.TheVariants.{Yes}
use Rattle.fond_task.specs.declared.task.Entry.{Entry}
use Rattle.fond_task.specs.Values.{least, lesser, value}
use Rattle.fond_task.specs.Within.{is_form_within}
use Rattle.fond_oneof.specs.declared.effect.GroundEffect.{GroundEffect}
use Rattle.fond_oneof.specs.Outcomes.{Literal, outcome_lists}

-- an atom and a sign, the value of the condition on each cube, and whether the condition is over so many atoms
pub record Shown : Type 0 where
  pub atom : ℕ
  pub add : Bool
  pub value : List (Option Bool) → Kleene
  pub within : ℕ → Bool

-- the meaning of an entry
abbrev pub shown : Entry → Shown
shown entry = record { atom = entry.atom; add = entry.add; value = λ cube. value cube entry.cond; within = λ atoms. is_form_within atoms entry.cond }

-- the meaning of a literal
abbrev pub shown_literal : Literal → Shown
shown_literal literal = record {
  atom = literal.atom;
  add = literal.add;
  value = λ cube. least (map (value cube) literal.conditions);
  within = λ atoms. list_all (is_form_within atoms) literal.conditions;
}

-- a meaning under one more condition
abbrev pub shown_under : Form → Shown → Shown
shown_under condition one = record {
  atom = one.atom;
  add = one.add;
  value = λ cube. lesser (value cube condition) (one.value cube);
  within = λ atoms. is_form_within atoms condition && one.within atoms;
}

-- the meanings of the entries of some outcomes
abbrev pub all_shown : List (List Entry) → List (List Shown)
all_shown all = map (map shown) all

-- the meanings of the outcomes of an effect
abbrev pub shown_lists : GroundEffect → List (List Shown)
shown_lists effect = map (map shown_literal) (outcome_lists effect)

-- each list of the first lists with each list of the second, which varies faster
abbrev pub pairs : {A : Type 0} → List (List A) → List (List A) → List (List A)
pairs first second = flat_map (λ list. map (λ more. list ++ more) second) first

-- a form has the values of another, and is over the same atoms
pub record IsSameForm (form other : Form) : Type 0 where
  pub valued : (cube : List (Option Bool)) → value cube other ≡ value cube form
  pub over : (atoms : ℕ) → is_form_within atoms other ≡ is_form_within atoms form

-- a form has the values of two others together, and is over the atoms of both
pub record IsBoth (form other both : Form) : Type 0 where
  pub valued : (cube : List (Option Bool)) → value cube both ≡ lesser (value cube form) (value cube other)
  pub over : (atoms : ℕ) → is_form_within atoms both ≡ (is_form_within atoms form && is_form_within atoms other)

-- forms have the values of others, place by place, and are over the same atoms
pub record AreSameForms (forms others : List Form) : Type 0 where
  pub valued : (cube : List (Option Bool)) → map (value cube) others ≡ map (value cube) forms
  pub over : (atoms : ℕ) → map (is_form_within atoms) others ≡ map (is_form_within atoms) forms

-- a form is Yes on each cube, and over any atoms
pub record IsAlwaysTrue (form : Form) : Type 0 where
  pub valued : (cube : List (Option Bool)) → value cube form ≡ Yes
  pub over : (atoms : ℕ) → is_form_within atoms form ≡ true
