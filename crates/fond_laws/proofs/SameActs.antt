-- Entries, actions and tasks that are the same but for the forms of their conditions: both ways, and their images.
use Rattle.std.proofs.Common.{◌≡◌, ℕ, List, [], ◌∷◌, Bool, true, false, not, Option, map, cond, refl, sym, ap, ◌∙◌}
use Rattle.std.specs.Prelude.{◌&&◌, ◌==◌, filter}
use Rattle.std.specs.List.{AllZip}
use Rattle.fond_task.specs.declared.form.Kleene.{Kleene}
use Rattle.fond_task.specs.declared.task.Act.{Act}
use Rattle.fond_task.specs.declared.task.Entry.{Entry}
use Rattle.fond_task.specs.declared.task.Task.{Task}
use Rattle.fond_task.specs.Images.{after_adds, after_deletes, image}
use Rattle.fond_task.specs.Steps.{by_index}
use Rattle.fond_task.specs.Values.{greatest, value}
use Rattle.fond_laws.specs.Alike.{IsSameAct, IsSameEntry, IsSameTask}
use Rattle.fond_laws.proofs.SameLists.{zip-swap}

-- outcomes are the same, entry by entry
abbrev pub AreSameEntries : List Entry → List Entry → Type 0
AreSameEntries outcome twin = AllZip IsSameEntry outcome twin

-- entries are the same the other way round
pub sym_entry : (entry twin : Entry) → IsSameEntry entry twin → IsSameEntry twin entry
sym_entry entry twin same = record { atom = sym same.atom; add = sym same.add; cond = λ cube. sym (same.cond cube) }

-- outcomes are the same the other way round
pub sym_entries : (outcome twin : List Entry) → AreSameEntries outcome twin → AreSameEntries twin outcome
sym_entries outcome twin same = zip-swap IsSameEntry IsSameEntry sym_entry outcome twin same

-- actions are the same the other way round
pub sym_act : (act twin : Act) → IsSameAct act twin → IsSameAct twin act
sym_act act twin same = record {
  named = sym same.named;
  unfair = sym same.unfair;
  pre = λ cube. sym (same.pre cube);
  outcomes = zip-swap (AllZip IsSameEntry) (AllZip IsSameEntry) sym_entries act.outcomes twin.outcomes same.outcomes;
}

-- tasks are the same the other way round
pub sym_task : (game other : Task) → IsSameTask game other → IsSameTask other game
sym_task game other same = record {
  atoms = sym same.atoms;
  acts = zip-swap IsSameAct IsSameAct sym_act game.acts other.acts same.acts;
  init = sym same.init;
  goal = λ cube. sym (same.goal cube);
  labels = sym same.labels;
}

module _ (cube : List (Option Bool)) where
  -- the values of the conditions of entries
  abbrev values : List Entry → List Kleene
  values entries = map (λ entry. value cube entry.cond) entries

  -- the values of the conditions of an entry, if it passes, and of others
  first_values : (passes : Bool) (entry : Entry) (entries : List Entry) → values (cond passes (entry ∷ entries) entries) ≡ cond passes (value cube entry.cond ∷ values entries) (values entries)
  first_values true entry entries = refl
  first_values false entry entries = refl

  -- the entries of the same signs and atoms have conditions of the same values
  same_values : (key : Bool → ℕ → Bool) (outcome twin : List Entry) → AreSameEntries outcome twin →
      values (filter (λ entry. key entry.add entry.atom) outcome) ≡ values (filter (λ entry. key entry.add entry.atom) twin)
  same_values key [] [] same = refl
  same_values key [] (other ∷ twin) same = absurd same
  same_values key (entry ∷ outcome) [] same = absurd same
  same_values key (entry ∷ outcome) (other ∷ twin) same =
      let rest = same_values key outcome twin same.1 in
      first_values (key entry.add entry.atom) entry (filter (λ entry. key entry.add entry.atom) outcome)
      ∙ (λ i. cond (key (same.0.add i) (same.0.atom i)) (same.0.cond cube i ∷ rest i) (rest i))
      ∙ sym (first_values (key other.add other.atom) other (filter (λ entry. key entry.add entry.atom) twin))

  -- the image under the same outcome is the same
  pub same_image : (outcome twin : List Entry) → AreSameEntries outcome twin → image cube outcome ≡ image cube twin
  same_image outcome twin same =
      let added = λ (atom : ℕ). ap greatest (same_values (λ add number. add && number == atom) outcome twin same) in
      let deleted = λ (atom : ℕ). ap greatest (same_values (λ add number. not add && number == atom) outcome twin same) in
      λ i. by_index (λ atom known. after_adds (added atom i) (after_deletes (deleted atom i) known)) cube
