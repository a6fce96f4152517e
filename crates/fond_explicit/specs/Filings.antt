-- Actions filed by an atom that their preconditions need.
use Rattle.std.specs.Prelude.{◌≡◌, ◌⊎◌, ℕ, ◌<◌, List, [], Bool, true, Option, Some, All, Contains, length, slice_get, slice_index_or}
use Rattle.std.specs.List.Sorted.{IsStrictlyIncreasing}
use Rattle.fond_state.specs.Cubes.{truth_at}
use Rattle.fond_task.specs.declared.form.Form.{Form}
use Rattle.fond_task.specs.declared.task.Act.{Act}
use Rattle.fond_task.specs.declared.task.Task.{Task}
use Rattle.fond_task.specs.Truth.{is_true}
use Rattle.fond_explicit.specs.declared.act_index.ActIndex.{ActIndex}

-- a form needs an atom if the atom is true wherever the form is
abbrev pub Needs : Form → ℕ → Type 0
Needs form atom = (state : List Bool) → is_true state form ≡ true → truth_at state atom ≡ true

-- the actions that are filed under an atom
abbrev pub filed_under : List (List ℕ) → ℕ → List ℕ
filed_under lists atom = slice_index_or lists atom []

-- an action is filed under an atom that its precondition needs
pub record IsUnder (lists : List (List ℕ)) (act : Act) (number : ℕ) : Type 0 where
  pub atom : ℕ
  pub needs : Needs act.pre atom
  pub has : Contains (filed_under lists atom) number

-- an action is filed under an atom that its precondition needs, or among those that are always tried
abbrev pub IsFiled : ActIndex → Act → ℕ → Type 0
IsFiled index act number = IsUnder index.by_atom.items act number ⊎ Contains index.always.items number

-- one action more is filed: under an atom if there is one, or among those that are always tried
pub record FilesOne (old new : ActIndex) (atom : Option ℕ) (number : ℕ) : Type 0 where
  pub keeps_under : (other n : ℕ) → Contains (filed_under old.by_atom.items other) n → Contains (filed_under new.by_atom.items other) n
  pub keeps_always : (n : ℕ) → Contains old.always.items n → Contains new.always.items n
  pub only_under : (other n : ℕ) → Contains (filed_under new.by_atom.items other) n → Contains (filed_under old.by_atom.items other) n ⊎ (number ≡ n)
  pub only_always : (n : ℕ) → Contains new.always.items n → Contains old.always.items n ⊎ (number ≡ n)
  pub here : Contains new.always.items number ⊎ ((under : ℕ) × (atom ≡ Some under) × Contains (filed_under new.by_atom.items under) number)

-- the numbers that are filed under the true ones of the first atoms were added, and no others than filed ones
pub record AreCollected (lists : List (List ℕ)) (state : List Bool) (atoms : ℕ) (old new : List ℕ) : Type 0 where
  pub keeps : (n : ℕ) → Contains old n → Contains new n
  pub all : (atom n : ℕ) → atom < atoms → truth_at state atom ≡ true → Contains (filed_under lists atom) n → Contains new n
  pub only : (n : ℕ) → Contains new n → Contains old n ⊎ ((atom : ℕ) × Contains (filed_under lists atom) n)

-- the first actions of a task are filed, and nothing else
pub record AreFiled (task : Task) (acts : ℕ) (index : ActIndex) : Type 0 where
  pub all : (number : ℕ) (act : Act) → number < acts → slice_get task.acts number ≡ Some act → IsFiled index act number
  pub under_within : (atom number : ℕ) → Contains (filed_under index.by_atom.items atom) number → number < length task.acts
  pub always_within : (number : ℕ) → Contains index.always.items number → number < length task.acts

-- an index has each action of a task
abbrev pub IsIndexOf : Task → ActIndex → Type 0
IsIndexOf task index = AreFiled task (length task.acts) index

-- numbers are candidates for a state: actions of the task, in order, and each that is applicable is among them
pub record AreCandidates (task : Task) (state : List Bool) (numbers : List ℕ) : Type 0 where
  pub within : All (λ number. number < length task.acts) numbers
  pub rising : IsStrictlyIncreasing numbers
  pub all : (number : ℕ) (act : Act) → slice_get task.acts number ≡ Some act → is_true state act.pre ≡ true → Contains numbers number
