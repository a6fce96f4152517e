-- The texts of findings, by the numbers of the states that are reached.
use Rattle.std.specs.Prelude.{◌≡◌, ◌<◌, ◌-◌, ◌^◌, ℕ, List, [], ◌∷◌, ◌++◌, Bool, codes, if◌then◌else◌, nat_lt, length, slice_get}
use Rattle.std.specs.Fmt.{decimal}
use Rattle.std.specs.List.{flat_map}
use Rattle.std.specs.Option.{option_map_or}
use Rattle.fond_task.specs.declared.task.Task.{Task}
use Rattle.fond_task.specs.Policies.{Policy}
use Rattle.fond_task.specs.Texts.{state_text}
use Rattle.fond_games.specs.Told.{numbers_line}
use Rattle.fond_lasso.specs.declared.finding.Finding.{Finding}
use Rattle.fond_lasso.specs.Explained.{IsFinding}
use Rattle.fond_lasso.specs.Ordered.{AreRenamed}

-- a finding is that of some policy, for a limit below 2^31
abbrev pub IsFound : Task → Finding → Type 0
IsFound task finding = (policy : Policy) × (limit : ℕ) × (limit < 2 ^ 31) × IsFinding task policy limit finding

-- the text of a state with the rank that its level tells, and none for a goal
abbrev pub level_text : Task → List Bool → ℕ → List ℕ
level_text task state level = if nat_lt 1 level then codes "rank " ++ decimal (level - 1) ++ codes "\n" ++ state_text task state else []

-- the texts of states with the ranks that their levels tell
abbrev pub levels_text : Task → List (List Bool) → List ℕ → List ℕ
levels_text task (state ∷ states) (level ∷ levels) = level_text task state level ++ levels_text task states levels
levels_text task states levels = []

-- the text of the state of a number, and none if there is no such state
abbrev pub numbered_text : Task → List (List Bool) → ℕ → List ℕ
numbered_text task states number = option_map_or (state_text task) (slice_get states number) []

-- a text is that of a run on which a policy gets stuck, by the numbers of its states
abbrev pub IsStuckText : Task → List (List Bool) → List ℕ → List ℕ → Type 0
IsStuckText task states stem text =
    (used : List ℕ) × (new_stem : List ℕ) × (new_cycle : List ℕ) × AreRenamed (length states) stem [] used new_stem new_cycle
    × (text ≡ codes "stuck\n" ++ flat_map (numbered_text task states) used ++ numbers_line (codes "stem") new_stem)

-- a text is that of a lasso, by the numbers of its states
abbrev pub IsLassoText : Task → List (List Bool) → List ℕ → List ℕ → List ℕ → Type 0
IsLassoText task states stem cycle text =
    (used : List ℕ) × (new_stem : List ℕ) × (new_cycle : List ℕ) × AreRenamed (length states) stem cycle used new_stem new_cycle
    × (text ≡ codes "lasso\n" ++ flat_map (numbered_text task states) used ++ numbers_line (codes "stem") new_stem ++ numbers_line (codes "cycle") new_cycle)
