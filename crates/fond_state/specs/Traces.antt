-- Traces over words that pick outcomes, by the rules of docs/COMMANDS.md, of whatever is stepped.
use Rattle.std.specs.Prelude.{ℕ, ◌≤◌, ◌%◌, List, [], ◌∷◌, ◌++◌, length, codes}
use Rattle.std.specs.Fmt.{decimal}

-- the line at a goal, with the count of the words that are left
abbrev pub goal_line : ℕ → List ℕ
goal_line left = codes "goal left " ++ decimal left ++ codes "\n"

-- the line of an outcome that is not below the count of an action's outcomes
abbrev pub outcome_line : ℕ → ℕ → List ℕ
outcome_line outcome count = codes "outcome " ++ decimal outcome ++ codes " of " ++ decimal count ++ codes "\n"

-- which number a word picks where an action has so many outcomes
abbrev pub Pick : Type 0
Pick = ℕ → ℕ → ℕ

-- a number of a script is that of the outcome
abbrev pub as_recorded : Pick
as_recorded count word = word

-- a drawn word picks the outcome whose number is its remainder by the count
abbrev pub by_remainder : Pick
by_remainder count word = word % count

-- how states are stepped: which are goals, what is chosen in a state, how many outcomes a choice has, and to which state an outcome of
-- a choice, by its number below that count, leads with which line
pub record Stepping (S C : Type 0) : Type 1 where
  pub IsGoal : S → Type 0
  pub Chooses : S → C → Type 0
  pub count : C → ℕ
  pub Leads : S → C → ℕ → List ℕ → S → Type 0

-- the trace from a state over words, each of which picks an outcome: its lines and its last state. It ends at a goal; elsewhere when no
-- word is left; with a word left, when nothing is chosen in the state, or when the number that is picked is not below the count of
-- the choice's outcomes; otherwise it goes on in the state to which that outcome leads
pub data TraceOf {S C : Type 0} (steps : Stepping S C) (pick : Pick) : S → List ℕ → List ℕ → S → Type 0 where
  goal : (state : S) (words : List ℕ) → steps.IsGoal state → TraceOf steps pick state words (goal_line (length words)) state
  ended : (state : S) → ¬ steps.IsGoal state → TraceOf steps pick state [] (codes "ended\n") state
  stuck : (state : S) (word : ℕ) (left : List ℕ) → ¬ steps.IsGoal state → ((choice : C) → ¬ steps.Chooses state choice) → TraceOf steps pick state (word ∷ left) (codes "stuck\n") state
  bad_outcome : (state : S) (word : ℕ) (left : List ℕ) (choice : C) → ¬ steps.IsGoal state → steps.Chooses state choice → steps.count choice ≤ pick (steps.count choice) word
      → TraceOf steps pick state (word ∷ left) (outcome_line (pick (steps.count choice) word) (steps.count choice)) state
  took : (state : S) (word : ℕ) (left : List ℕ) (choice : C) (line : List ℕ) (next : S) (text : List ℕ) (last : S) → ¬ steps.IsGoal state → steps.Chooses state choice
      → steps.Leads state choice (pick (steps.count choice) word) line next → TraceOf steps pick next left text last → TraceOf steps pick state (word ∷ left) (line ++ text) last
