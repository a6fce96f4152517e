-- The words of a command line, and the job that they ask for.
use Rattle.std.specs.Prelude.{◌≡◌, ◌≢◌, ℕ, ⊤, List, [], ◌∷◌, ◌++◌, All, length, true, codes}
use Rattle.fond_commands.specs.declared.words.Command.{Command}
use Rattle.fond_commands.specs.declared.words.Command.TheVariants as c
use Rattle.fond_commands.specs.declared.words.Job.{Job}
use Rattle.fond_commands.specs.declared.words.Job.TheVariants.{Succ, Run, Check, Plan, Migrate, Simulate, Demo, Explain, Graph, Duel, Rate, Best}
use Rattle.fond_tree.specs.Spelling.{IsReadAs}
use Rattle.fond_succ.specs.Actions.{is_leaf_node}
use Rattle.fond_commands.specs.Budgets.{IsBudget, IsLimit, IsSeed, IsSize}

-- the word of a command
abbrev pub word_of : Command → List ℕ
word_of c.Succ = codes "succ"
word_of c.Run = codes "run"
word_of c.Check = codes "check"
word_of c.Plan = codes "plan"
word_of c.Migrate = codes "migrate"
word_of c.Simulate = codes "simulate"
word_of c.Demo = codes "demo"
word_of c.Explain = codes "explain"
word_of c.Graph = codes "graph"
word_of c.Duel = codes "duel"
word_of c.Rate = codes "rate"
word_of c.Best = codes "best"

-- how many names of files follow the word of a command
abbrev pub file_count : Command → ℕ
file_count c.Succ = 2
file_count c.Run = 5
file_count c.Check = 4
file_count c.Plan = 3
file_count c.Migrate = 4
file_count c.Simulate = 4
file_count c.Demo = 0
file_count c.Explain = 4
file_count c.Graph = 4
file_count c.Duel = 4
file_count c.Rate = 4
file_count c.Best = 3

-- the command of a job
abbrev pub command_of : Job → Command
command_of (Succ action) = c.Succ
command_of Run = c.Run
command_of Check = c.Check
command_of (Plan budget) = c.Plan
command_of Migrate = c.Migrate
command_of (Simulate seed steps) = c.Simulate
command_of (Demo size) = c.Demo
command_of (Explain limit) = c.Explain
command_of (Graph limit) = c.Graph
command_of (Duel steps) = c.Duel
command_of Rate = c.Rate
command_of (Best budget) = c.Best

-- the words after the names of files say what a job needs beside its files: an action, a budget, a number of states or of steps, a seed
-- and a number of steps, a size, or nothing
abbrev pub Say : List (List ℕ) → Job → Type 0
Say (word ∷ []) (Succ action) = IsReadAs word action × (is_leaf_node action ≡ true)
Say [] Run = ⊤
Say [] Check = ⊤
Say (word ∷ []) (Plan budget) = IsBudget word budget
Say [] Migrate = ⊤
Say (seed_word ∷ steps_word ∷ []) (Simulate seed steps) = IsSeed seed_word seed × IsBudget steps_word steps
Say (word ∷ []) (Demo size) = IsSize word size
Say (word ∷ []) (Explain limit) = IsLimit word limit
Say (word ∷ []) (Graph limit) = IsBudget word limit
Say (word ∷ []) (Duel steps) = IsBudget word steps
Say [] Rate = ⊤
Say (word ∷ []) (Best budget) = IsBudget word budget
Say words job = ⊥

-- a word is the name of a file: it is not empty
abbrev pub IsFileName : List ℕ → Type 0
IsFileName word = word ≢ []

-- words ask for a job over files of these names: the word of its command, the names, and what else the job needs
pub record AskFor (words : List (List ℕ)) (job : Job) (names : List (List ℕ)) : Type 0 where
  pub rest : List (List ℕ)
  pub split : words ≡ word_of (command_of job) ∷ (names ++ rest)
  pub count : length names ≡ file_count (command_of job)
  pub named : All IsFileName names
  pub said : Say rest job

-- words ask for no job
abbrev pub AskForNone : List (List ℕ) → Type 0
AskForNone words = (job : Job) (names : List (List ℕ)) → ¬ AskFor words job names

-- words after the names of files fit no job of a command
abbrev pub SayNone : Command → List (List ℕ) → Type 0
SayNone command words = (job : Job) → command_of job ≡ command → ¬ Say words job
