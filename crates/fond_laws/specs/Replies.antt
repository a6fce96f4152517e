-- The laws of replies.
use Rattle.std.specs.Prelude.{◌≡◌, ◌⊎◌, ◌≤◌, ℕ, List, [], ◌∷◌, ◌++◌, ⊤, codes, length}
use Rattle.std.specs.Fmt.{decimal}
use Rattle.fond_ast.specs.declared.task.LiftedTask.{LiftedTask}
use Rattle.fond_task.specs.declared.task.Task.{Task}
use Rattle.fond_policy.specs.declared.cert.Cert.{Cert}
use Rattle.fond_policy.specs.declared.cert.Cert.TheVariants.{Refusal}
use Rattle.fond_policy.specs.Parts.{IsRight}
use Rattle.fond_ground.specs.Grounds.{IsGroundOf}
use Rattle.fond_regress.specs.Stable.{IsHopeless}
use Rattle.fond_ast.specs.Solutions.{IsSolution, IsSolvable, More, initial}
use Rattle.fond_ast.specs.States.{State}
use Rattle.fond_task.specs.declared.rule.Rule.{Rule}
use Rattle.fond_succ.specs.Solutions.{rules_policy}
use Rattle.fond_succ.specs.Traces.{Trace}
use Rattle.fond_state.specs.Traces.{Pick}
use Rattle.fond_commands.specs.Certified.{DescribeGround, IsCertText, rules_of}
use Rattle.fond_demo.specs.Demos.{demo_domain, demo_problem, demo_side}
use Rattle.fond_tool.specs.Demos.{demo_text, demo_texts}
use Rattle.fond_tool.specs.Jobs.{JobReply, texts}
use Rattle.fond_laws.specs.Stuck.{EndsStuck}
use Rattle.fond_commands.specs.Tasks.{Describe}
use Rattle.fond_commands.specs.Replies.{Reply, line_reply}
use Rattle.fond_commands.specs.declared.words.Job.TheVariants.{Best, Check, Demo, Duel, Migrate, Plan, Rate}
use Rattle.fond_commands.specs.declared.status.Ending.{Ending}
use Rattle.fond_commands.specs.declared.status.Ending.TheVariants.{Done, Unsolvable}

-- an ending is that of a printed certificate
abbrev pub IsCertEnding : Ending → Type 0
IsCertEnding Done = ⊤
IsCertEnding Unsolvable = ⊤
IsCertEnding ending = ⊥

-- the reply of `check` to a certificate that was printed with this ending
abbrev pub accepted_reply : Ending → Reply
accepted_reply Done = line_reply (codes "accepted policy lean") Done
accepted_reply ending = line_reply (codes "accepted refusal") Done

-- each reply of `check` to three texts and to the text of a correct certificate of the task that they describe is that it is
-- accepted
abbrev pub CorrectAreAccepted : Type 0
CorrectAreAccepted = (domain problem side : List ℕ) (task : LiftedTask) (game : Task) (cert : Cert) (text : List ℕ) (reply : Reply)
    → DescribeGround (texts domain problem side) task game → IsCertText game cert text → IsRight game cert → JobReply Check (domain ∷ problem ∷ side ∷ text ∷ []) reply → reply.ending ≡ Done

-- for the same three files, the reply of `check` to a certificate that `plan` prints is that it is accepted, and a policy as lean
abbrev pub PlannedAreAccepted : Type 0
PlannedAreAccepted = (budget : ℕ) (domain problem side : List ℕ) (planned reply : Reply) → JobReply (Plan budget) (domain ∷ problem ∷ side ∷ []) planned → IsCertEnding planned.ending
    → JobReply Check (domain ∷ problem ∷ side ∷ planned.text ∷ []) reply → reply ≡ accepted_reply planned.ending

-- the reply of `rate` to a correct certificate of this least rank
abbrev pub least_reply : ℕ → Reply
least_reply rank = line_reply (codes "least rank " ++ decimal rank) Done

-- for the same three files, the reply of `rate` to a certificate of least rank that `best` prints is its rank
abbrev pub ShortestAreRated : Type 0
ShortestAreRated = (budget : ℕ) (domain problem side : List ℕ) (printed reply : Reply) → JobReply (Best budget) (domain ∷ problem ∷ side ∷ []) printed → printed.ending ≡ Done
    → JobReply Rate (domain ∷ problem ∷ side ∷ printed.text ∷ []) reply → (rank : ℕ) × (reply ≡ least_reply rank)

-- if three texts describe a task of which no more states than the budget are reachable, each reply of `plan` is a certificate: of
-- a policy if the task is solvable, and a refusal if it is not
abbrev pub SmallTasksAreDecided : Type 0
SmallTasksAreDecided = (domain problem side : List ℕ) (task : LiftedTask) (budget : ℕ) (reply : Reply) → Describe (texts domain problem side) task → ¬ More task budget → JobReply (Plan budget) (domain ∷ problem ∷ side ∷ []) reply
    → ((reply.ending ≡ Done) × IsSolvable task) ⊎ ((reply.ending ≡ Unsolvable) × (¬ IsSolvable task))

-- if three texts describe a task whose initial state is hopeless, each reply of `plan` is a refusal, whatever the budget is
abbrev pub HopelessTasksAreRefused : Type 0
HopelessTasksAreRefused = (domain problem side : List ℕ) (task : LiftedTask) (game : Task) (budget : ℕ) (reply : Reply) → DescribeGround (texts domain problem side) task game → IsHopeless game game.init
    → JobReply (Plan budget) (domain ∷ problem ∷ side ∷ []) reply → reply.ending ≡ Unsolvable

-- for the same three files, the reply of `check` to a certificate that `migrate` writes is that it is accepted
abbrev pub MigratedAreAccepted : Type 0
MigratedAreAccepted = (domain problem side cert : List ℕ) (migrated reply : Reply) → JobReply Migrate (domain ∷ problem ∷ side ∷ cert ∷ []) migrated → migrated.ending ≡ Done
    → JobReply Check (domain ∷ problem ∷ side ∷ migrated.text ∷ []) reply → reply.ending ≡ Done

-- no trace of rules that are a solution ends with the line `stuck`, whatever the words are and however they pick outcomes
abbrev pub SolutionsNeverStick : Type 0
SolutionsNeverStick = (pick : Pick) (task : LiftedTask) (game : Task) (rules : List Rule) (words lines : List ℕ) (last : State) → IsSolution task (rules_policy task game rules)
    → (trace : Trace pick task game rules (initial task) words lines last) → ¬ EndsStuck trace

-- a certificate is that of a policy, of either version
abbrev pub IsPolicyCert : Cert → Type 0
IsPolicyCert (Refusal layers) = ⊥
IsPolicyCert cert = ⊤

-- no trace of the rules of a correct policy, from the initial state of a task with this ground task, ends with the line `stuck`,
-- whatever the words are and however they pick outcomes
abbrev pub CorrectPoliciesNeverStick : Type 0
CorrectPoliciesNeverStick = (pick : Pick) (task : LiftedTask) (game : Task) (read : Cert) (words lines : List ℕ) (last : State) → IsGroundOf task game → IsRight game read → IsPolicyCert read
    → (trace : Trace pick task game (rules_of read) (initial task) words lines last) → ¬ EndsStuck trace

-- if three texts describe a task, each reply of `duel` to the text of a correct policy of it, with at most as many rules as there are
-- steps, ends at a goal
abbrev pub DuelsReachGoals : Type 0
DuelsReachGoals = (domain problem side : List ℕ) (task : LiftedTask) (game : Task) (cert : Cert) (text : List ℕ) (steps : ℕ) (reply : Reply) → DescribeGround (texts domain problem side) task game → IsCertText game cert text
    → IsRight game cert → IsPolicyCert cert → length (rules_of cert) ≤ steps → JobReply (Duel steps) (domain ∷ problem ∷ side ∷ text ∷ []) reply → reply.ending ≡ Done

-- what `demo` prints as done is a certificate of its task between its lines, and the reply of `check` to that, for the same texts,
-- is that it is accepted as lean
abbrev pub DemosAreAccepted : Type 0
DemosAreAccepted = (size : ℕ) (printed : Reply) → JobReply (Demo size) [] printed → printed.ending ≡ Done
    → (task : LiftedTask) × (game : Task) × (cert : List ℕ) × DescribeGround (demo_texts size) task game × (printed.text ≡ demo_text size game cert)
    × ((reply : Reply) → JobReply Check (demo_domain ∷ demo_problem size ∷ demo_side ∷ cert ∷ []) reply → reply ≡ accepted_reply Done)
