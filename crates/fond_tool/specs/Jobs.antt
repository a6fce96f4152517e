-- What each job replies.
use Rattle.std.specs.Prelude.{ℕ, List, [], ◌∷◌}
use Rattle.fond_front.specs.Texts.{Texts}
use Rattle.fond_succ.specs.Actions.{names_of}
use Rattle.fond_commands.specs.declared.words.Job.{Job}
use Rattle.fond_commands.specs.declared.words.Job.TheVariants.{Succ, Run, Check, Plan, Migrate, Simulate, Demo, Explain, Graph, Duel, Rate, Best}
use Rattle.fond_commands.specs.Checks.{CheckReply}
use Rattle.fond_commands.specs.Drawn.{GraphReply}
use Rattle.fond_commands.specs.Duels.{DuelReply}
use Rattle.fond_commands.specs.Explanations.{ExplainReply}
use Rattle.fond_tool.specs.Bests.{BestReply}
use Rattle.fond_tool.specs.Demos.{DemoReply}
use Rattle.fond_commands.specs.Migrations.{MigrateReply}
use Rattle.fond_tool.specs.Plans.{PlanReply}
use Rattle.fond_commands.specs.Ratings.{RateReply}
use Rattle.fond_commands.specs.Replies.{Reply}
use Rattle.fond_commands.specs.Runs.{RunReply}
use Rattle.fond_commands.specs.Simulations.{SimulateReply}
use Rattle.fond_commands.specs.Successors.{SuccReply}

-- the texts of a domain, a problem and a side list
abbrev pub texts : List ℕ → List ℕ → List ℕ → Texts
texts domain problem side = record { domain = domain; problem = problem; side = side }

-- what a job replies to the contents of its files, in order; the side list of `succ` is empty
abbrev pub JobReply : Job → List (List ℕ) → Reply → Type 0
JobReply (Succ action) (domain ∷ problem ∷ []) = SuccReply (texts domain problem []) (names_of action)
JobReply Run (domain ∷ problem ∷ side ∷ cert ∷ script ∷ []) = RunReply (texts domain problem side) cert script
JobReply Check (domain ∷ problem ∷ side ∷ cert ∷ []) = CheckReply (texts domain problem side) cert
JobReply (Plan budget) (domain ∷ problem ∷ side ∷ []) = PlanReply (texts domain problem side) budget
JobReply Migrate (domain ∷ problem ∷ side ∷ cert ∷ []) = MigrateReply (texts domain problem side) cert
JobReply (Simulate seed steps) (domain ∷ problem ∷ side ∷ cert ∷ []) = SimulateReply (texts domain problem side) cert seed steps
JobReply (Demo size) [] = DemoReply size
JobReply (Explain limit) (domain ∷ problem ∷ side ∷ table ∷ []) = ExplainReply (texts domain problem side) table limit
JobReply (Graph limit) (domain ∷ problem ∷ side ∷ cert ∷ []) = GraphReply (texts domain problem side) cert limit
JobReply (Duel steps) (domain ∷ problem ∷ side ∷ cert ∷ []) = DuelReply (texts domain problem side) cert steps
JobReply Rate (domain ∷ problem ∷ side ∷ cert ∷ []) = RateReply (texts domain problem side) cert
JobReply (Best budget) (domain ∷ problem ∷ side ∷ []) = BestReply (texts domain problem side) budget
JobReply job contents = λ reply. ⊥
