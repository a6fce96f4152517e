-- What `graph` replies to the texts of its files.
use Rattle.std.specs.Prelude.{◌↔◌, ◌≤◌, ℕ, List, ◌++◌, Bool, Contains, codes, length, map}
use Rattle.serde_json.specs.Written.{compact_text}
use Rattle.fond_state.specs.Games.{ReachesMore}
use Rattle.fond_ast.specs.declared.task.LiftedTask.{LiftedTask}
use Rattle.fond_ast.specs.States.{State}
use Rattle.fond_ast.specs.Solutions as lifted
use Rattle.fond_task.specs.declared.rule.Rule.{Rule}
use Rattle.fond_task.specs.declared.task.Task.{Task}
use Rattle.fond_task.specs.Policies.{selected}
use Rattle.fond_policy.specs.declared.cert.Cert.{Cert}
use Rattle.fond_reach.specs.Graphs.{IsGraph}
use Rattle.fond_reach.specs.declared.node.Node.{Node}
use Rattle.fond_graph.specs.Drawings.{graph_data}
use Rattle.fond_graph.specs.declared.drawn.Drawn.{Drawn}
use Rattle.fond_graph.specs.declared.drawn.Drawn.TheVariants.{Text, Spent}
use Rattle.fond_succ.specs.Solutions.{rules_policy}
use Rattle.fond_succ.specs.Stands.{stands}
use Rattle.fond_front.specs.Texts.{Texts}
use Rattle.fond_commands.specs.Certified.{CertReply, rules_of}
use Rattle.fond_commands.specs.Replies.{Reply, undecided_reply}
use Rattle.fond_commands.specs.declared.status.Ending.TheVariants.{Done}

-- the reply to what is drawn
abbrev pub drawn_reply : ℕ → Drawn → Reply
drawn_reply limit (Text text) = record { text = text.items; ending = Done }
drawn_reply limit Spent = undecided_reply limit

-- states of the ground task stand for those that rules reach in the task
abbrev pub AreReachedStates : LiftedTask → Task → List Rule → List (List Bool) → Type 0
AreReachedStates task game rules states = (state : State) → lifted.Reach task (rules_policy task game rules) state ↔ Contains (map (stands task) states) state

-- what `graph` answers to a certificate of a task with this ground task: the text of the graph of the states that its rules reach, if there are no
-- more of them than the limit; or that there are more
pub data AnswersGraph (limit : ℕ) (task : LiftedTask) (game : Task) (read : Cert) : Reply → Type 0 where
  drawn : (states : List (List Bool)) (nodes : List Node) → IsGraph game (selected (rules_of read)) states nodes → length states ≤ limit → AreReachedStates task game (rules_of read) states
      → AnswersGraph limit task game read (record { text = compact_text (graph_data game (rules_of read) states nodes) ++ codes "\n"; ending = Done })
  undecided : ReachesMore (lifted.game task) (rules_policy task game (rules_of read)) limit → AnswersGraph limit task game read (undecided_reply limit)

-- what `graph` replies: a refusal of its files, a rejection of the certificate's text, or the answer to the certificate
abbrev pub GraphReply : Texts → List ℕ → ℕ → Reply → Type 0
GraphReply texts cert limit = CertReply texts cert (AnswersGraph limit)
