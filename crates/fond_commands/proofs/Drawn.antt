-- What `graph` answers to a certificate.
use Rattle.std.proofs.Common.{◌≡◌, ◌++◌, ℕ, Bool, List, map, sym, subst}
use Rattle.std.specs.Prelude.{Contains, codes}
use Rattle.serde_json.specs.Written.{compact_text}
use Rattle.fond_ast.specs.declared.task.LiftedTask.{LiftedTask}
use Rattle.fond_task.specs.declared.rule.Rule.{Rule}
use Rattle.fond_task.specs.declared.task.Task.{Task}
use Rattle.fond_task.specs.Policies.{selected}
use Rattle.fond_task.proofs.Lists.{Contains-map}
use Rattle.fond_policy.specs.declared.cert.Cert.{Cert}
use Rattle.fond_ground.specs.Grounds.{IsGroundOf}
use Rattle.fond_reach.specs.Graphs.{IsGraph}
use Rattle.fond_reach.specs.declared.node.Node.{Node}
use Rattle.fond_graph.specs.Drawings.{IsDrawn, graph_data}
use Rattle.fond_graph.specs.declared.drawn.Drawn.{Drawn}
use Rattle.fond_graph.specs.declared.drawn.Drawn.TheVariants.{Text, Spent}
use Rattle.fond_succ.specs.Stands.{stands}
use Rattle.fond_succ.proofs.Between.{ground-tasks-agree}
use Rattle.fond_succ.proofs.Lists.{Contains-from_map}
use Rattle.fond_commands.specs.Certified.{rules_of}
use Rattle.fond_commands.specs.Drawn.{AnswersGraph, AreReachedStates, drawn_reply}
use Rattle.fond_commands.specs.Replies.{Reply}
use Rattle.fond_commands.specs.declared.status.Ending.TheVariants.{Done}

-- the states of a graph stand for those that the rules reach in the task
reached_states : (task : LiftedTask) (game : Task) (is : IsGroundOf task game) (rules : List Rule) (states : List (List Bool)) (nodes : List Node) → IsGraph game (selected rules) states nodes → AreReachedStates task game rules states
reached_states task game is rules states nodes graph state = (
  λ reached.
      let from = ((ground-tasks-agree task game is).reached (selected rules) state).0 reached in
      subst (Contains (map (stands task) states)) (sym from.2) (Contains-map (stands task) states from.0 (graph.all from.0 from.1)),
  λ has.
      let from = Contains-from_map (stands task) states state has in
      ((ground-tasks-agree task game is).reached (selected rules) state).1 (from.0, graph.reached from.0 from.1, from.2),
)

answer_of : (limit : ℕ) (task : LiftedTask) (game : Task) (read : Cert) (is : IsGroundOf task game) (drawn : Drawn) → IsDrawn game (rules_of read) limit drawn → AnswersGraph limit task game read (drawn_reply limit drawn)
answer_of limit task game read is (Text text) h =
    subst (AnswersGraph limit task game read) {x = record { text = compact_text (graph_data game (rules_of read) h.0 h.1) ++ codes "\n"; ending = Done }} {y = record { text = text.items; ending = Done }} (λ i. record { text = sym h.4 i; ending = Done })
    (AnswersGraph.drawn h.0 h.1 h.2 h.3 (reached_states task game is (rules_of read) h.0 h.1 h.2))
answer_of limit task game read is Spent more = AnswersGraph.undecided (((ground-tasks-agree task game is).reaches_more (selected (rules_of read)) limit).0 more)

-- what is drawn is the answer
pub drawn_answer : (limit : ℕ) (task : LiftedTask) (game : Task) (read : Cert) (is : IsGroundOf task game) (reply : Reply) → (drawn : Drawn) × IsDrawn game (rules_of read) limit drawn × (reply ≡ drawn_reply limit drawn) → AnswersGraph limit task game read reply
drawn_answer limit task game read is reply h = subst (AnswersGraph limit task game read) (sym h.2) (answer_of limit task game read is h.0 h.1)
