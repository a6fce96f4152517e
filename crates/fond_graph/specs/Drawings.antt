-- The graph that rules reach, as a JSON value.
use Rattle.std.specs.Prelude.{◌≡◌, ◌≤◌, ℕ, List, [], ◌∷◌, ◌++◌, Bool, true, false, codes, if◌then◌else◌, length, map}
use Rattle.std.specs.List.{enumerate_from, flat_map}
use Rattle.std.specs.Option.{option_map_or}
use Rattle.serde_json.specs.Data.{Data, null, boolean, number, unsigned, string, array, object, Items, no_items, item, no_members, member}
use Rattle.serde_json.specs.Written.{compact_text}
use Rattle.fond_state.specs.Cubes.{truth_at}
use Rattle.fond_task.specs.declared.rule.Rule.{Rule}
use Rattle.fond_task.specs.declared.task.Task.{Task}
use Rattle.fond_task.specs.Policies.{selected}
use Rattle.fond_task.specs.Texts.{atom_text}
use Rattle.fond_rules.specs.Select.{selected_rule}
use Rattle.fond_policy.specs.Counts.{ReachesMore}
use Rattle.fond_reach.specs.Graphs.{IsGraph}
use Rattle.fond_reach.specs.declared.node.Node.{Node}
use Rattle.fond_reach.specs.declared.node.Node.TheVariants.{Goal, Acts}
use Rattle.fond_graph.specs.declared.drawn.Drawn.{Drawn}
use Rattle.fond_graph.specs.declared.drawn.Drawn.TheVariants.{Text, Spent}

-- values as the items of an array
abbrev pub items_of : List Data → Items
items_of [] = no_items
items_of (value ∷ values) = item value (items_of values)

-- an array of values
abbrev pub array_of : List Data → Data
array_of values = array (items_of values)

-- a number as a value
abbrev pub number_data : ℕ → Data
number_data n = number (unsigned n)

-- an edge: the number of its node, that of the outcome, and that of the node to which it leads
abbrev pub edge_data : ℕ → ℕ → ℕ → Data
edge_data from outcome to = object (member (codes "from") (number_data from) (member (codes "outcome") (number_data outcome) (member (codes "to") (number_data to) no_members)))

-- the edges of the node of a number, outcome by outcome
abbrev pub edges_of : ℕ → Node → List Data
edges_of from (Acts act nexts) = map (λ item. edge_data from item.0 item.1) (enumerate_from 0 nexts)
edges_of from node = []

-- the texts of the atoms that are true in a state, in order
abbrev pub true_texts : Task → List Bool → List (List ℕ)
true_texts task state = flat_map (λ item. if truth_at state item.0 then atom_text task.labels item.1 ∷ [] else []) (enumerate_from 0 task.atoms)

-- whether a node is a goal
abbrev pub is_goal_node : Node → Bool
is_goal_node Goal = true
is_goal_node node = false

-- the rule that is followed at a node: the first one that holds, and none at a goal and where the rules are stuck
abbrev pub rule_data : List Rule → List Bool → Node → Data
rule_data rules state (Acts act nexts) = option_map_or number_data (selected_rule rules state) null
rule_data rules state node = null

-- a node: the texts of its true atoms, whether it is a goal, and its rule
abbrev pub node_data : Task → List Rule → List Bool → Node → Data
node_data task rules state node =
    object (member (codes "atoms") (array_of (map string (true_texts task state))) (member (codes "goal") (boolean (is_goal_node node)) (member (codes "rule") (rule_data rules state node) no_members)))

-- the nodes of states
abbrev pub nodes_data : Task → List Rule → List (List Bool) → List Node → List Data
nodes_data task rules (state ∷ states) (node ∷ nodes) = node_data task rules state node ∷ nodes_data task rules states nodes
nodes_data task rules states nodes = []

-- a graph: its edges, node by node, and its nodes
abbrev pub graph_data : Task → List Rule → List (List Bool) → List Node → Data
graph_data task rules states nodes =
    object (member (codes "edges") (array_of (flat_map (λ item. edges_of item.0 item.1) (enumerate_from 0 nodes))) (member (codes "nodes") (array_of (nodes_data task rules states nodes)) no_members))

-- what is drawn of the states that rules reach: the compact text of their graph with a line feed, if there are no more of them than a limit
abbrev pub IsDrawn : Task → List Rule → ℕ → Drawn → Type 0
IsDrawn task rules limit (Text text) =
    (states : List (List Bool)) × (nodes : List Node) × IsGraph task (selected rules) states nodes × (length states ≤ limit) × (text.items ≡ compact_text (graph_data task rules states nodes) ++ codes "\n")
IsDrawn task rules limit Spent = ReachesMore task (selected rules) limit
