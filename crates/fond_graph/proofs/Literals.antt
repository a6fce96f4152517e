-- The texts of objects with the names of their members.
use Rattle.std.proofs.Common.{◌≡◌, ℕ, List, [], ◌∷◌, ◌++◌, Bool, false, map, refl, sym, ap, ◌∙◌, append_assoc}
use Rattle.std.specs.List.{enumerate_from, flat_map}
use Rattle.std.specs.Prelude.{codes, decimal}
use Rattle.serde_json.specs.Data.{Data, boolean, string}
use Rattle.serde_json.specs.Written.{compact_text, items_text}
use Rattle.serde_json.proofs.OnLiterals.{serde_json_on_literals}
use Rattle.fond_task.specs.declared.rule.Rule.{Rule}
use Rattle.fond_task.specs.declared.task.Task.{Task}
use Rattle.fond_reach.specs.declared.node.Node.{Node}
use Rattle.fond_graph.specs.Drawings.{edge_data, edges_of, graph_data, is_goal_node, items_of, node_data, nodes_data, rule_data, true_texts}
use Rattle.fond_graph.specs.Parts.{listed}
use Rattle.fond_graph.proofs.Listing.{listed_items}

pub edge_text : (from outcome to : ℕ) →
    codes "{\"from\":" ++ (decimal from ++ (codes ",\"outcome\":" ++ (decimal outcome ++ (codes ",\"to\":" ++ (decimal to ++ codes "}"))))) ≡ compact_text (edge_data from outcome to)
unfolding serde_json_on_literals
edge_text from outcome to = refl

-- an array at the beginning of an object, and what comes after it
closed : (values : List Data) (rest : List ℕ) → listed false values ++ (93 ∷ rest) ≡ items_text false (items_of values) ++ rest
closed values rest = sym (append_assoc (listed false values) (93 ∷ []) rest) ∙ ap (λ (t : List ℕ). t ++ rest) (sym (listed_items false values))

pub node_text : (task : Task) (rules : List Rule) (state : List Bool) (node : Node) →
    codes "{\"atoms\":[" ++ (listed false (map string (true_texts task state)) ++ (codes "],\"goal\":" ++ (compact_text (boolean (is_goal_node node)) ++ (codes ",\"rule\":" ++ (compact_text (rule_data rules state node) ++ codes "}")))))
    ≡ compact_text (node_data task rules state node)
unfolding serde_json_on_literals
node_text task rules state node =
    ap (λ (t : List ℕ). codes "{\"atoms\":[" ++ t) (closed (map string (true_texts task state)) (codes ",\"goal\":" ++ (compact_text (boolean (is_goal_node node)) ++ (codes ",\"rule\":" ++ (compact_text (rule_data rules state node) ++ codes "}")))))

pub graph_text : (task : Task) (rules : List Rule) (states : List (List Bool)) (nodes : List Node) →
    codes "{\"edges\":[" ++ (listed false (flat_map (λ item. edges_of item.0 item.1) (enumerate_from 0 nodes)) ++ (codes "],\"nodes\":[" ++ (listed false (nodes_data task rules states nodes) ++ codes "]}\n")))
    ≡ compact_text (graph_data task rules states nodes) ++ codes "\n"
unfolding serde_json_on_literals
graph_text task rules states nodes =
    let edges = flat_map (λ item. edges_of item.0 item.1) (enumerate_from 0 nodes) in
    let drawn = nodes_data task rules states nodes in
    ap (λ (t : List ℕ). codes "{\"edges\":[" ++ t)
    (closed edges (codes ",\"nodes\":[" ++ (listed false drawn ++ codes "]}\n"))
    ∙ ap (λ (t : List ℕ). items_text false (items_of edges) ++ (codes ",\"nodes\":[" ++ t)) (closed drawn (codes "}\n") ∙ sym (append_assoc (items_text false (items_of drawn)) (codes "}") (codes "\n")))
    ∙ sym (append_assoc (items_text false (items_of edges)) (codes ",\"nodes\":[" ++ (items_text false (items_of drawn) ++ codes "}")) (codes "\n")))
