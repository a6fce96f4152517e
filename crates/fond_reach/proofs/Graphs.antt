-- The walk that makes the graph of a policy.
use Rattle.std.proofs.Common.{◌≡◌, ℕ, ◌+◌, ◌<◌, ◌≤◌, List, [], ◌∷◌, ◌++◌, Bool, Some, length, take, slice_get, take_all, refl, sym, ap, ◌∙◌, subst, ⊎_elim, arith}
use Rattle.std.specs.List.{AllZip, flat_map}
use Rattle.std.specs.Prelude.{Contains}
use Rattle.std.proofs.lemmas.Grind.{flat_map-append}
use Rattle.std.proofs.lemmas.List.{append-nil, length-append, take-append-le}
use Rattle.std.proofs.lemmas.Option.{same_Some, slice_get_within}
use Rattle.fond_text.specs.Lists.{AreDistinct}
use Rattle.fond_games.specs.Renaming.{FirstUsed}
use Rattle.fond_task.specs.declared.task.Task.{Task}
use Rattle.fond_task.specs.declared.task.Act.{Act}
use Rattle.fond_task.specs.Policies.{IsGoal, IsNext, Policy, Reach, start, onward}
use Rattle.fond_task.specs.Steps.{next_state}
use Rattle.fond_task.proofs.Lists.{Contains_numbered, Contains-cases, number_of}
use Rattle.fond_policy.specs.Walks.{Grows}
use Rattle.fond_policy.proofs.Walking.{grown_cases, grown_keeps}
use Rattle.fond_reach.specs.declared.node.Node.{Node}
use Rattle.fond_reach.specs.declared.node.Node.TheVariants.{Goal, Stuck, Acts}
use Rattle.fond_reach.specs.Graphs.{IsGraph, IsNode, Leads, numbers_after}
use Rattle.fond_reach.proofs.Numbering.{first_joined}
use Rattle.fond_reach.proofs.Pairs.{zip_at, zip_more, zip_weaker}

abbrev States : Type 0
States = List (List Bool)

module _ (task : Task) (policy : Policy) where
  -- a state comes next by the choice in a state that is no goal
  abbrev pub IsChosenNext : List Bool → List Bool → Type 0
  IsChosenNext state after = (¬ IsGoal task state) × ((act : ℕ) × (policy state ≡ Some act) × IsNext task state act after)

  -- the first states have their nodes, all states are reached, and they come in the order in which the nodes first lead to them
  pub record IsBegun (states : States) (nodes : List Node) : Type 0 where
    pub first : slice_get states 0 ≡ Some task.init
    pub reached : (state : List Bool) → Contains states state → Reach task policy state
    pub told : AllZip (IsNode task policy states) (take (length nodes) states) nodes
    pub ordered : FirstUsed 1 (flat_map numbers_after nodes) (length states)

  -- a node tells the same once states are added
  node_kept : (old new : States) → ((number : ℕ) (state : List Bool) → slice_get old number ≡ Some state → slice_get new number ≡ Some state) → (state : List Bool) (node : Node) → IsNode task policy old state node → IsNode task policy new state node
  node_kept old new kept state Goal is = is
  node_kept old new kept state Stuck is = is
  node_kept old new kept state (Acts number nexts) is = (
    is.0,
    is.1,
    record {
      act = is.2.act;
      numbered = is.2.numbered;
      holds = is.2.holds;
      each = zip_weaker (Leads old state) (Leads new state) is.2.act.outcomes nexts (λ outcome next at. kept next (next_state state outcome) at) is.2.each;
    },
  )

  -- one state alone
  pub begun : (states : States) (nodes : List Node) → states ≡ task.init ∷ [] → nodes ≡ [] → IsBegun states nodes
  begun states nodes is none = subst (IsBegun states) (sym none) (subst (λ (s : States). IsBegun s []) (sym is) (record {
    first = refl;
    reached = λ state has. ⊎_elim
        (λ (same : task.init ≡ state). subst (λ (s : List Bool). Reach task policy s) same start)
        (λ later. absurd (omega (arith, later.1)))
        (Contains-cases state task.init [] has);
    told = tt;
    ordered = refl;
  }))

  -- one state more has its node
  pub told_more : (old new : States) (nodes more : List Node) (state : List Bool) (node : Node) → slice_get old (length nodes) ≡ Some state → Grows (IsChosenNext state) old new → IsNode task policy new state node → FirstUsed (length old) (numbers_after node) (length new)
      → more ≡ nodes ++ node ∷ [] → IsBegun old nodes → IsBegun new more
  told_more old new nodes more state node at grown is first made so_far =
      let kept = grown_keeps (IsChosenNext state) old new grown in
      let within : length nodes < length old = slice_get_within old (length nodes) state at in
      let same : take (length nodes) new ≡ take (length nodes) old = ap (take (length nodes)) grown.1 ∙ take-append-le (length nodes) old grown.0 (omega (arith, within)) in
      let before : AllZip (IsNode task policy new) (take (length nodes) new) nodes =
      subst (λ (front : States). AllZip (IsNode task policy new) front nodes) (sym same) (zip_weaker (IsNode task policy old) (IsNode task policy new) (take (length nodes) old) nodes (node_kept old new kept) so_far.told) in
      let counted : length more ≡ length nodes + 1 = ap length made ∙ length-append nodes (node ∷ []) in
      let numbers : flat_map numbers_after more ≡ flat_map numbers_after nodes ++ numbers_after node =
      ap (flat_map numbers_after) made ∙ flat_map-append numbers_after nodes (node ∷ []) ∙ ap (λ (ns : List ℕ). flat_map numbers_after nodes ++ ns) (append-nil (numbers_after node)) in
      record {
        first = kept 0 task.init so_far.first;
        reached = λ after has. ⊎_elim
            (λ was. so_far.reached after was)
            (λ added. onward state added.1.0 after (so_far.reached state (Contains_numbered old (length nodes) state at)) added.0 added.1.1 added.1.2)
            (grown_cases (IsChosenNext state) old new grown after has);
        told = subst (λ n. AllZip (IsNode task policy new) (take n new) more) (sym counted)
            (zip_more (IsNode task policy new) new (length nodes) state nodes more node (kept (length nodes) state at) made is before);
        ordered = subst (λ (ns : List ℕ). FirstUsed 1 ns (length new)) (sym numbers)
            (first_joined 1 (flat_map numbers_after nodes) (length old) (numbers_after node) (length new) so_far.ordered first);
      }

  module _ (states : States) (nodes : List Node) (so_far : IsBegun states nodes) (end : length states ≤ length nodes) where
    told_all : AllZip (IsNode task policy states) states nodes
    told_all = subst (λ (front : States). AllZip (IsNode task policy states) front nodes) (take_all (length nodes) states end) so_far.told

    -- what comes next from a state with a node is there
    next_there : (state : List Bool) (act : ℕ) (after : List Bool) (node : Node) → IsNode task policy states state node → ¬ IsGoal task state → policy state ≡ Some act → IsNext task state act after → Contains states after
    next_there state act after Goal is open_ chosen next = absurd (open_ is)
    next_there state act after Stuck is open_ chosen next = absurd (is.1 act chosen (record { act = next.act; numbered = next.numbered; holds = next.holds }))
    next_there state act after (Acts number nexts) is open_ chosen next =
        let same : number ≡ act = same_Some number act (sym is.1 ∙ chosen) in
        let own : is.2.act ≡ next.act = same_Some is.2.act next.act (sym is.2.numbered ∙ ap (slice_get task.acts) same ∙ next.numbered) in
        let at = number_of next.act.outcomes next.outcome next.one in
        let found = zip_at (Leads states state) is.2.act.outcomes nexts is.2.each at.0 next.outcome (ap (λ (a : Act). slice_get a.outcomes at.0) own ∙ at.1) in
        subst (λ (s : List Bool). Contains states s) (sym next.given) (Contains_numbered states found.0 (next_state state next.outcome) found.2)

    -- each reached state is there
    reached_there : (state : List Bool) → Reach task policy state → Contains states state
    reached_there state start = Contains_numbered states 0 task.init so_far.first
    reached_there state (onward before act after reached open_ chosen next) =
        let at = number_of states before (reached_there before reached) in
        let node = zip_at (IsNode task policy states) states nodes told_all at.0 before at.1 in
        next_there before act after node.0 node.2 open_ chosen next

    pub whole : AreDistinct states → IsGraph task policy states nodes
    whole distinct = record { first = so_far.first; once = distinct; reached = so_far.reached; all = reached_there; told = told_all; ordered = so_far.ordered }
