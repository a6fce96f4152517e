-- Sure items are closed.
use Rattle.std.proofs.Common.{◌≡◌, ℕ, zero, suc, ◌<◌, List, [], ◌∷◌, Bool, true, false, not, Some, length, get_or, refl, sym, ap, ◌∙◌, subst, arith}
use Rattle.std.specs.Prelude.{slice_get, find, option_map, IsSome}
use Rattle.std.proofs.lemmas.Bool.{false≢true, cond-true, cond-false, false_from_ne_true}
use Rattle.std.proofs.lemmas.Option.{none-some, same_Some, slice_get_within, slice_get-get_or}
use Rattle.fond_state.specs.Cubes.{LiesIn, CubeLiesIn, Contradicts, lies_in, truth_at}
use Rattle.fond_state.proofs.Tested.{lies_in-Decides, LiesIn-through}
use Rattle.fond_task.specs.declared.task.Act.{Act}
use Rattle.fond_task.specs.declared.task.Task.{Task}
use Rattle.fond_task.specs.Steps.{next_state}
use Rattle.fond_task.specs.Images.{image}
use Rattle.fond_task.specs.declared.rule.Rule.{Rule}
use Rattle.fond_task.specs.Policies.{IsGoal, IsNext, Reach, start, onward, selected}
use Rattle.fond_task.specs.Layers.{CubeView}
use Rattle.fond_task.proofs.Lists.{number_of, same_numbered}
use Rattle.fond_task.proofs.Ranks.{yes_true}
use Rattle.fond_task.proofs.Reached.{reached_long, next_lies}
use Rattle.fond_policy.proofs.Ruled.{rule_of, first_at}
use Rattle.fond_policy.specs.declared.item.Item.{Item}
use Rattle.fond_policy.specs.declared.item.Way.{Way}
use Rattle.fond_policy.specs.declared.item.Way.TheVariants.{Goal, Rule as ByRule}
use Rattle.fond_policy.specs.Items.{First, first_of, firsts_of, IsFirstOn, IsSureWay, AreSureItems}
use Rattle.fond_policy.specs.Covers.{IsIn, IsInSome}

pub not_opposite : (b : Bool) → ¬ b ≡ not b
not_opposite true is = false≢true (sym is)
not_opposite false is = false≢true is

-- a state of a cube lies in no cube that this one contradicts
lies_not : (state : List Bool) (cube other : CubeView) → LiesIn state cube → Contradicts cube other → lies_in state other ≡ false
lies_not state cube other lies apart = false_from_ne_true (lies_in state other) (λ yes.
    let here : truth_at state apart.0 ≡ apart.1 = lies apart.0 apart.1 apart.2 in
    let there : truth_at state apart.0 ≡ not apart.1 = (lies_in-Decides state other).0 yes apart.0 (not apart.1) apart.3 in
    not_opposite apart.1 (sym here ∙ there))

-- a rule that passes a test, and before which none does, is found
pub found_first : (test : Rule → Bool) (rules : List Rule) (number : ℕ) (rule : Rule) → slice_get rules number ≡ Some rule → test rule ≡ true →
    ((before : ℕ) (other : Rule) → before < number → slice_get rules before ≡ Some other → test other ≡ false) → find test rules ≡ Some rule
found_first test [] number rule is passes none = absurd (none-some rule is)
found_first test (one ∷ rules) zero rule is passes none = cond-true _ _ _ (ap test (same_Some one rule is) ∙ passes) ∙ is
found_first test (one ∷ rules) (suc number) rule is passes none =
    cond-false _ _ _ (none zero one (omega arith) refl)
    ∙ found_first test rules number rule is passes (λ before other lt at. none (suc before) other (omega (arith, lt)) at)

-- in each state of a cube on which a condition is first, its action is chosen
pub chosen_on : (rules : List Rule) (number : ℕ) (cube : CubeView) (on : IsFirstOn (firsts_of rules) number cube) (state : List Bool) → LiesIn state cube → selected rules state ≡ Some on.first.act
chosen_on rules number cube on state lies =
    let rule = rule_of rules number on.first on.numbered in
    let within : CubeLiesIn cube rule.0.cond = subst (λ (f : First). CubeLiesIn cube f.cond) (sym rule.2) on.lies in
    let passes = (lies_in-Decides state rule.0.cond).1 (LiesIn-through state cube rule.0.cond lies within) in
    ap (option_map (λ (r : Rule). r.act)) (found_first (λ r. lies_in state r.cond) rules number rule.0 rule.1 passes (λ before other lt at.
    lies_not state cube other.cond lies (on.apart before (first_of other) lt (first_at rules before other at))))
    ∙ ap (λ (f : First). Some f.act) rule.2

module _ (task : Task) (rules : List Rule) (items : List Item) (sure : AreSureItems task (firsts_of rules) items) where
  -- the action that is chosen in a state of a sure item leads into items
  goes_on : (before : List Bool) → length before ≡ length task.atoms → ¬ IsGoal task before → (cube : CubeView) → LiesIn before cube → (way : Way) → IsSureWay task (firsts_of rules) items cube way →
      (number : ℕ) (after : List Bool) → selected rules before ≡ Some number → IsNext task before number after → IsInSome items after
  goes_on before long open_ cube lies Goal on number after chosen next = absurd (open_ (yes_true before cube task.goal lies on))
  goes_on before long open_ cube lies (ByRule rule numbers) on number after chosen next =
      let picked : number ≡ on.on.first.act = same_Some _ _ (sym chosen ∙ chosen_on rules rule cube on.on before lies) in
      let same : next.act ≡ on.act = same_numbered task.acts number next.act on.act next.numbered (ap (slice_get task.acts) picked ∙ on.has_act) in
      let at = number_of next.act.outcomes next.outcome next.one in
      let has : slice_get on.act.outcomes at.0 ≡ Some next.outcome = ap (λ (a : Act). slice_get a.outcomes at.0) (sym same) ∙ at.1 in
      let within : at.0 < length on.act.outcomes = slice_get_within on.act.outcomes at.0 next.outcome has in
      let target = get_or numbers at.0 0 in
      let into = on.leads.each at.0 target next.outcome (slice_get-get_or numbers at.0 0 (omega (arith, on.leads.counted))) has in
      let lies_next = next_lies task before cube next.act number next.outcome long next.numbered next.one lies in
      let P : List Bool → Type 0 = λ s. LiesIn s into.item.cube in
      (target, record { item = into.item; numbered = into.numbered; lies = subst P (sym next.given) (LiesIn-through (next_state before next.outcome) (image cube next.outcome) into.item.cube lies_next into.lies) })

  module _ (first : ℕ) (starts : IsIn items first task.init) where
    in_some : (state : List Bool) → Reach task (selected rules) state → IsInSome items state
    in_some state start = (first, starts)
    in_some state (onward before number after reached open_ chosen next) =
        let here = in_some before reached in
        let item = here.1.item in
        goes_on before (reached_long task (selected rules) before reached) open_ item.cube here.1.lies item.way (sure here.0 item here.1.numbered) number after chosen next

pub items_closed : (task : Task) (rules : List Rule) (items : List Item) (first : ℕ) (state : List Bool) →
    AreSureItems task (firsts_of rules) items → IsIn items first task.init → Reach task (selected rules) state → IsInSome items state
items_closed task rules items first state sure starts reached = in_some task rules items sure first starts state reached

-- in a state of a sure item that is no goal, a rule holds
ruled_by : (task : Task) (rules : List Rule) (items : List Item) (cube : CubeView) (way : Way) → IsSureWay task (firsts_of rules) items cube way → (state : List Bool) → LiesIn state cube →
    ¬ IsGoal task state → IsSome (selected rules state)
ruled_by task rules items cube Goal on state lies open_ = absurd (open_ (yes_true state cube task.goal lies on))
ruled_by task rules items cube (ByRule rule numbers) on state lies open_ = subst IsSome (sym (chosen_on rules rule cube on.on state lies)) refl

-- in each reached state that is no goal, a rule holds, if the items are sure and the initial state lies in one
pub items_ruled : (task : Task) (rules : List Rule) (items : List Item) (first : ℕ) → AreSureItems task (firsts_of rules) items → IsIn items first task.init →
    (state : List Bool) → Reach task (selected rules) state → ¬ IsGoal task state → IsSome (selected rules state)
items_ruled task rules items first sure starts state reached open_ =
    let here = items_closed task rules items first state sure starts reached in
    let item = here.1.item in
    ruled_by task rules items item.cube item.way (sure here.0 item here.1.numbered) state here.1.lies open_
