-- A state has the least rank of the items in which it lies, and these ranks are a ranking.
use Rattle.std.proofs.Common.{◌≡◌, ℕ, zero, suc, ◌<◌, ◌≤◌, List, [], ◌∷◌, Bool, true, false, Option, Some, None, get_or, length, refl, sym, ap, ◌∙◌, subst, ⊎_elim, inl, inr, arith}
use Rattle.std.specs.Prelude.{slice_get, Contains, min, ◌⊎◌}
use Rattle.std.proofs.lemmas.Bool.{cases_Bool, cases_lt}
use Rattle.std.proofs.lemmas.Option.{none-some, same_Some, slice_get_within, slice_get-get_or}
use Rattle.fond_state.specs.Cubes.{LiesIn, lies_in}
use Rattle.fond_state.proofs.Tested.{lies_in-Decides, LiesIn-through}
use Rattle.fond_task.specs.declared.task.Act.{Act}
use Rattle.fond_task.specs.declared.task.Entry.{Entry}
use Rattle.fond_task.specs.declared.task.Task.{Task}
use Rattle.fond_task.specs.Steps.{next_state}
use Rattle.fond_task.specs.Images.{image}
use Rattle.fond_task.specs.declared.rule.Rule.{Rule}
use Rattle.fond_task.specs.Policies.{IsGoal, IsNext, Reach, game, selected}
use Rattle.fond_task.specs.Solutions.{IsSolution}
use Rattle.fond_task.specs.Layers.{CubeView}
use Rattle.fond_task.proofs.Lists.{number_of, same_numbered, Contains_numbered}
use Rattle.fond_task.proofs.Ranks.{yes_true}
use Rattle.fond_task.proofs.Reached.{reached_long, next_lies}
use Rattle.fond_policy.specs.declared.item.Item.{Item}
use Rattle.fond_policy.specs.declared.item.Way.{Way}
use Rattle.fond_policy.specs.declared.item.Way.TheVariants.{Goal, Rule as ByRule}
use Rattle.fond_policy.specs.Items.{First, first_of, firsts_of, IsSureWay, AreSureItems}
use Rattle.fond_policy.specs.Covers.{IsIn, IsInSome}
use Rattle.fond_policy.proofs.Ruled.{rule_of}
use Rattle.fond_policy.proofs.Closed.{items_closed, chosen_on}
use Rattle.fond_games.specs.Rankings.{IsRanking}
use Rattle.fond_games.specs.Rankings as rankings
use Rattle.fond_best.specs.Certificates.{IsNearer, IsRankedWay, IsRankedRule, AreRanked}

-- the lesser of a rank, if it counts, and another, if there is one
abbrev lesser : Bool → ℕ → Option ℕ → Option ℕ
lesser false rank rest = rest
lesser true rank None = Some rank
lesser true rank (Some other) = Some (min rank other)

-- the least rank of the items in which a state lies, if it lies in one
least_of : List Item → List ℕ → List Bool → Option ℕ
least_of [] ranks state = None
least_of (item ∷ items) [] state = None
least_of (item ∷ items) (rank ∷ ranks) state = lesser (lies_in state item.cube) rank (least_of items ranks state)

-- the number of an option, 0 if there is none
abbrev or_zero : Option ℕ → ℕ
or_zero None = 0
or_zero (Some n) = n

-- the rank of a state by items
pub rank_by : List Item → List ℕ → List Bool → ℕ
rank_by items ranks state = or_zero (least_of items ranks state)

-- there is a least rank, and it is no more than this one
abbrev AtMost : Option ℕ → ℕ → Type 0
AtMost found rank = (least : ℕ) × (found ≡ Some least) × (least ≤ rank)

more_at_most : (counts : Bool) (other rank : ℕ) (found : Option ℕ) → AtMost found rank → AtMost (lesser counts other found) rank
more_at_most false other rank found small = small
more_at_most true other rank found small = (min other small.0, ap (lesser true other) small.1, omega (arith, small.2))

here_at_most : (rank : ℕ) (found : Option ℕ) → AtMost (lesser true rank found) rank
here_at_most rank None = (rank, refl, omega arith)
here_at_most rank (Some other) = (min rank other, refl, omega arith)

least_at_most : (items : List Item) (ranks : List ℕ) (state : List Bool) (number : ℕ) (item : Item) (rank : ℕ) → slice_get items number ≡ Some item → slice_get ranks number ≡ Some rank → lies_in state item.cube ≡ true → AtMost (least_of items ranks state) rank
unfolding least_of
least_at_most [] ranks state number item rank is has lies = absurd (none-some item is)
least_at_most (one ∷ items) [] state number item rank is has lies = absurd (none-some rank has)
least_at_most (one ∷ items) (first ∷ ranks) state zero item rank is has lies =
    let same_item : one ≡ item = same_Some one item is in
    let same_rank : first ≡ rank = same_Some first rank has in
    let counts : lies_in state one.cube ≡ true = ap (λ (i : Item). lies_in state i.cube) same_item ∙ lies in
    let P : Bool → Type 0 = λ b. AtMost (lesser b first (least_of items ranks state)) rank in
    subst P (sym counts) (subst (AtMost (lesser true first (least_of items ranks state))) same_rank (here_at_most first (least_of items ranks state)))
least_at_most (one ∷ items) (first ∷ ranks) state (suc number) item rank is has lies =
    more_at_most (lies_in state one.cube) first rank (least_of items ranks state) (least_at_most items ranks state number item rank is has lies)

-- a least rank is that of an item in which the state lies
pub record IsRankHere (items : List Item) (ranks : List ℕ) (state : List Bool) (rank : ℕ) : Type 0 where
  pub number : ℕ
  pub item : Item
  pub numbered : slice_get items number ≡ Some item
  pub has_rank : slice_get ranks number ≡ Some rank
  pub lies : lies_in state item.cube ≡ true

later : (one : Item) (first : ℕ) (items : List Item) (ranks : List ℕ) (state : List Bool) (rank : ℕ) → IsRankHere items ranks state rank → IsRankHere (one ∷ items) (first ∷ ranks) state rank
later one first items ranks state rank here = record { number = suc here.number; item = here.item; numbered = here.numbered; has_rank = here.has_rank; lies = here.lies }

from_lesser : (one : Item) (first : ℕ) (items : List Item) (ranks : List ℕ) (state : List Bool) (rank : ℕ) (counts : Bool) (found : Option ℕ) → lies_in state one.cube ≡ counts →
    ((other : ℕ) → found ≡ Some other → IsRankHere items ranks state other) → lesser counts first found ≡ Some rank → IsRankHere (one ∷ items) (first ∷ ranks) state rank
from_lesser one first items ranks state rank false found is rest same = later one first items ranks state rank (rest rank same)
from_lesser one first items ranks state rank true None is rest same = record { number = zero; item = one; numbered = refl; has_rank = same; lies = is }
from_lesser one first items ranks state rank true (Some other) is rest same =
    let least : min first other ≡ rank = same_Some (min first other) rank same in
    ⊎_elim
    (λ own. record { number = zero; item = one; numbered = refl; has_rank = ap Some own; lies = is })
    (λ behind. later one first items ranks state rank (rest rank (ap Some behind)))
    (either first other rank least)
  where
    either : (a b n : ℕ) → min a b ≡ n → (a ≡ n) ⊎ (b ≡ n)
    either a b n is = ⊎_elim (λ lt. inl (omega (arith, is, lt))) (λ ge. inr (omega (arith, is, ge))) (cases_lt a b)

least_here : (items : List Item) (ranks : List ℕ) (state : List Bool) (rank : ℕ) → least_of items ranks state ≡ Some rank → IsRankHere items ranks state rank
unfolding least_of
least_here [] ranks state rank is = absurd (none-some rank is)
least_here (one ∷ items) [] state rank is = absurd (none-some rank is)
least_here (one ∷ items) (first ∷ ranks) state rank is =
    from_lesser one first items ranks state rank (lies_in state one.cube) (least_of items ranks state) refl (least_here items ranks state) is

-- a state of an item has no greater rank than the item
pub ranked_at_most : (items : List Item) (ranks : List ℕ) (state : List Bool) (number : ℕ) (item : Item) (rank : ℕ) → slice_get items number ≡ Some item → slice_get ranks number ≡ Some rank → LiesIn state item.cube → rank_by items ranks state ≤ rank
unfolding rank_by
ranked_at_most items ranks state number item rank is has lies =
    let small = least_at_most items ranks state number item rank is has ((lies_in-Decides state item.cube).1 lies) in
    let same : rank_by items ranks state ≡ small.0 = ap or_zero small.1 in
    omega (arith, same, small.2)

-- a state that lies in some item has the rank of one in which it lies
pub ranked_here : (items : List Item) (ranks : List ℕ) (state : List Bool) → length ranks ≡ length items → IsInSome items state → IsRankHere items ranks state (rank_by items ranks state)
unfolding rank_by
ranked_here items ranks state counted in_some =
    let number = in_some.0 in
    let item = in_some.1.item in
    let within = slice_get_within items number item in_some.1.numbered in
    let has = slice_get-get_or ranks number 0 (omega (arith, counted, within)) in
    let small = least_at_most items ranks state number item (get_or ranks number 0) in_some.1.numbered has ((lies_in-Decides state item.cube).1 in_some.1.lies) in
    subst (IsRankHere items ranks state) (sym (ap or_zero small.1)) (least_here items ranks state small.0 small.1)

module _ (task : Task) (rules : List Rule) (items : List Item) (ranks : List ℕ) (start : ℕ) (sure : AreSureItems task (firsts_of rules) items) (starts : IsIn items start task.init) (solution : IsSolution task (selected rules)) (ranked : AreRanked task rules items ranks) where
  abbrev rank : List Bool → ℕ
  rank = rank_by items ranks

  -- a reached state that is no goal lies in an item by a rule that has its rank
  record IsPlaced (state : List Bool) : Type 0 where
    cube : CubeView
    rule : ℕ
    numbers : List ℕ
    lies : LiesIn state cube
    on : IsSureWay task (firsts_of rules) items cube (ByRule rule numbers)
    is_ranked : IsRankedRule task rules items ranks (rank state) rule numbers

  by_way : (state : List Bool) (cube : CubeView) (way : Way) → ¬ IsGoal task state → LiesIn state cube → IsSureWay task (firsts_of rules) items cube way → IsRankedWay task rules items ranks (rank state) way → IsPlaced state
  by_way state cube Goal open_ lies on is_ranked = absurd (open_ (yes_true state cube task.goal lies on))
  by_way state cube (ByRule rule numbers) open_ lies on is_ranked = record { cube = cube; rule = rule; numbers = numbers; lies = lies; on = on; is_ranked = is_ranked }

  placed : (state : List Bool) → Reach task (selected rules) state → ¬ IsGoal task state → IsPlaced state
  placed state reached open_ =
      let here = ranked_here items ranks state ranked.counted (items_closed task rules items start state sure starts reached) in
      by_way state here.item.cube here.item.way open_ ((lies_in-Decides state here.item.cube).0 here.lies) (sure here.number here.item here.numbered) (ranked.each here.number here.item (rank state) here.numbered here.has_rank)

  -- a state of an item that is nearer than a rank is a goal or has a smaller one
  nearer : (bound number : ℕ) (after : List Bool) → IsNearer items ranks bound number → (item : Item) → slice_get items number ≡ Some item → LiesIn after item.cube → IsGoal task after ⊎ (rank after < bound)
  nearer bound number after near item is lies =
      let same : near.item ≡ item = same_numbered items number near.item item near.numbered is in
      let within : LiesIn after near.item.cube = subst (λ (i : Item). LiesIn after i.cube) (sym same) lies in
      ⊎_elim
      (λ goal. inl (yes_true after near.item.cube task.goal within (subst (IsSureWay task (firsts_of rules) items near.item.cube) goal (sure number near.item near.numbered))))
      (λ less. let small = ranked_at_most items ranks after number near.item less.0 near.numbered less.1 within in inr (omega (arith, small, less.2)))
      near.nearer

  module _ (state : List Bool) (reached : Reach task (selected rules) state) (open_ : ¬ IsGoal task state) (choice : ℕ) (chosen : selected rules state ≡ Some choice) where
    here : IsPlaced state
    here = placed state reached open_

    picked : choice ≡ here.on.on.first.act
    picked = same_Some _ _ (sym chosen ∙ chosen_on rules here.rule here.cube here.on.on state here.lies)

    has_act : slice_get task.acts choice ≡ Some here.on.act
    has_act = ap (slice_get task.acts) picked ∙ here.on.has_act

    -- the action by which the item is ranked is the chosen one
    same_act : here.is_ranked.act ≡ here.on.act
    same_act =
        let one = rule_of rules here.rule here.on.on.first here.on.on.numbered in
        let same : here.is_ranked.rule ≡ one.0 = same_numbered rules here.rule here.is_ranked.rule one.0 here.is_ranked.has_rule one.1 in
        let number : here.is_ranked.rule.act ≡ here.on.on.first.act = ap (λ (r : Rule). r.act) same ∙ ap (λ (f : First). f.act) one.2 in
        same_numbered task.acts here.is_ranked.rule.act here.is_ranked.act here.on.act here.is_ranked.has_act (ap (slice_get task.acts) number ∙ here.on.has_act)

    unfair_flag : here.is_ranked.act.unfair ≡ true → (game task).IsUnfair choice
    unfair_flag is = record { act = here.on.act; numbered = has_act; flagged = sym (ap (λ (a : Act). a.unfair) same_act) ∙ is }

    flag_unfair : (game task).IsUnfair choice → here.is_ranked.act.unfair ≡ true
    flag_unfair unfair = ap (λ (a : Act). a.unfair) (same_act ∙ same_numbered task.acts choice here.on.act unfair.act has_act unfair.numbered) ∙ unfair.flagged

    -- an outcome leads into the item of the number at its place
    into : (at number : ℕ) (outcome : List Entry) → slice_get here.numbers at ≡ Some number → slice_get here.on.act.outcomes at ≡ Some outcome → IsIn items number (next_state state outcome)
    into at number outcome has is =
        let goes = here.on.leads.each at number outcome has is in
        let lies_next = next_lies task state here.cube here.on.act choice outcome (reached_long task (selected rules) state reached) has_act (Contains_numbered here.on.act.outcomes at outcome is) here.lies in
        record { item = goes.item; numbered = goes.numbered; lies = LiesIn-through (next_state state outcome) (image here.cube outcome) goes.item.cube lies_next goes.lies }

    fair_step : ¬ (game task).IsUnfair choice → (after : List Bool) × IsNext task state choice after × rankings.IsNearer (game task) rank (rank state) after
    fair_step fair =
        let is_fair : here.is_ranked.act.unfair ≡ false = to_false here.is_ranked.act.unfair (λ is. fair (unfair_flag is)) in
        let lucky = here.is_ranked.fair is_fair in
        let at = number_of here.numbers lucky.0 lucky.1 in
        let within = slice_get_within here.numbers at.0 lucky.0 at.1 in
        let outcome = get_or here.on.act.outcomes at.0 [] in
        let is : slice_get here.on.act.outcomes at.0 ≡ Some outcome = slice_get-get_or here.on.act.outcomes at.0 [] (omega (arith, within, here.on.leads.counted)) in
        let one = into at.0 lucky.0 outcome at.1 is in
        let acts = solution.acts state reached open_ in
        let same : acts.0 ≡ choice = same_Some _ _ (sym acts.1 ∙ chosen) in
        let applicable = subst (λ c. (game task).IsApplicable state c) same acts.2 in
        let next : IsNext task state choice (next_state state outcome) = record {
          act = applicable.act;
          numbered = applicable.numbered;
          holds = applicable.holds;
          outcome = outcome;
          one = subst (λ (a : Act). Contains a.outcomes outcome) (same_numbered task.acts choice here.on.act applicable.act has_act applicable.numbered) (Contains_numbered here.on.act.outcomes at.0 outcome is);
          given = refl;
        } in
        (next_state state outcome, next, nearer (rank state) lucky.0 (next_state state outcome) lucky.2 one.item one.numbered one.lies)
      where
        to_false : (b : Bool) → ¬ (b ≡ true) → b ≡ false
        to_false b no_way = ⊎_elim (λ is. absurd (no_way is)) (λ is. is) (cases_Bool b)

    unfair_step : (game task).IsUnfair choice → (after : List Bool) → IsNext task state choice after → rankings.IsNearer (game task) rank (rank state) after
    unfair_step unfair after next =
        let same : next.act ≡ here.on.act = same_numbered task.acts choice next.act here.on.act next.numbered has_act in
        let one : Contains here.on.act.outcomes next.outcome = subst (λ (a : Act). Contains a.outcomes next.outcome) same next.one in
        let at = number_of here.on.act.outcomes next.outcome one in
        let within = slice_get_within here.on.act.outcomes at.0 next.outcome at.1 in
        let number = get_or here.numbers at.0 0 in
        let has : slice_get here.numbers at.0 ≡ Some number = slice_get-get_or here.numbers at.0 0 (omega (arith, within, here.on.leads.counted)) in
        let goes = into at.0 number next.outcome has at.1 in
        let near = here.is_ranked.unfair (flag_unfair unfair) number (Contains_numbered here.numbers at.0 number has) in
        nearer (rank state) number after near goes.item goes.numbered (subst (λ s. LiesIn s goes.item.cube) (sym next.given) goes.lies)

  pub is_ranking : IsRanking (game task) (selected rules) rank
  is_ranking = record {
    some = λ state reached open_. (placed state reached open_).is_ranked.some;
    fair = λ state choice reached open_ chosen fair. fair_step state reached open_ choice chosen fair;
    unfair = λ state choice after reached open_ chosen unfair next. unfair_step state reached open_ choice chosen unfair after next;
  }
