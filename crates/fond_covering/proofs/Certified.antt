-- Sure coverings, and what they become once they are lean.
use Rattle.std.proofs.Common.{◌≡◌, ℕ, ◌<◌, ◌^◌, List, [], true, Some, length, get_or, ◌∙◌, arith}
use Rattle.std.specs.Prelude.{◌&&◌, nat_lt, nat_le, slice_get}
use Rattle.std.specs.List.{list_all}
use Rattle.std.proofs.lemmas.Bool.{and_parts}
use Rattle.std.proofs.lemmas.Bool.Decides.{nat_tests}
use Rattle.std.proofs.lemmas.Option.{slice_get_within, slice_get-get_or}
use Rattle.fond_state.proofs.Tested.{LiesIn-through}
use Rattle.fond_task.specs.declared.task.Act.{Act}
use Rattle.fond_task.specs.declared.task.Task.{Task}
use Rattle.fond_task.specs.Within.{is_act_within, is_entry_within, is_form_within}
use Rattle.fond_task.proofs.Found.{all_at}
use Rattle.fond_task.specs.declared.rule.Rule.{Rule}
use Rattle.fond_policy.specs.declared.item.Item.{Item}
use Rattle.fond_policy.specs.declared.item.Way.{Way}
use Rattle.fond_policy.specs.declared.item.Way.TheVariants.{Goal, Rule as ByRule}
use Rattle.fond_policy.specs.Covers.{IsIn}
use Rattle.fond_policy.specs.Items.{firsts_of, AreItemsOver, AreLeanItems, IsSureWay}
use Rattle.fond_policy.specs.Wider.{AreWider}
use Rattle.fond_policy.proofs.Ruled.{rule_of}
use Rattle.fond_policy.specs.Belongs.{HasNumber}
use Rattle.fond_policy.specs.Sizes.{IsSmallWay}
use Rattle.fond_covering.specs.Coverings.{IsCovering, IsSureCovering}

-- an action of a task has an outcome
some_outcome : (task : Task) (number : ℕ) (act : Act) → slice_get task.acts number ≡ Some act → 0 < length act.outcomes
some_outcome task number act at =
    let within = all_at (is_act_within (length task.atoms)) task.acts number act task.acts_within at in
    let both = and_parts (is_form_within (length task.atoms) act.pre && nat_lt 0 (length act.outcomes) && nat_le (length act.outcomes) 256) (list_all (list_all (is_entry_within (length task.atoms))) act.outcomes) within in
    let pair = and_parts (is_form_within (length task.atoms) act.pre && nat_lt 0 (length act.outcomes)) (nat_le (length act.outcomes) 256) both.0 in
    let some : nat_lt 0 (length act.outcomes) ≡ true = (and_parts (is_form_within (length task.atoms) act.pre) (nat_lt 0 (length act.outcomes)) pair.0).1 in
    grind (arith, nat_tests, some)

module _ (task : Task) (rules : List Rule) (items : List Item) (few : length items < 2 ^ 32) where
  -- a sure way has a number
  has_number : (item : Item) (way : Way) → IsSureWay task (firsts_of rules) items item.cube way → HasNumber way
  has_number item Goal sure = tt
  has_number item (ByRule rule numbers) sure =
      let some = some_outcome task sure.on.first.act sure.act sure.has_act in
      omega (arith, some, sure.leads.counted)

  -- the numbers of a sure way are below 2^32
  pub has_small : length rules < 2 ^ 32 → (item : Item) (way : Way) → IsSureWay task (firsts_of rules) items item.cube way → IsSmallWay way
  has_small rules_few item Goal sure = tt
  has_small rules_few item (ByRule rule numbers) sure =
      let own = rule_of rules rule sure.on.first sure.on.numbered in
      let within : rule < length rules = slice_get_within rules rule own.0 own.1 in (
        omega (arith, within, rules_few),
        λ at d small.
            let number = get_or numbers at d in
            let there : slice_get numbers at ≡ Some number = slice_get-get_or numbers at d small in
            let entries = get_or sure.act.outcomes at [] in
            let has : slice_get sure.act.outcomes at ≡ Some entries = slice_get-get_or sure.act.outcomes at [] (omega (arith, small, sure.leads.counted)) in
            let into = sure.leads.each at number entries there has in
            let lt : number < length items = slice_get_within items number into.item into.numbered in
            omega (arith, lt, few),
      )

module _ (task : Task) (rules : List Rule) (rules_few : length rules < 2 ^ 32) (old new : List Item) (start : ℕ) (was : IsSureCovering task rules old start)
    (lean : AreLeanItems task (firsts_of rules) new) (wider : AreWider new old) where
  abbrev few : length new < 2 ^ 32
  few = omega (arith, was.few, wider.counted)

  -- the item of an old one
  new_at : (number : ℕ) (other : Item) → slice_get old number ≡ Some other → (item : Item) × (slice_get new number ≡ Some item)
  new_at number other is =
      let within : number < length old = slice_get_within old number other is in
      (get_or new number other, slice_get-get_or new number other (omega (arith, within, wider.counted)))

  over : AreItemsOver (length task.atoms) new
  over number item is =
      let within : number < length new = slice_get_within new number item is in
      let other = get_or old number item in
      let at : slice_get old number ≡ Some other = slice_get-get_or old number item (omega (arith, within, wider.counted)) in
      (wider.each number item other is at).long ∙ was.over number other at

  starts : IsIn new start task.init
  starts =
      let here = was.starts in
      let item = new_at start here.item here.numbered in
      let one = wider.each start item.0 here.item item.1 here.numbered in
      record { item = item.0; numbered = item.1; lies = LiesIn-through task.init here.item.cube item.0.cube here.lies one.lies }

  -- sure items that were widened until they are lean are a covering
  pub lean_covering : IsCovering task rules new start
  lean_covering = record {
    belong = record {
      few = few;
      over = over;
      numbered = λ at d small. let there = slice_get-get_or new at d small in has_number task rules new few (get_or new at d) (get_or new at d).way (lean at (get_or new at d) there).sure;
    };
    small = λ at d less. let there = slice_get-get_or new at d less in has_small task rules new few rules_few (get_or new at d) (get_or new at d).way (lean at (get_or new at d) there).sure;
    small_start = (let within = slice_get_within old start was.starts.item was.starts.numbered in omega (arith, within, was.few));
    lean = lean;
    starts = starts;
  }
