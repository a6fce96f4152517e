-- Items that have the full cubes of all reached states are sure.
use Rattle.std.proofs.Common.{◌≡◌, ℕ, zero, suc, ◌<◌, List, [], ◌∷◌, Bool, true, false, not, Option, Some, None, length, get_or, refl, sym, ap, ◌∙◌, subst, ⊎_elim, inl, inr, arith}
use Rattle.std.specs.Prelude.{◌⊎◌, slice_get, if◌then◌else◌}
use Rattle.std.specs.List.{list_all}
use Rattle.std.proofs.lemmas.Bool.{and_parts, false≢true}
use Rattle.std.proofs.lemmas.List.Quantifiers.{position-Some}
use Rattle.std.proofs.lemmas.Option.{none-some, same_Some, slice_get_within, slice_get-get_or, get_or_from_slice_get}
use Rattle.fond_state.specs.Cubes.{Contradicts, CubeLiesIn, LiesIn, full_cube, lies_in, literal_at, truth_at}
use Rattle.fond_state.proofs.Tested.{lies_in-Decides}
use Rattle.fond_task.specs.declared.form.Kleene.TheVariants.{No, Yes}
use Rattle.fond_task.specs.declared.task.Task.{Task}
use Rattle.fond_task.specs.Images.{image}
use Rattle.fond_task.specs.Steps.{next_state}
use Rattle.fond_task.specs.Values.{value}
use Rattle.fond_task.specs.Within.{is_act_within, is_entry_within, is_form_within}
use Rattle.fond_task.proofs.Exact.{exact-value, exact-image}
use Rattle.fond_task.proofs.Found.{all_at}
use Rattle.fond_task.specs.declared.rule.Rule.{Rule}
use Rattle.fond_task.specs.Layers.{CubeView}
use Rattle.fond_rules.specs.Select.{selected_rule}
use Rattle.fond_policy.specs.declared.item.Item.{Item}
use Rattle.fond_policy.specs.declared.item.Way.{Way}
use Rattle.fond_policy.specs.declared.item.Way.TheVariants.{Goal, Rule as ByRule}
use Rattle.fond_policy.specs.Covers.{IsIn}
use Rattle.fond_policy.specs.Items.{First, first_of, firsts_of, AreFirstsOver, AreItemsOver, AreSureItems, IsFirstOn, IsSureWay, LeadInto}
use Rattle.fond_policy.proofs.Ruled.{rule_of, first_at}
use Rattle.fond_covering.specs.Full.{AreFullItems, GoesFrom, IsFullWay}

-- the full cube of a state has a literal of each atom, of its truth value
full_literal : (state : List Bool) (atom : ℕ) → atom < length state → literal_at (full_cube state) atom ≡ Some (truth_at state atom)
full_literal [] atom below = absurd (omega (arith, below))
full_literal (value ∷ state) zero below = refl
full_literal (value ∷ state) (suc atom) below = full_literal state atom (omega (arith, below))

-- a state lies in its full cube
pub lies_own : (state : List Bool) → LiesIn state (full_cube state)
lies_own [] atom sign is = absurd (none-some sign is)
lies_own (value ∷ state) zero sign is = same_Some value sign is
lies_own (value ∷ state) (suc atom) sign is = lies_own state atom sign is

literal_within : (cube : CubeView) (atom : ℕ) (sign : Bool) → literal_at cube atom ≡ Some sign → atom < length cube
literal_within [] atom sign is = absurd (none-some sign is)
literal_within (known ∷ cube) zero sign is = omega arith
literal_within (known ∷ cube) (suc atom) sign is = let less = literal_within cube atom sign is in omega (arith, less)

-- the full cube of a state lies in each cube over its atoms in which the state lies
full_lies : (state : List Bool) (cube : CubeView) → length cube ≡ length state → LiesIn state cube → CubeLiesIn (full_cube state) cube
full_lies state cube long lies atom sign is =
    let below = literal_within cube atom sign is in
    full_literal state atom (omega (arith, below, long)) ∙ ap (λ value. Some value) (lies atom sign is)

-- a truth value is that of a literal, if there is one, or its opposite
against_or_with : (value : Bool) (known : Option Bool) → (known ≡ Some (not value)) ⊎ ((sign : Bool) → known ≡ Some sign → value ≡ sign)
against_or_with value None = inr (λ sign is. absurd (none-some sign is))
against_or_with true (Some true) = inr (λ sign is. same_Some true sign is)
against_or_with true (Some false) = inl refl
against_or_with false (Some true) = inl refl
against_or_with false (Some false) = inr (λ sign is. same_Some false sign is)

lies_more : (value : Bool) (state : List Bool) (known : Option Bool) (cube : CubeView) → ((sign : Bool) → known ≡ Some sign → value ≡ sign) → LiesIn state cube → LiesIn (value ∷ state) (known ∷ cube)
lies_more value state known cube with_ lies zero sign is = with_ sign is
lies_more value state known cube with_ lies (suc atom) sign is = lies atom sign is

-- the full cube of a state contradicts a cube over its atoms, or the state lies in that cube
apart_or_lies : (state : List Bool) (cube : CubeView) → length cube ≡ length state → Contradicts (full_cube state) cube ⊎ LiesIn state cube
apart_or_lies [] [] long = inr (λ atom sign is. absurd (none-some sign is))
apart_or_lies [] (known ∷ cube) long = absurd (omega (arith, long))
apart_or_lies (value ∷ state) [] long = absurd (omega (arith, long))
apart_or_lies (value ∷ state) (known ∷ cube) long = ⊎_elim
    (λ apart. inl (suc apart.0, apart.1, apart.2, apart.3))
    (λ lies. ⊎_elim
    (λ against. inl (zero, value, refl, against))
    (λ with_. inr (lies_more value state known cube with_ lies))
    (against_or_with value known))
    (apart_or_lies state cube (omega (arith, long)))

-- the full cube of a state contradicts a cube over its atoms in which the state does not lie
full_apart : (state : List Bool) (cube : CubeView) → length cube ≡ length state → lies_in state cube ≡ false → Contradicts (full_cube state) cube
full_apart state cube long out = ⊎_elim
    (λ apart. apart)
    (λ lies. absurd (false≢true (sym out ∙ (lies_in-Decides state cube).1 lies)))
    (apart_or_lies state cube long)

-- the rule that is selected in a state is the first on its full cube
full_first : (rules : List Rule) (state : List Bool) (number : ℕ) (rule : Rule) → AreFirstsOver (length state) (firsts_of rules) →
    slice_get rules number ≡ Some rule → selected_rule rules state ≡ Some number → IsFirstOn (firsts_of rules) number (full_cube state)
full_first rules state number rule over at is =
    let test : Rule → Bool = λ r. lies_in state r.cond in
    let found = position-Some test rules number rule is in
    let passes : test rule ≡ true = ap test (sym (get_or_from_slice_get rules number rule rule at)) ∙ found.1 in
    let numbered = first_at rules number rule at in
    record {
      first = first_of rule;
      numbered = numbered;
      lies = full_lies state rule.cond (over number (first_of rule) numbered) ((lies_in-Decides state rule.cond).0 passes);
      apart = λ before other lt there.
          let earlier = rule_of rules before other there in
          let fails : test earlier.0 ≡ false = ap test (sym (get_or_from_slice_get rules before earlier.0 rule earlier.1)) ∙ found.2 before lt in
          subst (λ (f : First). Contradicts (full_cube state) f.cond) earlier.2 (full_apart state earlier.0.cond (over before (first_of earlier.0) (first_at rules before earlier.0 earlier.1)) fails);
    }

module _ (task : Task) (rules : List Rule) (states : List (List Bool)) (items : List Item)
    (over : AreFirstsOver (length task.atoms) (firsts_of rules))
    (long : (number : ℕ) (state : List Bool) → slice_get states number ≡ Some state → length state ≡ length task.atoms)
    (counted : length items ≡ length states) (full : AreFullItems task rules states items) where
  -- the full cube of a state lies in the item of its number
  pub own_cube : (number : ℕ) (state : List Bool) → slice_get states number ≡ Some state → (item : Item) × (slice_get items number ≡ Some item) × (item.cube ≡ full_cube state)
  own_cube number state at =
      let within : number < length states = slice_get_within states number state at in
      let item = get_or items number (record { cube = []; way = Goal }) in
      let there : slice_get items number ≡ Some item = slice_get-get_or items number (record { cube = []; way = Goal }) (omega (arith, within, counted)) in
      let own = full number item there in
      (item, there, own.2.cube ∙ ap full_cube (same_Some own.0 state (sym own.1 ∙ at)))

  -- the outcomes of an action lead from the full cube of a state into the items of the next states
  leads : (state : List Bool) → length state ≡ length task.atoms → (rule : ℕ) (numbers : List ℕ) (goes : GoesFrom task rules states state rule numbers) → LeadInto items goes.act (full_cube state) numbers
  leads state state_long rule numbers goes = record {
    counted = goes.next.counted;
    each = λ at number entries is there.
        let act_within : is_act_within (length task.atoms) goes.act ≡ true = all_at (is_act_within (length task.atoms)) task.acts goes.own.act goes.act task.acts_within goes.has_act in
        let outcome_within : list_all (is_entry_within (length task.atoms)) entries ≡ true = all_at (list_all (is_entry_within (length task.atoms))) goes.act.outcomes at entries (and_parts _ _ act_within).1 there in
        let next : image (full_cube state) entries ≡ full_cube (next_state state entries) = exact-image state entries (ap (λ n. list_all (is_entry_within n) entries) state_long ∙ outcome_within) in
        let own = own_cube number (next_state state entries) (goes.next.each at number entries is there) in
        record { item = own.0; numbered = own.1; lies = λ atom sign has. ap (λ cube. literal_at cube atom) (next ∙ sym own.2) ∙ has };
  }

  -- how a policy goes on from a state is sure from its full cube
  way_sure : (state : List Bool) → length state ≡ length task.atoms → (way : Way) → IsFullWay task rules states state way → IsSureWay task (firsts_of rules) items (full_cube state) way
  unfolding full_first
  way_sure state state_long Goal goal_here = exact-value state task.goal (ap (λ n. is_form_within n task.goal) state_long ∙ task.goal_within) ∙ ap (λ b. if b then Yes else No) goal_here
  way_sure state state_long (ByRule rule numbers) goes =
      let over_state : AreFirstsOver (length state) (firsts_of rules) = subst (λ n. AreFirstsOver n (firsts_of rules)) (sym state_long) over in
      let on = full_first rules state rule goes.own over_state goes.numbered goes.chosen in
      record {
        on = on;
        act = goes.act;
        has_act = goes.has_act;
        leads = leads state state_long rule numbers goes;
      }

  pub full_sure : AreSureItems task (firsts_of rules) items
  full_sure number item at =
      let own = full number item at in
      subst (λ cube. IsSureWay task (firsts_of rules) items cube item.way) (sym own.2.cube) (way_sure own.0 (long number own.0 own.1) item.way own.2.way)

  pub full_over : AreItemsOver (length task.atoms) items
  full_over number item at =
      let own = full number item at in
      ap length own.2.cube ∙ length_full own.0 ∙ long number own.0 own.1
    where
      length_full : (state : List Bool) → length (full_cube state) ≡ length state
      length_full [] = refl
      length_full (value ∷ state) = let more = length_full state in omega (arith, more)

  -- a state lies in the item of its number
  pub full_starts : (number : ℕ) (state : List Bool) → slice_get states number ≡ Some state → IsIn items number state
  full_starts number state at =
      let own = own_cube number state at in
      record { item = own.0; numbered = own.1; lies = subst (LiesIn state) (sym own.2) (lies_own state) }
