-- Items that lost a literal: they are wider, still sure if that item is, and have fewer literals.
use Rattle.std.proofs.Common.{◌≡◌, ℕ, zero, suc, ◌<◌, List, [], ◌∷◌, Bool, true, false, Some, None, length, get_or, set, refl, sym, ap, ◌∙◌, subst, ⊎_elim, arith}
use Rattle.std.specs.Prelude.{slice_get, ◌||◌}
use Rattle.std.proofs.lemmas.Bool.{cases_eq, or_parts, false≢true}
use Rattle.std.proofs.lemmas.List.{length-set}
use Rattle.std.proofs.lemmas.Option.{none-some, same_Some, slice_get_within, slice_get-get_or}
use Rattle.fond_state.specs.Cubes.{CubeLiesIn, literal_at, without_literal}
use Rattle.fond_task.specs.declared.task.Task.{Task}
use Rattle.fond_task.specs.Layers.{CubeView}
use Rattle.fond_policy.specs.declared.item.Item.{Item}
use Rattle.fond_policy.specs.declared.item.Way.{Way}
use Rattle.fond_policy.specs.declared.item.Way.TheVariants.{Goal, Rule as ByRule}
use Rattle.fond_policy.specs.Items.{First, LiesInItem, IsSureWay, IsSureItem, AreSureItems, AreItemsOver, with_cube, dropped}
use Rattle.fond_policy.proofs.Placed.{got_same, got_other}
use Rattle.fond_policy.specs.Wider.{IsWider, AreWider, one_if, literals, all_literals, HaveWidened}

-- a cube lies in what is left of it
lies_in_rest : (cube : CubeView) (atom : ℕ) → CubeLiesIn cube (without_literal cube atom)
lies_in_rest [] atom k sign is = is
lies_in_rest (known ∷ cube) zero zero sign is = absurd (none-some sign is)
lies_in_rest (known ∷ cube) zero (suc k) sign is = is
lies_in_rest (known ∷ cube) (suc atom) zero sign is = is
lies_in_rest (known ∷ cube) (suc atom) (suc k) sign is = lies_in_rest cube atom k sign is

pub wider_twice : (one two three : List Item) → AreWider one two → AreWider two three → AreWider one three
wider_twice one two three first second = record {
  counted = first.counted ∙ second.counted;
  each = λ number item other is also.
      let within : number < length three = slice_get_within three number other also in
      let mid = get_or two number other in
      let at : slice_get two number ≡ Some mid = slice_get-get_or two number other (omega (arith, second.counted, within)) in
      let left = first.each number item mid is at in
      let right = second.each number mid other at also in
      record { long = left.long ∙ right.long; lies = λ atom sign here. right.lies atom sign (left.lies atom sign here); same = left.same ∙ right.same };
}

-- what lies in an item lies in it once it is wider
into_wider : (new old : List Item) (wider : AreWider new old) (cube : CubeView) (number : ℕ) → LiesInItem old cube number → LiesInItem new cube number
into_wider new old wider cube number into =
    let within : number < length old = slice_get_within old number into.item into.numbered in
    let item = get_or new number into.item in
    let at : slice_get new number ≡ Some item = slice_get-get_or new number into.item (omega (arith, wider.counted, within)) in
    let one = wider.each number item into.item at into.numbered in
    record { item = item; numbered = at; lies = λ atom sign is. into.lies atom sign (one.lies atom sign is) }

module _ (task : Task) (firsts : List First) where
  -- a way is sure still once the items are wider
  pub way_wider : (new old : List Item) (wider : AreWider new old) (cube : CubeView) (way : Way) → IsSureWay task firsts old cube way → IsSureWay task firsts new cube way
  way_wider new old wider cube Goal sure = sure
  way_wider new old wider cube (ByRule rule numbers) sure = record {
    on = sure.on;
    act = sure.act;
    has_act = sure.has_act;
    leads = record {
      counted = sure.leads.counted;
      each = λ at number entries is there. into_wider new old wider _ number (sure.leads.each at number entries is there);
    };
  }

  module _ (items : List Item) (at : ℕ) (item : Item) (has : slice_get items at ≡ Some item) (atom : ℕ) where
    abbrev lesser : Item
    lesser = with_cube item (without_literal item.cube atom)

    pub drop_wider : AreWider (dropped items at item atom) items
    drop_wider = record {
      counted = length-set items at lesser;
      each = λ number one other is also. ⊎_elim
          (λ same.
          let here : one ≡ lesser = same_Some one lesser (sym is ∙ ap (slice_get (dropped items at item atom)) same ∙ got_same items at item lesser has) in
          let there : other ≡ item = same_Some other item (sym also ∙ ap (slice_get items) same ∙ has) in
          record {
            long = ap (λ (i : Item). length i.cube) here ∙ length-set item.cube atom None ∙ ap (λ (i : Item). length i.cube) (sym there);
            lies = λ k sign at_k. ap (λ (i : Item). literal_at i.cube k) there ∙ lies_in_rest item.cube atom k sign (ap (λ (i : Item). literal_at i.cube k) (sym here) ∙ at_k);
            same = ap (λ (i : Item). i.way) here ∙ ap (λ (i : Item). i.way) (sym there);
          })
          (λ differs.
          let same : one ≡ other = same_Some one other (sym is ∙ got_other items at number lesser differs ∙ also) in
          record { long = ap (λ (i : Item). length i.cube) same; lies = λ k sign at_k. ap (λ (i : Item). literal_at i.cube k) (sym same) ∙ at_k; same = ap (λ (i : Item). i.way) same })
          (cases_eq number at);
    }

    pub drop_sure : AreSureItems task firsts items → IsSureItem task firsts (dropped items at item atom) lesser → AreSureItems task firsts (dropped items at item atom)
    drop_sure sure here number one is = ⊎_elim
        (λ same.
        let is_lesser : one ≡ lesser = same_Some one lesser (sym is ∙ ap (slice_get (dropped items at item atom)) same ∙ got_same items at item lesser has) in
        subst (IsSureItem task firsts (dropped items at item atom)) (sym is_lesser) here)
        (λ differs. way_wider (dropped items at item atom) items drop_wider one.cube one.way (sure number one (sym (got_other items at number lesser differs) ∙ is)))
        (cases_eq number at)

    pub drop_over : (atoms : ℕ) → AreItemsOver atoms items → AreItemsOver atoms (dropped items at item atom)
    drop_over atoms over number one is = ⊎_elim
        (λ same.
        let is_lesser : one ≡ lesser = same_Some one lesser (sym is ∙ ap (slice_get (dropped items at item atom)) same ∙ got_same items at item lesser has) in
        ap (λ (i : Item). length i.cube) is_lesser ∙ length-set item.cube atom None ∙ over at item has)
        (λ differs. over number one (sym (got_other items at number lesser differs) ∙ is))
        (cases_eq number at)

  -- items that stayed as they were
  pub widened_none : (items : List Item) → AreItemsOver (length task.atoms) items → AreSureItems task firsts items → HaveWidened task firsts items items false
  widened_none items over sure = record {
    over = over;
    sure = sure;
    wider = record {
      counted = refl;
      each = λ number item other is also. subst (λ (i : Item). IsWider item i) (same_Some item other (sym is ∙ also)) (record { long = refl; lies = λ k sign at. at; same = refl });
    };
    fewer = λ is. absurd (false≢true is);
    none = λ is. refl;
  }

  -- widened twice
  pub widened_twice : (one two three : List Item) (x y : Bool) → HaveWidened task firsts one two x → HaveWidened task firsts two three y → HaveWidened task firsts one three (x || y)
  widened_twice one two three x y first second = record {
    over = second.over;
    sure = second.sure;
    wider = wider_twice three two one second.wider first.wider;
    fewer = fewer x y first.fewer first.none second.fewer second.none;
    none = λ is. let parts = or_parts x y is in second.none parts.1 ∙ first.none parts.0;
  }
    where
      fewer : (x y : Bool) → (x ≡ true → all_literals two < all_literals one) → (x ≡ false → two ≡ one) → (y ≡ true → all_literals three < all_literals two) → (y ≡ false → three ≡ two) → (x || y) ≡ true → all_literals three < all_literals one
      fewer true true a b c d is = omega (arith, a refl, c refl)
      fewer true false a b c d is = omega (arith, a refl, ap all_literals (d refl))
      fewer false true a b c d is = omega (arith, ap all_literals (b refl), c refl)
      fewer false false a b c d is = absurd (false≢true is)

-- a cube that loses a literal has one less
fewer_literals : (cube : CubeView) (atom : ℕ) (sign : Bool) → literal_at cube atom ≡ Some sign → suc (literals (without_literal cube atom)) ≡ literals cube
fewer_literals [] atom sign is = absurd (none-some sign is)
fewer_literals (known ∷ cube) zero sign is = let one : one_if known ≡ 1 = ap one_if is in omega (arith, one)
fewer_literals (known ∷ cube) (suc atom) sign is = let less = fewer_literals cube atom sign is in omega (arith, less)

fewer_all : (items : List Item) (at : ℕ) (item lesser : Item) → slice_get items at ≡ Some item → literals lesser.cube < literals item.cube → all_literals (set items at lesser) < all_literals items
fewer_all [] at item lesser is less = absurd (none-some item is)
fewer_all (one ∷ items) zero item lesser is less = let same : literals one.cube ≡ literals item.cube = ap (λ (i : Item). literals i.cube) (same_Some one item is) in omega (arith, same, less)
fewer_all (one ∷ items) (suc at) item lesser is less = let rest = fewer_all items at item lesser is less in omega (arith, rest)

pub drop_fewer : (items : List Item) (at : ℕ) (item : Item) (atom : ℕ) (sign : Bool) → slice_get items at ≡ Some item → literal_at item.cube atom ≡ Some sign → all_literals (dropped items at item atom) < all_literals items
drop_fewer items at item atom sign has is =
    let less = fewer_literals item.cube atom sign is in
    fewer_all items at item (with_cube item (without_literal item.cube atom)) has (omega (arith, less))

module _ (task : Task) (firsts : List First) (items : List Item) where
  -- a literal was dropped
  pub widened_drop : (at : ℕ) (item : Item) (atom : ℕ) (sign : Bool) → slice_get items at ≡ Some item → literal_at item.cube atom ≡ Some sign →
      AreItemsOver (length task.atoms) items → AreSureItems task firsts items → IsSureItem task firsts (dropped items at item atom) (with_cube item (without_literal item.cube atom)) →
      HaveWidened task firsts items (dropped items at item atom) true
  widened_drop at item atom sign has is over sure here = record {
    over = drop_over task firsts items at item has atom (length task.atoms) over;
    sure = drop_sure task firsts items at item has atom sure here;
    wider = drop_wider task firsts items at item has atom;
    fewer = λ _. drop_fewer items at item atom sign has is;
    none = λ is. absurd (false≢true (sym is));
  }
