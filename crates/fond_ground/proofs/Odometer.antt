-- The lists of one object of each range, from the places of one of them to those of the next.
use Rattle.std.proofs.Common.{◌≡◌, ℕ, suc, zero, ◌+◌, ◌-◌, ◌<◌, ◌≤◌, ◌∙◌, Bool, true, false, not, List, [], ◌∷◌, ◌++◌, length, get_or, set, replicate, drop, map, refl, sym, ap, subst, arith}
use Rattle.std.specs.declared.alloc.Global.{Global}
use Rattle.std.specs.declared.rc.Rc.{Rc}
use Rattle.std.specs.List.{flat_map}
use Rattle.std.proofs.lemmas.List.{at_drop_more, length-map, length-replicate}
use Rattle.fond_ast.specs.Ranges.{RangeList, objects_of}
use Rattle.fond_ast.specs.Conditions.{tuples}
use Rattle.fond_ast.proofs.Bools.{and-parts}
use Rattle.fond_ground.specs.Places.{has_object, have_objects, tuples_after, tuples_from}

-- the places before this one, and then the starts of the ranges
abbrev pub reset_from : ℕ → List ℕ → List ℕ
reset_from zero [] = []
reset_from zero (place ∷ places) = 0 ∷ reset_from zero places
reset_from (suc at) [] = []
reset_from (suc at) (place ∷ places) = place ∷ reset_from at places

-- the starts of as many ranges as places
abbrev pub starts : List ℕ → List ℕ
starts = reset_from zero

pub reset_none : (places : List ℕ) (at : ℕ) → length places ≤ at → reset_from at places ≡ places
reset_none [] zero le = refl
reset_none [] (suc at) le = refl
reset_none (place ∷ places) zero le = absurd (omega arith)
reset_none (place ∷ places) (suc at) le = ap (λ rest. place ∷ rest) (reset_none places at (omega arith))

pub reset-length : (places : List ℕ) (at : ℕ) → length (reset_from at places) ≡ length places
reset-length [] zero = refl
reset-length [] (suc at) = refl
reset-length (place ∷ places) zero = ap (λ n. suc n) (reset-length places zero)
reset-length (place ∷ places) (suc at) = ap (λ n. suc n) (reset-length places at)

pub reset-set : (places : List ℕ) (at : ℕ) → at < length places → set (reset_from (suc at) places) at 0 ≡ reset_from at places
reset-set [] zero lt = absurd (omega arith)
reset-set [] (suc at) lt = absurd (omega arith)
reset-set (place ∷ places) zero lt = refl
reset-set (place ∷ places) (suc at) lt = ap (λ rest. place ∷ rest) (reset-set places at (omega arith))

pub reset-get : (places : List ℕ) (at : ℕ) → get_or (reset_from (suc at) places) at 0 ≡ get_or places at 0
reset-get [] zero = refl
reset-get [] (suc at) = refl
reset-get (place ∷ places) zero = refl
reset-get (place ∷ places) (suc at) = reset-get places at

-- the first list has its objects at the starts
pub first-list : (ranges : List (List ℕ)) (places : List ℕ) → length places ≡ length ranges → have_objects ranges ≡ true → tuples ranges ≡ tuples_from false ranges (starts places)
first-list [] [] long some = refl
first-list [] (place ∷ places) long some = absurd (omega (arith, long))
first-list (range ∷ ranges) [] long some = absurd (omega (arith, long))
first-list ([] ∷ ranges) (place ∷ places) long some = absurd (cc)
first-list ((object ∷ range) ∷ ranges) (place ∷ places) long some =
    ap (λ lists. map (λ objects. object ∷ objects) lists ++ flat_map (λ other. map (λ objects. other ∷ objects) (tuples ranges)) range) (first-list ranges places (omega (arith, long)) some)

no-lists : (range : List ℕ) (lists : List (List ℕ)) → lists ≡ [] → flat_map (λ object. map (λ objects. object ∷ objects) lists) range ≡ []
no-lists [] lists none = refl
no-lists (object ∷ range) lists none = ap (λ some. map (λ objects. object ∷ objects) some ++ flat_map (λ other. map (λ objects. other ∷ objects) lists) range) none ∙ no-lists range lists none

-- if a range has no object, there are no lists
pub empty-range : (ranges : List (List ℕ)) → have_objects ranges ≡ false → tuples ranges ≡ []
empty-range [] none = absurd (cc)
empty-range ([] ∷ ranges) none = refl
empty-range ((object ∷ range) ∷ ranges) none = no-lists (object ∷ range) (tuples ranges) (empty-range ranges none)

drop_from : (range : List ℕ) (place : ℕ) → place < length range → drop place range ≡ get_or range place 0 ∷ drop (place + 1) range
drop_from range place lt = at_drop_more (λ rest. rest) range place 0 lt

pub drop_end : {X : Type 0} (range : List X) (place : ℕ) → length range ≤ place → drop place range ≡ []
drop_end [] zero le = refl
drop_end [] (suc place) le = refl
drop_end (object ∷ range) zero le = absurd (omega arith)
drop_end (object ∷ range) (suc place) le = drop_end range place (omega arith)

-- a range of a list of ranges that all have objects has one
pub some-object : (ranges : List (List ℕ)) (at : ℕ) → at < length ranges → have_objects ranges ≡ true → 0 < length (get_or ranges at [])
some-object [] at lt some = absurd (omega arith)
some-object ([] ∷ ranges) zero lt some = absurd (cc)
some-object ((object ∷ range) ∷ ranges) zero lt some = omega arith
some-object ([] ∷ ranges) (suc at) lt some = absurd (cc)
some-object ((object ∷ range) ∷ ranges) (suc at) lt some = some-object ranges at (omega arith) some

-- nothing comes after the end of a range if nothing comes after in the later ranges
pub at-end : (ranges : List (List ℕ)) (places : List ℕ) (at : ℕ) → length places ≡ length ranges → at < length ranges → length (get_or ranges at []) ≤ get_or places at 0 + 1
    → tuples_after (drop (suc at) ranges) (drop (suc at) places) ≡ [] → tuples_after (drop at ranges) (drop at places) ≡ []
at-end [] places at long lt end none = absurd (omega arith)
at-end (range ∷ ranges) [] at long lt end none = absurd (omega (arith, long))
at-end (range ∷ ranges) (place ∷ places) zero long lt end none =
    ap (λ lists. map (λ objects. get_or range place 0 ∷ objects) lists ++ flat_map (λ object. map (λ objects. object ∷ objects) (tuples ranges)) (drop (place + 1) range)) none
    ∙ ap (flat_map (λ object. map (λ objects. object ∷ objects) (tuples ranges))) (drop_end range (place + 1) end)
at-end (range ∷ ranges) (place ∷ places) (suc at) long lt end none = at-end ranges places at (omega (arith, long)) (omega arith) end none

-- the list after the one at these places has the next object at the last place that can move on
pub moves-on : (ranges : List (List ℕ)) (places : List ℕ) (at : ℕ) → length places ≡ length ranges → at < length ranges → have_objects ranges ≡ true → get_or places at 0 + 1 < length (get_or ranges at [])
    → tuples_after (drop (suc at) ranges) (drop (suc at) places) ≡ [] → tuples_after ranges places ≡ tuples_from false ranges (set (reset_from (suc at) places) at (get_or places at 0 + 1))
moves-on [] places at long lt some more none = absurd (omega arith)
moves-on (range ∷ ranges) [] at long lt some more none = absurd (omega (arith, long))
moves-on (range ∷ ranges) (place ∷ places) zero long lt some more none =
    let parts = and-parts (has_object range) (have_objects ranges) some in
    let rest = λ (from : List ℕ). flat_map (λ object. map (λ objects. object ∷ objects) (tuples ranges)) from in
    ap (λ lists. map (λ objects. get_or range place 0 ∷ objects) lists ++ rest (drop (place + 1) range)) none
    ∙ ap rest (drop_from range (place + 1) more)
    ∙ ap (λ lists. map (λ objects. get_or range (place + 1) 0 ∷ objects) lists ++ rest (drop (place + 1 + 1) range)) (first-list ranges places (omega (arith, long)) parts.1)
moves-on (range ∷ ranges) (place ∷ places) (suc at) long lt some more none =
    let parts = and-parts (has_object range) (have_objects ranges) some in
    ap (λ lists. map (λ objects. get_or range place 0 ∷ objects) lists ++ flat_map (λ object. map (λ objects. object ∷ objects) (tuples ranges)) (drop (place + 1) range))
    (moves-on ranges places at (omega (arith, long)) (omega arith) parts.1 more none)

pub length-ranges : (ranges : RangeList) → length (objects_of ranges) ≡ length ranges
length-ranges ranges = length-map ranges (λ range. range.value)

before_suc : (at : ℕ) → 0 < at → at ≡ suc (at - 1)
before_suc at some = omega arith

range_at : (ranges : RangeList) (at : ℕ) (range : Rc (List ℕ) Global) → at < length ranges → range ≡ get_or ranges at range → get_or (objects_of ranges) at [] ≡ range.value
range_at [] at range lt is = absurd (omega arith)
range_at (other ∷ ranges) zero range lt is = ap (λ one. one.value) (sym is)
range_at (other ∷ ranges) (suc at) range lt is = range_at ranges at range (omega arith) is

other_default : (xs : List ℕ) (at d e : ℕ) → at < length xs → get_or xs at d ≡ get_or xs at e
other_default [] at d e lt = absurd (omega arith)
other_default (x ∷ xs) zero d e lt = refl
other_default (x ∷ xs) (suc at) d e lt = other_default xs at d e (omega arith)

-- one round of the walk back from the last place: how long the range is, and which place of it was the one before
pub record Round (ranges : RangeList) (places now : List ℕ) (at : ℕ) (range : Rc (List ℕ) Global) (place : ℕ) : Type 0 where
  pub some : 0 < at
  pub within : at ≤ length ranges
  pub long : length places ≡ length ranges
  pub reset : now ≡ reset_from at places
  pub done : tuples_after (drop at (objects_of ranges)) (drop at places) ≡ []
  pub range_is : range ≡ get_or ranges (at - 1) range
  pub place_is : place ≡ get_or now (at - 1) place

pub round-long : (ranges : RangeList) (places now : List ℕ) (at : ℕ) (range : Rc (List ℕ) Global) (place : ℕ) → Round ranges places now at range place → length now ≡ length ranges
round-long ranges places now at range place r = ap length r.reset ∙ reset-length places at ∙ r.long

round-range : (ranges : RangeList) (places now : List ℕ) (at : ℕ) (range : Rc (List ℕ) Global) (place : ℕ) → Round ranges places now at range place → get_or (objects_of ranges) (at - 1) [] ≡ range.value
round-range ranges places now at range place r =
    let some = r.some in
    let within = r.within in
    range_at ranges (at - 1) range (omega arith) r.range_is

pub round-place : (ranges : RangeList) (places now : List ℕ) (at : ℕ) (range : Rc (List ℕ) Global) (place : ℕ) → Round ranges places now at range place → place ≡ get_or places (at - 1) 0
round-place ranges places now at range place r =
    let some = r.some in
    let within = r.within in
    let long = round-long ranges places now at range place r in
    r.place_is ∙ other_default now (at - 1) place 0 (omega arith) ∙ ap (λ list. get_or list (at - 1) 0) (r.reset ∙ ap (λ n. reset_from n places) (before_suc at some)) ∙ reset-get places (at - 1)

-- each range that is looked at has an object
pub round-object : (ranges : RangeList) (places now : List ℕ) (at : ℕ) (range : Rc (List ℕ) Global) (place : ℕ) → Round ranges places now at range place → have_objects (objects_of ranges) ≡ true → 0 < length range.value
round-object ranges places now at range place r all =
    let some = r.some in
    let within = r.within in
    let long = length-ranges ranges in
    subst (λ list. 0 < length list) (round-range ranges places now at range place r) (some-object (objects_of ranges) (at - 1) (omega arith) all)

done_before : (ranges : List (List ℕ)) (places : List ℕ) (at : ℕ) → 0 < at → tuples_after (drop at ranges) (drop at places) ≡ [] → tuples_after (drop (suc (at - 1)) ranges) (drop (suc (at - 1)) places) ≡ []
done_before ranges places at some done = subst (λ n. tuples_after (drop n ranges) (drop n places) ≡ []) (before_suc at some) done

-- the place moves on
pub round-moves : (ranges : RangeList) (places now : List ℕ) (at : ℕ) (range : Rc (List ℕ) Global) (place : ℕ) → Round ranges places now at range place → have_objects (objects_of ranges) ≡ true
    → place < length range.value - 1 → tuples_after (objects_of ranges) places ≡ tuples_from false (objects_of ranges) (set now (at - 1) (place + 1))
round-moves ranges places now at range place r all more =
    let some = r.some in
    let within = r.within in
    let length_of = length-ranges ranges in
    let here = round-place ranges places now at range place r in
    let object = round-object ranges places now at range place r all in
    let room : get_or places (at - 1) 0 + 1 < length (get_or (objects_of ranges) (at - 1) []) =
    subst (λ list. get_or places (at - 1) 0 + 1 < length list) (sym (round-range ranges places now at range place r)) (subst (λ p. p + 1 < length range.value) here (omega arith)) in
    let now_is : now ≡ reset_from (suc (at - 1)) places = r.reset ∙ ap (λ n. reset_from n places) (before_suc at some) in
    moves-on (objects_of ranges) places (at - 1) (r.long ∙ sym length_of) (omega arith) all room (done_before (objects_of ranges) places at some r.done)
    ∙ ap (λ list. tuples_from false (objects_of ranges) list) (λ i. set (sym now_is i) (at - 1) (sym here i + 1))

-- the place goes back to the start
pub round-resets : (ranges : RangeList) (places now : List ℕ) (at : ℕ) (range : Rc (List ℕ) Global) (place : ℕ) → Round ranges places now at range place → set now (at - 1) 0 ≡ reset_from (at - 1) places
round-resets ranges places now at range place r =
    let some = r.some in
    let within = r.within in
    let long = r.long in
    ap (λ list. set list (at - 1) 0) (r.reset ∙ ap (λ n. reset_from n places) (before_suc at some)) ∙ reset-set places (at - 1) (omega arith)

-- nothing comes after a place at the end of its range
pub round-ends : (ranges : RangeList) (places now : List ℕ) (at : ℕ) (range : Rc (List ℕ) Global) (place : ℕ) → Round ranges places now at range place
    → length range.value - 1 ≤ place → tuples_after (drop (at - 1) (objects_of ranges)) (drop (at - 1) places) ≡ []
round-ends ranges places now at range place r end =
    let some = r.some in
    let within = r.within in
    let length_of = length-ranges ranges in
    let here = round-place ranges places now at range place r in
    let room : length (get_or (objects_of ranges) (at - 1) []) ≤ get_or places (at - 1) 0 + 1 =
    subst (λ list. length list ≤ get_or places (at - 1) 0 + 1) (sym (round-range ranges places now at range place r)) (subst (λ p. length range.value ≤ p + 1) here (omega arith)) in
    at-end (objects_of ranges) places (at - 1) (r.long ∙ sym length_of) (omega arith) room (done_before (objects_of ranges) places at some r.done)

starts_replicate : (places : List ℕ) (count : ℕ) → length places ≡ count → places ≡ replicate count 0 → starts places ≡ places
starts_replicate [] count long is = refl
starts_replicate (place ∷ places) zero long is = absurd (omega (arith, long))
starts_replicate (place ∷ places) (suc count) long is =
    let first : place ≡ 0 = cc in
    let rest : places ≡ replicate count 0 = cc in
    λ i. sym first i ∷ starts_replicate places count (omega (arith, long)) rest i

-- all lists, from the starts of the ranges on, or none if some range has no object
pub all-lists : (ranges : RangeList) (places : List ℕ) (empty : Bool) → places ≡ replicate (length ranges) 0 → empty ≡ not (have_objects (objects_of ranges)) → tuples_from empty (objects_of ranges) places ≡ tuples (objects_of ranges)
all-lists ranges places empty is test = ap (λ b. tuples_from b (objects_of ranges) places) test ∙ by (have_objects (objects_of ranges)) refl
  where
    long : length places ≡ length ranges
    long = ap length is ∙ length-replicate (length ranges) 0

    by : (b : Bool) → have_objects (objects_of ranges) ≡ b → tuples_from (not b) (objects_of ranges) places ≡ tuples (objects_of ranges)
    by true some = ap (tuples_from false (objects_of ranges)) (sym (starts_replicate places (length ranges) long is)) ∙ sym (first-list (objects_of ranges) places (long ∙ sym (length-ranges ranges)) some)
    by false none = sym (empty-range (objects_of ranges) none)
