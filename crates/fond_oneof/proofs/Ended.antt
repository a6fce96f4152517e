-- From meanings to the entries of literals.
use Rattle.std.proofs.Common.{◌≡◌, ◌<◌, ◌∙◌, ◌*◌, ℕ, zero, suc, Bool, true, false, not, List, [], ◌∷◌, ◌++◌, ◌&&◌, map, length, get_or, refl, sym, ap, subst, true≢false, arith}
use Rattle.std.specs.Prelude.{nat_eq, nat_lt}
use Rattle.std.specs.List.{AllZip, flat_map, list_all}
use Rattle.std.proofs.lemmas.List.{length-append, length-map}
use Rattle.std.proofs.lemmas.List.Folds.{list_all-append, list_all-map}
use Rattle.fond_text.specs.Lists.{concatenations}
use Rattle.fond_task.specs.declared.task.Entry.{Entry}
use Rattle.fond_task.specs.Within.{is_entry_within, is_form_within}
use Rattle.fond_oneof.specs.declared.effect.GroundEffect.{GroundEffect}
use Rattle.fond_oneof.specs.declared.effect.GroundEffect.TheOpen.{GroundEffect-F, Literal as LiteralOf, And, OneOf, When}
use Rattle.fond_oneof.specs.declared.effect.GroundEffect.TheFolds.{fold-roll-GroundEffect, ind-GroundEffect, map-GroundEffect}
use Rattle.fond_oneof.specs.Outcomes.{AreOutcomesOf, IsEntryOf, Literal, guarded, outcome_lists, outcomes_step}
use Rattle.fond_oneof.specs.Shown.{Shown, all_shown, pairs, shown, shown_lists, shown_literal}
use Rattle.fond_oneof.specs.Within.{has_members, is_effect_over, members_step, over_step}
use Rattle.fond_oneof.proofs.Lists.{length-pairs}

head_or : {X : Type 0} → X → List X → X
head_or d [] = d
head_or d (x ∷ xs) = x

tail : {X : Type 0} → List X → List X
tail [] = []
tail (x ∷ xs) = xs

head_same : {X : Type 0} (x y : X) (xs ys : List X) → x ∷ xs ≡ y ∷ ys → x ≡ y
unfolding head_or
head_same x y xs ys e = ap (head_or x) e

tail_same : {X : Type 0} (x y : X) (xs ys : List X) → x ∷ xs ≡ y ∷ ys → xs ≡ ys
unfolding tail
tail_same x y xs ys e = ap tail e

entry_of : (literal : Literal) (entry : Entry) → shown entry ≡ shown_literal literal → IsEntryOf literal entry
entry_of literal entry e = record { numbered = ap (λ one. one.atom) e; signed = ap (λ one. one.add) e; valued = λ cube. ap (λ one. one.value cube) e }

outcome_of : (literals : List Literal) (entries : List Entry) → map shown entries ≡ map shown_literal literals → AllZip IsEntryOf literals entries
outcome_of [] [] e = tt
outcome_of [] (entry ∷ entries) e = cc
outcome_of (literal ∷ literals) [] e = cc
outcome_of (literal ∷ literals) (entry ∷ entries) e =
    (entry_of literal entry (head_same _ _ _ _ e), outcome_of literals entries (tail_same _ _ _ _ e))

-- outcomes with the meanings of those of literals are theirs
pub outcomes_of : (lists : List (List Literal)) (all : List (List Entry)) → all_shown all ≡ map (map shown_literal) lists → AreOutcomesOf lists all
outcomes_of [] [] e = tt
outcomes_of [] (entries ∷ all) e = cc
outcomes_of (literals ∷ lists) [] e = cc
outcomes_of (literals ∷ lists) (entries ∷ all) e = (outcome_of literals entries (head_same _ _ _ _ e), outcomes_of lists all (tail_same _ _ _ _ e))

-- the outcomes are as many as those of literals
pub as_many : (lists : List (List Literal)) (all : List (List Entry)) → all_shown all ≡ map (map shown_literal) lists → length all ≡ length lists
as_many lists all e = sym (length-map all (map shown)) ∙ ap length e ∙ length-map lists (map shown_literal)

and_first : (a b : Bool) → (a && b) ≡ true → a ≡ true
and_first true b h = refl
and_first false b h = h

and_second : (a b : Bool) → (a && b) ≡ true → b ≡ true
and_second true b h = h
and_second false b h = absurd (true≢false (sym h))

and_both : (a b : Bool) → a ≡ true → b ≡ true → (a && b) ≡ true
and_both a b h g = (λ i. h i && b) ∙ g

module _ {A : Type 0} (test : A → Bool) where
  abbrev all_pass : List (List A) → Bool
  all_pass lists = list_all (list_all test) lists

  joined_pass : (list : List A) (lists : List (List A)) → list_all test list ≡ true → all_pass lists ≡ true → all_pass (map (λ more. list ++ more) lists) ≡ true
  joined_pass list [] h g = refl
  joined_pass list (more ∷ lists) h g =
      and_both _ _ (list_all-append test list more ∙ and_both _ _ h (and_first _ _ g)) (joined_pass list lists h (and_second _ _ g))

  pairs_pass : (xs ys : List (List A)) → all_pass xs ≡ true → all_pass ys ≡ true → all_pass (pairs xs ys) ≡ true
  pairs_pass [] ys h g = refl
  pairs_pass (x ∷ xs) ys h g =
      list_all-append (list_all test) (map (λ more. x ++ more) ys) (pairs xs ys) ∙ and_both _ _ (joined_pass x ys (and_first _ _ h) g) (pairs_pass xs ys (and_second _ _ h) g)

module _ (atoms : ℕ) where
  abbrev literal_within : Literal → Bool
  literal_within literal = nat_lt literal.atom atoms && list_all (is_form_within atoms) literal.conditions

  abbrev Passes : GroundEffect → Type 0
  Passes effect = is_effect_over atoms effect ≡ true → all_pass literal_within (outcome_lists effect) ≡ true

  abbrev effects : List ((effect : GroundEffect) × Passes effect) → List GroundEffect
  effects parts = map (λ e. e.0) parts

  each_passes : (parts : List ((effect : GroundEffect) × Passes effect)) → list_all (λ part. part) (map (is_effect_over atoms) (effects parts)) ≡ true → all_pass literal_within (concatenations (map outcome_lists (effects parts))) ≡ true
  each_passes [] h = refl
  each_passes (part ∷ parts) h = pairs_pass literal_within (outcome_lists part.0) _ (part.1 (and_first _ _ h)) (each_passes parts (and_second _ _ h))

  some_passes : (parts : List ((effect : GroundEffect) × Passes effect)) → list_all (λ part. part) (map (is_effect_over atoms) (effects parts)) ≡ true → all_pass literal_within (flat_map (λ part. part) (map outcome_lists (effects parts))) ≡ true
  some_passes [] h = refl
  some_passes (part ∷ parts) h =
      list_all-append (list_all literal_within) (outcome_lists part.0) _ ∙ and_both _ _ (part.1 (and_first _ _ h)) (some_passes parts (and_second _ _ h))

  guarded_passes : (condition : _) → is_form_within atoms condition ≡ true → (list : List Literal) → list_all literal_within list ≡ true → list_all literal_within (map (guarded condition) list) ≡ true
  guarded_passes condition over [] h = refl
  guarded_passes condition over (literal ∷ list) h =
      let one = and_first _ _ h in
      and_both _ _ (and_both _ _ (and_first _ _ one) (and_both _ _ over (and_second _ _ one))) (guarded_passes condition over list (and_second _ _ h))

  all_guarded_pass : (condition : _) → is_form_within atoms condition ≡ true → (lists : List (List Literal)) → all_pass literal_within lists ≡ true → all_pass literal_within (map (map (guarded condition)) lists) ≡ true
  all_guarded_pass condition over [] h = refl
  all_guarded_pass condition over (list ∷ lists) h = and_both _ _ (guarded_passes condition over list (and_first _ _ h)) (all_guarded_pass condition over lists (and_second _ _ h))

  layer_passes : (layer : GroundEffect-F ((effect : GroundEffect) × Passes effect)) →
      over_step atoms (map-GroundEffect GroundEffect Bool (is_effect_over atoms) (map-GroundEffect ((effect : GroundEffect) × Passes effect) GroundEffect (λ e. e.0) layer)) ≡ true →
      all_pass literal_within (outcomes_step (map-GroundEffect GroundEffect (List (List Literal)) outcome_lists (map-GroundEffect ((effect : GroundEffect) × Passes effect) GroundEffect (λ e. e.0) layer))) ≡ true
  layer_passes (LiteralOf atom add) h = and_both _ _ (and_both _ _ (and_both _ _ h refl) refl) refl
  layer_passes (And parts) h = each_passes parts.items h
  layer_passes (OneOf parts) h = some_passes parts.items h
  layer_passes (When condition part) h = all_guarded_pass condition (and_first _ _ h) (outcome_lists part.value.0) (part.value.1 (and_second _ _ h))

  literals_within : (effect : GroundEffect) → Passes effect
  literals_within = ind-GroundEffect Passes (λ x y is.
      rw (fold-roll-GroundEffect Bool (over_step atoms) x, fold-roll-GroundEffect (List (List Literal)) outcomes_step x)
      (let P : GroundEffect-F GroundEffect → Type 0 = λ z.
      over_step atoms (map-GroundEffect GroundEffect Bool (is_effect_over atoms) z) ≡ true → all_pass literal_within (outcomes_step (map-GroundEffect GroundEffect (List (List Literal)) outcome_lists z)) ≡ true in
      subst P is (layer_passes y)))

  entries_shown : (all : List (List Entry)) → list_all (list_all (is_entry_within atoms)) all ≡ list_all (list_all (λ one. nat_lt one.atom atoms && one.within atoms)) (all_shown all)
  entries_shown [] = refl
  entries_shown (entries ∷ all) = λ i. sym (list_all-map (λ (one : Shown). nat_lt one.atom atoms && one.within atoms) shown entries) i && entries_shown all i

  -- the entries of the outcomes of an effect are over its atoms
  pub entries_within : (effect : GroundEffect) (all : List (List Entry)) → is_effect_over atoms effect ≡ true → all_shown all ≡ shown_lists effect → list_all (list_all (is_entry_within atoms)) all ≡ true
  entries_within effect all over e = entries_shown all ∙ ap (list_all (list_all (λ one. nat_lt one.atom atoms && one.within atoms))) e ∙ literals_shown (outcome_lists effect) ∙ literals_within effect over
    where
      literals_shown : (lists : List (List Literal)) → list_all (list_all (λ one. nat_lt one.atom atoms && one.within atoms)) (map (map shown_literal) lists) ≡ all_pass literal_within lists
      literals_shown [] = refl
      literals_shown (list ∷ lists) = λ i. list_all-map (λ (one : Shown). nat_lt one.atom atoms && one.within atoms) shown_literal list i && literals_shown lists i

abbrev HasSome : GroundEffect → Type 0
HasSome effect = has_members effect ≡ true → 0 < length (outcome_lists effect)

abbrev members : List ((effect : GroundEffect) × HasSome effect) → List GroundEffect
members parts = map (λ e. e.0) parts

product_some : (a b : ℕ) → 0 < a → 0 < b → 0 < a * b
product_some zero b h g = absurd (omega arith)
product_some (suc a) zero h g = absurd (omega arith)
product_some (suc a) (suc b) h g = grind arith

each_some : (parts : List ((effect : GroundEffect) × HasSome effect)) → list_all (λ part. part) (map has_members (members parts)) ≡ true → 0 < length (concatenations (map outcome_lists (members parts)))
each_some [] h = omega arith
each_some (part ∷ parts) h =
    let rest = each_some parts (and_second _ _ h) in
    let first = part.1 (and_first _ _ h) in
    let count = length-pairs (outcome_lists part.0) (concatenations (map outcome_lists (members parts))) in
    let all = product_some (length (outcome_lists part.0)) (length (concatenations (map outcome_lists (members parts)))) first rest in
    omega arith

choice_some : (parts : List ((effect : GroundEffect) × HasSome effect)) → not (nat_eq (length (map has_members (members parts))) 0) ≡ true → list_all (λ part. part) (map has_members (members parts)) ≡ true →
    0 < length (flat_map (λ part. part) (map outcome_lists (members parts)))
choice_some [] some h = absurd (true≢false (sym some))
choice_some (part ∷ parts) some h =
    let first = part.1 (and_first _ _ h) in
    let count = length-append (outcome_lists part.0) (flat_map (λ one. one) (map outcome_lists (members parts))) in
    omega arith

layer_some : (layer : GroundEffect-F ((effect : GroundEffect) × HasSome effect)) →
    members_step (map-GroundEffect GroundEffect Bool has_members (map-GroundEffect ((effect : GroundEffect) × HasSome effect) GroundEffect (λ e. e.0) layer)) ≡ true →
    0 < length (outcomes_step (map-GroundEffect GroundEffect (List (List Literal)) outcome_lists (map-GroundEffect ((effect : GroundEffect) × HasSome effect) GroundEffect (λ e. e.0) layer)))
layer_some (LiteralOf atom add) h = omega arith
layer_some (And parts) h = each_some parts.items h
layer_some (OneOf parts) h = choice_some parts.items (and_first _ _ h) (and_second _ _ h)
layer_some (When condition part) h = let count = length-map (outcome_lists part.value.0) (map (guarded condition)) in let some = part.value.1 h in omega arith

-- an effect whose choices have members has an outcome
pub outcomes_some : (effect : GroundEffect) → HasSome effect
outcomes_some = ind-GroundEffect HasSome (λ x y is.
    rw (fold-roll-GroundEffect Bool members_step x, fold-roll-GroundEffect (List (List Literal)) outcomes_step x)
    (let P : GroundEffect-F GroundEffect → Type 0 = λ z.
    members_step (map-GroundEffect GroundEffect Bool has_members z) ≡ true → 0 < length (outcomes_step (map-GroundEffect GroundEffect (List (List Literal)) outcome_lists z)) in
    subst P is (layer_some y)))

-- the meanings of outcomes that are extended one by one
pub shown_by_all : (more : List Shown) (xs ys : List (List Entry)) → length ys ≡ length xs → ((k : ℕ) → k < length ys → map shown (get_or ys k []) ≡ map shown (get_or xs k []) ++ more) →
    all_shown ys ≡ map (λ one. one ++ more) (all_shown xs)
shown_by_all more [] [] e h = refl
shown_by_all more [] (y ∷ ys) e h = absurd (omega arith)
shown_by_all more (x ∷ xs) [] e h = absurd (omega arith)
shown_by_all more (x ∷ xs) (y ∷ ys) e h = λ i. h 0 (omega arith) i ∷ shown_by_all more xs ys (omega arith) (λ k lt. h (suc k) (omega arith)) i
