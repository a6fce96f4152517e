-- Ground actions, their outcomes, and lists of them.
use Rattle.std.proofs.Common.{◌≡◌, ℕ, zero, suc, ◌+◌, ◌-◌, ◌<◌, ◌≤◌, ◌∙◌, ◌&&◌, nat_le, nat_lt, Bool, true, List, [], ◌∷◌, ◌++◌, Some, Result, Ok, Err, IfErr, IsErrAnd, length, length-append, get_or, slice_get, take, map, refl, sym, ap, subst, arith}
use Rattle.std.specs.List.{AllZip, list_all}
use Rattle.std.proofs.lemmas.Bool.Decides.{nat_tests}
use Rattle.std.proofs.lemmas.List.Folds.{list_all-append}
use Rattle.fond_text.specs.Faults.{Refuses}
use Rattle.fond_text.specs.declared.fault.Fault.{Fault}
use Rattle.fond_text.specs.declared.fault.FrontError.{FrontError}
use Rattle.fond_text.specs.declared.fault.FrontError.TheVariants.{Refused, NoMemory}
use Rattle.fond_ast.specs.declared.task.LiftedTask.{LiftedTask}
use Rattle.fond_ast.specs.Outcomes.{Literal}
use Rattle.fond_ast.proofs.Bools.{and-both, and-parts}
use Rattle.fond_oneof.specs.Outcomes as ground
use Rattle.fond_oneof.specs.declared.effect.GroundEffect.{GroundEffect}
use Rattle.fond_task.specs.declared.task.Entry.{Entry}
use Rattle.fond_ground.specs.Effects.{HasOutcomes, StandsForLiteral}
use Rattle.fond_ground.specs.Grounds.{AreOutcomesOf, IsEntryOf}
use Rattle.fond_ground.proofs.Zips.{zip-trans, zip-length}

entry_stands : (task : LiftedTask) (literal : Literal) (number : ground.Literal) (entry : Entry) → StandsForLiteral task literal number → ground.IsEntryOf number entry → IsEntryOf task literal entry
entry_stands task literal number entry stands is = record {
  numbered = stands.numbered ∙ ap (λ n. Some n) (sym is.numbered);
  signed = is.signed ∙ stands.signed;
  valued = λ cube. is.valued cube ∙ stands.valued cube;
}

-- the entries of a ground effect's outcomes stand for the outcomes that the effect has
pub outcomes_stand : (task : LiftedTask) (lists : List (List Literal)) (effect : GroundEffect) (entries : List (List Entry)) → HasOutcomes task lists effect → ground.AreOutcomesOf (ground.outcome_lists effect) entries → AreOutcomesOf task lists entries
outcomes_stand task lists effect entries has are =
    zip-trans (AllZip (StandsForLiteral task)) (AllZip ground.IsEntryOf) (AllZip (IsEntryOf task))
    (λ list numbers some. zip-trans (StandsForLiteral task) ground.IsEntryOf (IsEntryOf task) (entry_stands task) list numbers some) lists (ground.outcome_lists effect) entries has.outcomes are

pub count_same : (task : LiftedTask) (lists : List (List Literal)) (effect : GroundEffect) → HasOutcomes task lists effect → length lists ≡ length (ground.outcome_lists effect)
count_same task lists effect has = zip-length (AllZip (StandsForLiteral task)) lists (ground.outcome_lists effect) has.outcomes

pub at_most : (n m : ℕ) → n ≤ m → nat_le n m ≡ true
at_most n m le = grind (arith, nat_tests)

pub within_most : (n m : ℕ) → nat_le n m ≡ true → n ≤ m
within_most n m h = grind (arith, nat_tests)

pub some_of : (n : ℕ) → 0 < n → nat_lt 0 n ≡ true
some_of n lt = grind (arith, nat_tests)

pub four : (a b c d : Bool) → a ≡ true → b ≡ true → c ≡ true → d ≡ true → (((a && b) && c) && d) ≡ true
four a b c d ha hb hc hd = and-both ((a && b) && c) d (and-both (a && b) c (and-both a b ha hb) hc) hd

pub refuses_map : (P Q : Fault → Type 0) → ((fault : Fault) → P fault → Q fault) → (e : FrontError) → Refuses P e → Refuses Q e
refuses_map P Q step (Refused fault) h = step fault h
refuses_map P Q step NoMemory h = tt

-- a test of a list, by its first item and the rest
pub all_first : {X : Type 0} (test : X → Bool) (xs : List X) (x : X) (rest : List X) → xs ≡ x ∷ rest → list_all test xs ≡ true → test x ≡ true
all_first test xs x rest is h = (and-parts (test x) (list_all test rest) (sym (ap (list_all test) is) ∙ h)).0

pub all_rest : {X : Type 0} (test : X → Bool) (xs : List X) (x : X) (rest : List X) → xs ≡ x ∷ rest → list_all test xs ≡ true → list_all test rest ≡ true
all_rest test xs x rest is h = (and-parts (test x) (list_all test rest) (sym (ap (list_all test) is) ∙ h)).1

pub all_pushed : {X : Type 0} (test : X → Bool) (xs next : List X) (x : X) → next ≡ xs ++ x ∷ [] → test x ≡ true → list_all test xs ≡ true → list_all test next ≡ true
all_pushed test xs next x is h before = ap (list_all test) is ∙ list_all-append test xs (x ∷ []) ∙ and-both (list_all test xs) _ before (and-both (test x) true h refl)

-- the item at an index of a list that is mapped
pub mapped_at : {X Y : Type 0} (f : X → Y) (xs : List X) (ys : List Y) (i : ℕ) (x : X) (y : Y) → ys ≡ map f xs → slice_get xs i ≡ Some x → y ≡ get_or ys i y → y ≡ f x
mapped_at f xs ys i x y is at got = got ∙ ap (λ list. get_or list i y) is ∙ here xs i at
  where
    here : (xs : List _) (i : ℕ) → slice_get xs i ≡ Some x → get_or (map f xs) i y ≡ f x
    here [] zero at = absurd (cc)
    here [] (suc i) at = absurd (cc)
    here (z ∷ zs) zero at = let same : z ≡ x = cc in ap f same
    here (z ∷ zs) (suc i) at = here zs i at

-- an index below the length has an item
pub item_at : {X : Type 0} (xs : List X) (i : ℕ) → i < length xs → (x : X) × (slice_get xs i ≡ Some x)
item_at [] i lt = absurd (omega arith)
item_at (x ∷ xs) zero lt = (x, refl)
item_at (x ∷ xs) (suc i) lt = item_at xs i (omega arith)

pub take_item : {X : Type 0} (xs : List X) (i : ℕ) (x : X) → slice_get xs i ≡ Some x → take (i + 1) xs ≡ take i xs ++ x ∷ []
take_item xs i x at = ap (λ n. take n xs) (let e : i + 1 ≡ suc i = omega arith in e) ∙ here xs i at
  where
    here : (xs : List _) (i : ℕ) → slice_get xs i ≡ Some x → take (suc i) xs ≡ take i xs ++ x ∷ []
    here [] zero at = absurd (cc)
    here [] (suc i) at = absurd (cc)
    here (y ∷ ys) zero at = let same : y ≡ x = cc in ap (λ z. z ∷ []) same
    here (y ∷ ys) (suc i) at = ap (λ rest. y ∷ rest) (here ys i at)

-- an error that a call hands on has what it had
pub handed_on : {T E : Type 0} (r : Result T E) (error : E) (P : E → Type 0) → IsErrAnd r (λ e. e ≡ error) → P error → IfErr r P
handed_on (Ok x) error P same holds = tt
handed_on (Err e) error P same holds = subst P (sym same) holds

-- the last item after a push is the one that was pushed
pub last_pushed : {X : Type 0} (xs : List X) (x y : X) → slice_get (xs ++ x ∷ []) (length (xs ++ x ∷ []) - 1) ≡ Some y → x ≡ y
last_pushed xs x y there = here xs (ap (λ n. slice_get (xs ++ x ∷ []) n) (count xs) ∙ there)
  where
    count : (xs : List _) → length xs ≡ length (xs ++ x ∷ []) - 1
    count xs = let long = length-append xs (x ∷ []) in omega (arith, long)

    here : (xs : List _) → slice_get (xs ++ x ∷ []) (length xs) ≡ Some y → x ≡ y
    here [] at = cc
    here (z ∷ zs) at = here zs at
