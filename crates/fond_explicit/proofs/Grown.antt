-- More states.
use Rattle.std.proofs.Common.{◌≡◌, ℕ, zero, suc, ◌+◌, ◌<◌, ◌≤◌, List, [], ◌∷◌, ◌++◌, Bool, true, Some, length, slice_get, sym, ap, ◌∙◌, subst, ⊎_elim, arith, take, get_or, append_assoc, append-nil}
use Rattle.std.proofs.lemmas.Grind.{common_steps}
use Rattle.std.proofs.lemmas.List.{take_more}
use Rattle.std.specs.Prelude.{nat_le}
use Rattle.std.proofs.lemmas.Bool.{and_parts, leb-true}
use Rattle.std.proofs.lemmas.List.Elements.{Contains-append_cases}
use Rattle.std.proofs.lemmas.Option.{none-some}
use Rattle.fond_task.specs.declared.task.Act.{Act}
use Rattle.fond_task.specs.declared.task.Entry.{Entry}
use Rattle.fond_task.specs.declared.task.Task.{Task}
use Rattle.fond_task.specs.Steps.{next_state}
use Rattle.fond_task.specs.Within.{is_act_within}
use Rattle.fond_task.proofs.Found.{all_at}
use Rattle.fond_task.specs.Policies.{IsNext}
use Rattle.fond_task.proofs.Lists.{Contains-cases}
use Rattle.fond_explicit.specs.Spaces.{AreNexts}
use Rattle.fond_explicit.specs.Openings.{IsKeptAs, IsGrown}
use Rattle.fond_explicit.proofs.Distinct.{nothing_in}

module _ {X : Type 0} where
  pub front_stays : (xs ys : List X) (i : ℕ) (x : X) → slice_get xs i ≡ Some x → slice_get (xs ++ ys) i ≡ Some x
  front_stays [] ys i x is = absurd (none-some x is)
  front_stays (y ∷ xs) ys zero x is = is
  front_stays (y ∷ xs) ys (suc i) x is = front_stays xs ys i x is

  pub front_was : (xs ys : List X) (i : ℕ) (x : X) → i < length xs → slice_get (xs ++ ys) i ≡ Some x → slice_get xs i ≡ Some x
  front_was [] ys i x small is = absurd (omega (arith, small))
  front_was (y ∷ xs) ys zero x small is = is
  front_was (y ∷ xs) ys (suc i) x small is = front_was xs ys i x (omega (arith, small)) is

-- an action of a task has few outcomes
pub few_outcomes : (task : Task) (number : ℕ) (act : Act) → slice_get task.acts number ≡ Some act → length act.outcomes ≤ 256
few_outcomes task number act at =
    let within : is_act_within (length task.atoms) act ≡ true = all_at (is_act_within (length task.atoms)) task.acts number act task.acts_within at in
    let few : nat_le (length act.outcomes) 256 ≡ true = (and_parts _ _ (and_parts _ _ within).0).1 in
    leb-true (length act.outcomes) 256 few

-- states that are kept stay under their numbers
abbrev pub Stay : List (List Bool) → List (List Bool) → Type 0
Stay old new = (node : ℕ) (state : List Bool) → slice_get old node ≡ Some state → slice_get new node ≡ Some state

pub nexts_stay : (old new : List (List Bool)) → Stay old new → (state : List Bool) (nodes : List ℕ) (outcomes : List (List Entry)) → AreNexts old state nodes outcomes → AreNexts new state nodes outcomes
nexts_stay old new stay state [] [] nexts = tt
nexts_stay old new stay state [] (outcome ∷ outcomes) nexts = nexts
nexts_stay old new stay state (node ∷ nodes) [] nexts = nexts
nexts_stay old new stay state (node ∷ nodes) (outcome ∷ outcomes) nexts = (stay node (next_state state outcome) nexts.0, nexts_stay old new stay state nodes outcomes nexts.1)

pub nexts_push : (states : List (List Bool)) (state : List Bool) (nodes : List ℕ) (outcomes : List (List Entry)) (node : ℕ) (outcome : List Entry) → AreNexts states state nodes outcomes →
    slice_get states node ≡ Some (next_state state outcome) → AreNexts states state (nodes ++ node ∷ []) (outcomes ++ outcome ∷ [])
nexts_push states state [] [] node outcome nexts is = (is, tt)
nexts_push states state [] (first ∷ outcomes) node outcome nexts is = absurd nexts
nexts_push states state (first ∷ nodes) [] node outcome nexts is = absurd nexts
nexts_push states state (first ∷ nodes) (other ∷ outcomes) node outcome nexts is = (nexts.0, nexts_push states state nodes outcomes node outcome nexts.1 is)

pub kept_stay : (old new : List (List Bool)) (next : List Bool) (number : ℕ) → IsKeptAs old next number new → Stay old new
kept_stay old new next number kept node state is = ⊎_elim
    (λ same. ap (λ xs. slice_get xs node) same ∙ is)
    (λ more. ap (λ xs. slice_get xs node) more ∙ front_stays old (next ∷ []) node state is)
    kept.grown

pub grown_stay : (task : Task) (state : List Bool) (old new : List (List Bool)) → IsGrown task state old new → Stay old new
grown_stay task state old new grown node other is = ap (λ xs. slice_get xs node) grown.added ∙ front_stays old grown.more node other is

pub grown_none : (task : Task) (state : List Bool) (states : List (List Bool)) → IsGrown task state states states
grown_none task state states = record { more = []; added = sym (append-nil states); each = λ next has. absurd (nothing_in next has) }

pub grown_then : (task : Task) (state : List Bool) (old between new : List (List Bool)) → IsGrown task state old between → IsGrown task state between new → IsGrown task state old new
grown_then task state old between new one two = record {
  more = one.more ++ two.more;
  added = two.added ∙ ap (λ xs. xs ++ two.more) one.added ∙ append_assoc old one.more two.more;
  each = λ next has. ⊎_elim (λ early. one.each next early) (λ late. two.each next late) (Contains-append_cases one.more two.more next has);
}

-- a state to which an action may lead is kept
pub grown_one : (task : Task) (state : List Bool) (old new : List (List Bool)) (next : List Bool) (act number : ℕ) → IsNext task state act next → IsKeptAs old next number new → IsGrown task state old new
grown_one task state old new next act number leads kept = ⊎_elim
    (λ same. subst (IsGrown task state old) (sym same) (grown_none task state old))
    (λ more. record { more = next ∷ []; added = more; each = λ other has. ⊎_elim (λ same. (act, subst (IsNext task state act) same leads)) (λ none. absurd (nothing_in other none)) (Contains-cases other next [] has) })
    kept.grown

-- one more outcome leads to a node
pub nexts_more : (old new : List (List Bool)) → Stay old new → (state : List Bool) (targets after : List ℕ) (outcomes : List (List Entry)) (k node : ℕ) → k < length outcomes → AreNexts old state targets (take k outcomes) →
    slice_get new node ≡ Some (next_state state (get_or outcomes k [])) → after ≡ targets ++ node ∷ [] → AreNexts new state after (take (k + 1) outcomes)
nexts_more old new stay state targets after outcomes k node within nexts is more =
    let longer = nexts_push new state targets (take k outcomes) node (get_or outcomes k []) (nexts_stay old new stay state targets (take k outcomes) nexts) is in
    let P : List (List Entry) → Type 0 = λ os. AreNexts new state after os in
    let Q : List ℕ → Type 0 = λ ts. AreNexts new state ts (take k outcomes ++ get_or outcomes k [] ∷ []) in
    subst P (sym (take_more outcomes k [] within)) (subst Q (sym more) longer)

pub take_whole : {X : Type 0} (xs : List X) (k : ℕ) → length xs ≤ k → take k xs ≡ xs
take_whole xs k all = grind (arith, common_steps)
