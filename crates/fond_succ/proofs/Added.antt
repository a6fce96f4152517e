-- Adding the states to which the outcomes of an action lead.
use Rattle.std.proofs.Common.{◌≡◌, ℕ, ◌+◌, ◌≤◌, ◌∙◌, ◌⊎◌, inl, inr, Bool, true, false, List, [], ◌∷◌, ◌++◌, map, fold, drop, length, Some, slice_get, refl, sym, ap, subst, arith, length-append}
use Rattle.std.specs.Prelude.{◌&&◌, nat_le, nat_lt, Contains, if◌then◌else◌}
use Rattle.std.specs.Bool.{beq}
use Rattle.std.specs.Cmp.{booleans_Decides}
use Rattle.std.specs.Cmp.Lexicographic.{pointwise, pointwise_decides}
use Rattle.std.specs.List.{flat_map, list_all, list_any}
use Rattle.std.proofs.lemmas.Bool.{and_parts}
use Rattle.std.proofs.lemmas.Bool.Decides.{nat_tests}
use Rattle.std.proofs.lemmas.List.{at_drop_more}
use Rattle.std.proofs.lemmas.Option.{slice_get_within, get_or_from_slice_get}
use Rattle.fond_store.specs.Stores.{Adds}
use Rattle.fond_store.proofs.Kept.{missing}
use Rattle.fond_task.specs.Steps.{next_state}
use Rattle.fond_task.specs.Within.{is_act_within, is_entry_within, is_form_within}
use Rattle.fond_task.specs.declared.task.Act.{Act}
use Rattle.fond_task.specs.declared.task.Entry.{Entry}
use Rattle.fond_task.specs.declared.task.Task.{Task}
use Rattle.fond_ast.proofs.Come.{all-at}
use Rattle.fond_ast.proofs.Members.{Contains-from_Member, Member}
use Rattle.fond_ast.proofs.Tested.{some-member}
use Rattle.fond_succ.specs.Steps.{added}

-- an action of a task has few outcomes
pub few_outcomes : (game : Task) (number : ℕ) (act : Act) → slice_get game.acts number ≡ Some act → length act.outcomes ≤ 256
few_outcomes game number act at =
    let within = all-at (is_act_within (length game.atoms)) game.acts number act at game.acts_within in
    let both = and_parts (is_form_within (length game.atoms) act.pre && nat_lt 0 (length act.outcomes) && nat_le (length act.outcomes) 256) (list_all (list_all (is_entry_within (length game.atoms))) act.outcomes) within in
    let few : nat_le (length act.outcomes) 256 ≡ true = (and_parts (is_form_within (length game.atoms) act.pre && nat_lt 0 (length act.outcomes)) (nat_le (length act.outcomes) 256) both.0).1 in
    grind (arith, nat_tests, few)

there : (states : List (List Bool)) (state : List Bool) → list_any (pointwise beq state) states ≡ true → Contains states state
there states state any =
    let one = some-member (pointwise beq state) states any in
    Contains-from_Member states state (subst (Member states) (sym ((pointwise_decides booleans_Decides state one.0).0 one.2)) one.1)

-- a state that is added is added once
pub is_added : (old new : List (List Bool)) (state : List Bool) (number : ℕ) → Adds old state number new → new ≡ added old state
is_added old new state number adds = by (list_any (pointwise beq state) old) refl adds.kept_or_last
  where
    by : (b : Bool) → list_any (pointwise beq state) old ≡ b → (Contains old state × (new ≡ old)) ⊎ ((¬ Contains old state) × (number ≡ length old) × (new ≡ old ++ state ∷ [])) → new ≡ (if b then old else old ++ state ∷ [])
    by true found (inl kept) = kept.1
    by false none (inl kept) = absurd (missing old state none kept.0)
    by true found (inr last) = absurd (last.0 (there old state found))
    by false none (inr last) = last.2

-- a store grows by one state at most
pub grows_by_one : (old new : List (List Bool)) (state : List Bool) (number : ℕ) → Adds old state number new → length new ≤ length old + 1
grows_by_one old new state number adds = by adds.kept_or_last
  where
    by : (Contains old state × (new ≡ old)) ⊎ ((¬ Contains old state) × (number ≡ length old) × (new ≡ old ++ state ∷ [])) → length new ≤ length old + 1
    by (inl kept) = let same = ap length kept.1 in omega (arith, same)
    by (inr last) = let same = ap length last.2 ∙ length-append old (state ∷ []) in omega (arith, same)

-- one more outcome
pub one_more : (init : List Bool) (outcomes : List (List Entry)) (k : ℕ) (entries : List Entry) (old new whole : List (List Bool)) → slice_get outcomes k ≡ Some entries → new ≡ added old (next_state init entries)
    → fold added old (map (next_state init) (drop k outcomes)) ≡ whole → fold added new (map (next_state init) (drop (k + 1) outcomes)) ≡ whole
one_more init outcomes k entries old new whole at is before =
    let split : drop k outcomes ≡ entries ∷ drop (k + 1) outcomes =
    at_drop_more (λ rest. rest) outcomes k entries (slice_get_within outcomes k entries at) ∙ ap (λ y. y ∷ drop (k + 1) outcomes) (get_or_from_slice_get outcomes k entries entries at) in
    ap (λ states. fold added states (map (next_state init) (drop (k + 1) outcomes))) is ∙ sym (ap (λ rest. fold added old (map (next_state init) rest)) split) ∙ before

-- one more text
pub text_more : {X : Type 0} (text : X → List ℕ) (xs : List X) (i : ℕ) (x : X) → slice_get xs i ≡ Some x → flat_map text (drop i xs) ≡ text x ++ flat_map text (drop (i + 1) xs)
text_more text xs i x at =
    at_drop_more (flat_map text) xs i x (slice_get_within xs i x at) ∙ ap (λ y. text y ++ flat_map text (drop (i + 1) xs)) (get_or_from_slice_get xs i x x at)
