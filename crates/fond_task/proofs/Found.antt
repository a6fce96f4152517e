-- What holds of the element at an index.
use Rattle.std.proofs.Common.{◌≡◌, ℕ, zero, suc, ◌+◌, List, [], ◌∷◌, Bool, true, Some, drop, get_or, slice_get, add-one, sym, ap, ◌∙◌}
use Rattle.std.specs.List.{list_all}
use Rattle.std.proofs.Math.Seq.{drop-cons}
use Rattle.std.proofs.lemmas.Bool.{and_parts}
use Rattle.std.proofs.lemmas.Option.{none-some, same_Some, slice_get_within, get_or_from_slice_get}
use Rattle.fond_task.specs.declared.task.Act.{Act}
use Rattle.fond_task.specs.declared.task.Entry.{Entry}
use Rattle.fond_task.specs.Within.{is_form_within, is_entry_within, is_act_within}

-- if each element of a list passes a test, the one at an index does
pub all_at : {X : Type 0} (test : X → Bool) (xs : List X) (i : ℕ) (x : X) → list_all test xs ≡ true → slice_get xs i ≡ Some x → test x ≡ true
all_at test [] i x all is = absurd (none-some x is)
all_at test (y ∷ ys) zero x all is = ap test (sym (same_Some y x is)) ∙ (and_parts _ _ all).0
all_at test (y ∷ ys) (suc i) x all is = all_at test ys i x (and_parts _ _ all).1 is

-- the rest of a list from an index on is the element there and the rest after it
pub drop_at : {X : Type 0} (xs : List X) (i : ℕ) (x : X) → slice_get xs i ≡ Some x → drop i xs ≡ x ∷ drop (i + 1) xs
drop_at xs i x is =
    let next : drop i xs ≡ get_or xs i x ∷ drop (suc i) xs = drop-cons xs i x (slice_get_within xs i x is) in
    rw (add-one i) (next ∙ ap (λ y. y ∷ drop (suc i) xs) (get_or_from_slice_get xs i x x is))

-- the precondition of an action is over the atoms
pub pre_within : (atoms : ℕ) (acts : List Act) (i : ℕ) (act : Act) → list_all (is_act_within atoms) acts ≡ true → slice_get acts i ≡ Some act → is_form_within atoms act.pre ≡ true
pre_within atoms acts i act all is = (and_parts _ _ (and_parts _ _ (and_parts _ _ (all_at (is_act_within atoms) acts i act all is)).0).0).0

-- the entries of an outcome of an action are over the atoms
pub outcome_within : (atoms : ℕ) (acts : List Act) (i : ℕ) (act : Act) (k : ℕ) (entries : List Entry) →
    list_all (is_act_within atoms) acts ≡ true → slice_get acts i ≡ Some act → slice_get act.outcomes k ≡ Some entries → list_all (is_entry_within atoms) entries ≡ true
outcome_within atoms acts i act k entries all is at =
    all_at (list_all (is_entry_within atoms)) act.outcomes k entries (and_parts _ _ (all_at (is_act_within atoms) acts i act all is)).1 at

-- an action and an outcome of it have one list of entries
pub same_entries : (acts : List Act) (i k : ℕ) (act other : Act) (entries more : List Entry) → slice_get acts i ≡ Some act → slice_get acts i ≡ Some other →
    slice_get act.outcomes k ≡ Some entries → slice_get other.outcomes k ≡ Some more → entries ≡ more
same_entries acts i k act other entries more is and at there =
    let same : act ≡ other = same_Some act other (sym is ∙ and) in
    same_Some entries more (sym at ∙ ap (λ (a : Act). slice_get a.outcomes k) same ∙ there)
