-- States without repetition.
use Rattle.std.proofs.Common.{◌≡◌, ◌⊎◌, inl, inr, ◌∙◌, Bool, true, false, List, [], ◌∷◌, ◌++◌, map, fold, refl, sym, subst}
use Rattle.std.specs.Prelude.{if◌then◌else◌}
use Rattle.std.specs.List.{list_any}
use Rattle.std.specs.FinSet as set
use Rattle.std.proofs.lemmas.Bool.{false≢true}
use Rattle.fond_text.specs.Lists.{AreDistinct}
use Rattle.fond_ast.specs.States.{State}
use Rattle.fond_ast.specs.Outcomes.{is_same_state, once, outcomes, state_after}
use Rattle.fond_ast.specs.Laws.{SuccessorsAreOutcomes}
use Rattle.fond_ast.proofs.Atoms.{atom_cmp_total, atom_cmp-IsAntisymmetric}
use Rattle.fond_ast.proofs.Bools.{and-both, and-parts}
use Rattle.fond_ast.proofs.Members.{Member, Member-from_Contains, Contains-from_Member, Member-left, Member-right, Member-cases}
use Rattle.fond_ast.proofs.Tested.{some-member, member-some}

from-tests : (a b : Bool) → (a ≡ true → b ≡ true) → (b ≡ true → a ≡ true) → a ≡ b
from-tests true b f g = sym (f refl)
from-tests false true f g = g refl
from-tests false false f g = refl

-- states with the same atoms are the same, and the test says so of a state and itself
pub same-states : (state other : State) → is_same_state state other ≡ true → state ≡ other
same-states state other is =
    let both = and-parts (set.is_subset state other) (set.is_subset other state) is in
    set.same_set atom_cmp_total atom_cmp-IsAntisymmetric state other (λ q. from-tests _ _ (set.is_subset-contains atom_cmp_total state other both.0 q) (set.is_subset-contains atom_cmp_total other state both.1 q))

pub same-itself : (state : State) → is_same_state state state ≡ true
same-itself state = let all = set.contains-is_subset atom_cmp_total state state (λ q h. h) in and-both _ _ all all

abbrev put : List State → State → List State
put before state = if list_any (is_same_state state) before then before else before ++ state ∷ []

stays : (b : Bool) (before : List State) (state x : State) → Member before x → Member (if b then before else before ++ state ∷ []) x
stays true before state x m = m
stays false before state x m = Member-left before (state ∷ []) x m

came : (b : Bool) (before : List State) (state x : State) → Member (if b then before else before ++ state ∷ []) x → Member before x ⊎ (x ≡ state)
came true before state x m = inl m
came false before state x m = elim (Member-cases before (state ∷ []) x m) [ inl h ↦ inl h | inr h ↦ elim h [ inl e ↦ inr e | inr none ↦ absurd none ] ]

-- the state that is put, or an earlier one that is the same
put-has : (before : List State) (state : State) (b : Bool) → list_any (is_same_state state) before ≡ b → Member (if b then before else before ++ state ∷ []) state
put-has before state true e = let earlier = some-member (is_same_state state) before e in subst (Member before) (sym (same-states state earlier.0 earlier.2)) earlier.1
put-has before state false e = Member-right before (state ∷ []) state (inl refl)

once-from : (states before : List State) (x : State) → Member (fold put before states) x → Member before x ⊎ Member states x
once-from [] before x m = inl m
once-from (state ∷ states) before x m =
    elim (once-from states (put before state) x m)
    [ inl h ↦ elim (came (list_any (is_same_state state) before) before state x h) [ inl k ↦ inl k | inr e ↦ inr (inl e) ] | inr h ↦ inr (inr h) ]

once-stays : (states before : List State) (x : State) → Member before x → Member (fold put before states) x
once-stays [] before x m = m
once-stays (state ∷ states) before x m = once-stays states (put before state) x (stays (list_any (is_same_state state) before) before state x m)

once-has : (states before : List State) (x : State) → Member states x → Member (fold put before states) x
once-has [] before x none = absurd none
once-has (state ∷ states) before x (inl e) =
    once-stays states (put before state) x (subst (Member (put before state)) (sym e) (put-has before state (list_any (is_same_state state) before) refl))
once-has (state ∷ states) before x (inr m) = once-has states (put before state) x m

-- a list of distinct states with a new one appended
one-more : (states : List State) (state : State) → AreDistinct states → (¬ Member states state) → AreDistinct (states ++ state ∷ [])
one-more [] state distinct new = (λ has. Member-from_Contains [] state has, tt)
one-more (other ∷ states) state distinct new = (
  λ has. elim (Member-cases states (state ∷ []) other (Member-from_Contains (states ++ state ∷ []) other has)) [
    | inl m ↦ distinct.0 (Contains-from_Member states other m)
    | inr m ↦ elim m [ inl e ↦ new (inl (sym e)) | inr none ↦ absurd none ]
  ],
  one-more states state distinct.1 (λ m. new (inr m)),
)

put-distinct : (before : List State) (state : State) → AreDistinct before → (b : Bool) → list_any (is_same_state state) before ≡ b → AreDistinct (if b then before else before ++ state ∷ [])
put-distinct before state distinct true e = distinct
put-distinct before state distinct false e = one-more before state distinct (λ m. false≢true (sym e ∙ member-some (is_same_state state) before state m (same-itself state)))

once-distinct : (states before : List State) → AreDistinct before → AreDistinct (fold put before states)
once-distinct [] before distinct = distinct
once-distinct (state ∷ states) before distinct = once-distinct states (put before state) (put-distinct before state distinct (list_any (is_same_state state) before) refl)

pub successors-are-outcomes : SuccessorsAreOutcomes
successors-are-outcomes state env effect =
    let states = map (state_after state) (outcomes env effect) in (
      once-distinct states [] tt,
      λ next. (
        λ c. Contains-from_Member states next (elim (once-from states [] next (Member-from_Contains (once states) next c)) [ inl none ↦ absurd none | inr m ↦ m ]),
        λ c. Contains-from_Member (once states) next (once-has states [] next (Member-from_Contains states next c)),
      ),
    )
