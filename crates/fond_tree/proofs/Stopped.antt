-- The fault at which reading stops, whatever tokens come before.
use Rattle.std.proofs.Common.{◌≡◌, ◌≢◌, ℕ, ◌+◌, ◌-◌, ◌≤◌, ◌<◌, Bool, true, false, nat_lt, List, [], ◌∷◌, ◌++◌, refl, sym, ◌∙◌, ap, inl, arith, append_assoc, subst, Result, Ok, Err, IfErr, IsErrAnd}
use Rattle.std.proofs.lemmas.Bool.Decides.{nat_tests}
use Rattle.fond_text.specs.Faults.{Refuses}
use Rattle.fond_text.specs.declared.code.TheConstants.{DEEPEST}
use Rattle.fond_text.specs.declared.fault.FrontError.{FrontError}
use Rattle.fond_text.specs.declared.fault.FrontError.TheVariants.{Refused, NoMemory}
use Rattle.fond_text.specs.declared.place.FileKind.{FileKind}
use Rattle.fond_text.specs.declared.place.Place.{Place}
use Rattle.fond_tree.specs.Faults.{Shape, OneTree, Forest, opened, closed, AreRight, IsFaulty}
use Rattle.fond_tree.specs.Marks.{Mark, marked}
use Rattle.fond_tree.specs.Reading.{IsReady, IsFault, Stops}
use Rattle.fond_tree.specs.Tokens.{Opens}
use Rattle.fond_tree.specs.declared.tree.Tree.{Tree}
use Rattle.fond_tree.proofs.Right.{IsOpen, HasBegun, has_begun, open_unfinished, right_join, right_empty, opened-append, closed-append, opened-push, closed-push}
use Rattle.fond_tree.proofs.Balanced.{trees_right, forest_right, fronts_balanced}
use Rattle.fond_tree.proofs.Members.{Along}

-- an error that is handed on is the one that it came as
pub handed_on : {T : Type 0} (r : Result T FrontError) (error : FrontError) (P : FrontError → Type 0) → IsErrAnd r (λ e. e ≡ error) → P error → IfErr r P
handed_on (Ok x) error P h said = tt
handed_on (Err e) error P h said = subst P (sym h) said

-- a tree may begin a text
pub ready_empty : (shape : Shape) → IsReady shape DEEPEST []
ready_empty OneTree = record { right = right_empty OneTree; counted = refl; unfinished = λ whole. whole.0 refl }
ready_empty Forest = record { right = right_empty Forest; counted = refl; unfinished = λ whole. whole }

-- a tree has begun if a parenthesis is open after tokens that a tree may follow
ready_begun : (shape : Shape) (left : ℕ) (before : List Mark) → left ≤ DEEPEST → IsReady shape left before → HasBegun shape before (nat_lt left DEEPEST)
ready_begun OneTree left before small ready = at_test (nat_lt left DEEPEST) refl where
  none_left : nat_lt left DEEPEST ≡ false → DEEPEST ≤ left
  none_left e = grind (arith, nat_tests)

  at_test : (v : Bool) → nat_lt left DEEPEST ≡ v → before ≢ [] → v ≡ true
  at_test true e some = refl
  at_test false e some = absurd (ready.unfinished (some, omega (arith, ready.counted, none_left e)))
ready_begun Forest left before small ready = tt

-- the number of open parentheses after tokens that a tree may follow
ready_open : (shape : Shape) (left : ℕ) (before : List Mark) → left ≤ DEEPEST → IsReady shape left before → IsOpen shape before (nat_lt left DEEPEST) (DEEPEST - left)
ready_open shape left before small ready = record { some = ready_begun shape left before small ready; counted = omega (arith, ready.counted) }

some_open : (left : ℕ) → nat_lt left DEEPEST ≡ true → 0 < DEEPEST - left
some_open left e = let small : left < DEEPEST = grind (arith, nat_tests) in omega arith

-- members may follow an opening parenthesis
ready_members : (shape : Shape) (left : ℕ) (place : Place) (before : List Mark) → 0 < left → left ≤ DEEPEST → IsReady shape left before → IsReady shape (left - 1) (before ++ marked place (Opens place) ∷ [])
ready_members shape left place before some small ready = record {
  right = right_join shape before (marked place (Opens place) ∷ []) (nat_lt left DEEPEST) (DEEPEST - left) ready.right (ready_open shape left before small ready) ((some_open left, omega arith), tt);
  counted = omega (arith, ready.counted, opens, closes);
  unfinished = open_unfinished shape _ (omega (arith, ready.counted, opens, closes));
} where
  opens : opened (before ++ marked place (Opens place) ∷ []) ≡ opened before + 1
  opens = opened-push before (marked place (Opens place))

  closes : closed (before ++ marked place (Opens place) ∷ []) ≡ closed before + 0
  closes = closed-push before (marked place (Opens place))

-- another member may follow members
ready_along : (shape : Shape) (left : ℕ) (before old now : List Mark) (trees : List Tree) → left < DEEPEST → IsReady shape left before → (along : Along left old trees now) → IsReady shape left (before ++ along.front)
ready_along shape left before old now trees small ready along = record {
  right = trees_right shape trees before along.front (DEEPEST - left) left ready.right is_open (omega arith) (omega arith) along.deep along.spelled;
  counted = omega (arith, ready.counted, same, opened-append before along.front, closed-append before along.front);
  unfinished = open_unfinished shape _ (omega (arith, ready.counted, same, opened-append before along.front, closed-append before along.front));
} where
  same : opened along.front ≡ closed along.front
  same = fronts_balanced trees along.front along.spelled

  is_open : IsOpen shape before true (DEEPEST - left)
  is_open = record { some = has_begun shape before; counted = omega (arith, ready.counted) }

-- another tree may follow the trees of a forest
pub ready_forest : (old now : List Mark) (trees : List Tree) → (along : Along DEEPEST old trees now) → IsReady Forest DEEPEST along.front
ready_forest old now trees along = record {
  right = forest_right trees along.front along.deep along.spelled;
  counted = omega (arith, fronts_balanced trees along.front along.spelled);
  unfinished = λ whole. whole;
}

-- a token that is faulty after tokens that are right is the fault
pub token_fault : (shape : Shape) (before old new : List Mark) (mark : Mark) (end : Place) (code : ℕ) → old ≡ mark ∷ new → AreRight shape before → IsFaulty shape before mark.token code →
    IsFault shape (before ++ old) end mark.at code
token_fault shape before old new mark end code e right faulty = inl (record { before = before; item = mark; after = new; split = ap (λ ms. before ++ ms) e; has = (right, faulty, refl) })

-- what stops the members stops the node
pub node_stops : (file : FileKind) (left : ℕ) (place end later : Place) (old mid : List Mark) (error : FrontError) → 0 < left → left ≤ DEEPEST → old ≡ marked place (Opens place) ∷ mid → later ≡ end →
    Refuses (Stops file (left - 1) mid later) error → Refuses (Stops file left old end) error
node_stops file left place end later old mid (Refused fault) some small e same stops = (
  stops.0,
  λ shape before ready.
      subst (λ (p : Place). IsFault shape (before ++ old) p fault.place fault.code) same
      (subst (λ (ms : List Mark). IsFault shape ms later fault.place fault.code) (append_assoc before (marked place (Opens place) ∷ []) mid ∙ ap (λ ms. before ++ ms) (sym e))
      (stops.1 shape (before ++ marked place (Opens place) ∷ []) (ready_members shape left place before some small ready))),
)
node_stops file left place end later old mid NoMemory some small e same stops = tt

-- what stops a member stops the members
pub along_stops : (file : FileKind) (left : ℕ) (end later : Place) (old now : List Mark) (trees : List Tree) (error : FrontError) → left < DEEPEST → Along left old trees now → later ≡ end →
    Refuses (Stops file left now later) error → Refuses (Stops file left old end) error
along_stops file left end later old now trees (Refused fault) small along same stops = (
  stops.0,
  λ shape before ready.
      subst (λ (p : Place). IsFault shape (before ++ old) p fault.place fault.code) same
      (subst (λ (ms : List Mark). IsFault shape ms later fault.place fault.code) (append_assoc before along.front now ∙ ap (λ ms. before ++ ms) (sym along.split))
      (stops.1 shape (before ++ along.front) (ready_along shape left before old now trees small ready along))),
)
along_stops file left end later old now trees NoMemory small along same stops = tt
