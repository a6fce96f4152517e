-- Pairs of which each bars more than those before it, and the full cubes of states in which none bars an action.
use Rattle.std.proofs.Common.{◌≡◌, ℕ, ◌≤◌, List, [], ◌∷◌, ◌++◌, Bool, true, false, not, Some, take, length, slice_get, refl, sym, ap, ◌∙◌, subst, ⊎_elim, arith}
use Rattle.std.proofs.lemmas.Bool.{false≢true, true≢false}
use Rattle.std.proofs.lemmas.List.{take-append-le}
use Rattle.std.proofs.lemmas.List.Elements.{Contains-append_cases}
use Rattle.std.proofs.lemmas.Option.{none-some, slice_get_within}
use Rattle.std.proofs.Math.Seq.{take-append_seam}
use Rattle.fond_state.specs.Cubes.{LiesIn}
use Rattle.fond_task.specs.declared.task.Task.{Task}
use Rattle.fond_task.specs.Layers.{CubeView}
use Rattle.fond_task.specs.declared.rule.Pair.{Pair}
use Rattle.fond_regress.specs.Barred.{IsBarred}
use Rattle.fond_rules.specs.Targets.{AllContradict}
use Rattle.fond_draft.specs.Barring.{BarsMore, EachBarsMore}
use Rattle.fond_draft.proofs.Lists.{push_cases}

-- of no pairs each bars more
pub more_none : (task : Task) → EachBarsMore task []
more_none task number pair at = absurd (none-some pair at)

-- each bars more with one more at the end that does
pub more_pushed : (task : Task) (pairs : List Pair) (pair : Pair) → EachBarsMore task pairs → BarsMore task pairs pair → EachBarsMore task (pairs ++ pair ∷ [])
more_pushed task pairs pair each more number one at = ⊎_elim
    (λ was.
    let within : number ≤ length pairs = omega (arith, slice_get_within pairs number one was) in
    subst (λ (others : List Pair). BarsMore task others one) (sym (take-append-le number pairs (pair ∷ []) within)) (each number one was))
    (λ last.
    let before : take number (pairs ++ pair ∷ []) ≡ pairs = ap (λ n. take n (pairs ++ pair ∷ [])) last.0 ∙ take-append_seam pairs (pair ∷ []) in
    subst (λ (p : Pair). BarsMore task (take number (pairs ++ pair ∷ [])) p) last.1 (subst (λ (others : List Pair). BarsMore task others pair) (sym before) more))
    (push_cases pairs pair number one at)

-- the first pair after others bars more than they do
pub more_first : (task : Task) (pairs more : List Pair) (pair : Pair) → EachBarsMore task (pairs ++ pair ∷ more) → BarsMore task pairs pair
more_first task pairs more pair each =
    subst (λ (others : List Pair). BarsMore task others pair) (take-append_seam pairs (pair ∷ more)) (each (length pairs) pair (first_after pairs))
  where
    first_after : (xs : List Pair) → slice_get (xs ++ pair ∷ more) (length xs) ≡ Some pair
    first_after [] = refl
    first_after (x ∷ xs) = first_after xs

-- no pair bars an action in a state that lies in a cube which contradicts those of the action
pub free_by : (pairs : List Pair) (act : ℕ) (state : List Bool) (cube : CubeView) → LiesIn state cube → AllContradict pairs act cube → ¬ IsBarred pairs act state
free_by pairs act state cube lies all barred =
    let apart = all barred.pair barred.one barred.bars.0 in
    not_own apart.1 (sym (lies apart.0 apart.1 apart.2) ∙ barred.bars.1 apart.0 (not apart.1) apart.3)
  where
    not_own : (sign : Bool) → ¬ sign ≡ not sign
    not_own true is = true≢false is
    not_own false is = false≢true is

-- no pair of two lists bars an action if none of either does
pub barred_cases : (pairs more : List Pair) (act : ℕ) (state : List Bool) → ¬ IsBarred pairs act state → ¬ IsBarred more act state → ¬ IsBarred (pairs ++ more) act state
barred_cases pairs more act state free also barred = ⊎_elim
    (λ one. free (record { pair = barred.pair; one = one; bars = barred.bars }))
    (λ one. also (record { pair = barred.pair; one = one; bars = barred.bars }))
    (Contains-append_cases pairs more barred.pair barred.one)
