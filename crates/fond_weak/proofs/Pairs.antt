-- Pairs that bar an action in a state, by the full cube of the state.
use Rattle.std.proofs.Common.{◌≡◌, ℕ, List, [], ◌∷◌, Bool, true, false, not, length, refl, ap, ◌∙◌, subst, ⊎_elim, inl, inr}
use Rattle.std.specs.Prelude.{◌⊎◌, Contains, Decides}
use Rattle.std.proofs.lemmas.Bool.{cases_eq, false≢true}
use Rattle.fond_state.specs.Cubes.{Contradicts, full_cube}
use Rattle.fond_task.specs.Layers.{CubeView}
use Rattle.fond_task.specs.declared.rule.Pair.{Pair}
use Rattle.fond_task.proofs.Lists.{Contains-here, Contains-later, Contains-cases}
use Rattle.fond_rules.specs.Targets.{AllContradict}
use Rattle.fond_explicit.proofs.Distinct.{nothing_in}
use Rattle.fond_regress.specs.Barred.{IsBarred}
use Rattle.fond_weak.proofs.Full.{lies_not, apart_or_lies}

contradicts_more : (pair : Pair) (pairs : List Pair) (act : ℕ) (cube : CubeView) → (pair.act ≡ act → Contradicts cube pair.cond) → AllContradict pairs act cube → AllContradict (pair ∷ pairs) act cube
contradicts_more pair pairs act cube here rest other has same = ⊎_elim
    (λ (is : pair ≡ other).
    let P : Pair → Type 0 = λ p. Contradicts cube p.cond in
    subst P is (here (ap (λ (p : Pair). p.act) is ∙ same)))
    (λ later. rest other later same)
    (Contains-cases other pair pairs has)

-- a pair bars an action in a state, or the full cube of the state contradicts the conditions of all pairs of the action
barred_or_free : (pairs : List Pair) (act : ℕ) (state : List Bool) → ((pair : Pair) → Contains pairs pair → length pair.cond ≡ length state) → IsBarred pairs act state ⊎ AllContradict pairs act (full_cube state)
barred_or_free [] act state over = inr (λ pair has same. absurd (nothing_in pair has))
barred_or_free (pair ∷ pairs) act state over = ⊎_elim
    (λ barred. inl (record { pair = barred.pair; one = Contains-later barred.pair pair pairs barred.one; bars = barred.bars }))
    (λ free. ⊎_elim
    (λ same. ⊎_elim
    (λ apart. inr (contradicts_more pair pairs act (full_cube state) (λ is. apart) free))
    (λ lies. inl (record { pair = pair; one = Contains-here pair pairs; bars = (same, lies) }))
    (apart_or_lies state pair.cond (over pair (Contains-here pair pairs))))
    (λ differs. inr (contradicts_more pair pairs act (full_cube state) (λ is. absurd (differs is)) free))
    (cases_eq pair.act act))
    (barred_or_free pairs act state (λ other has. over other (Contains-later other pair pairs has)))

-- a test whether all pairs of an action are contradicted decides whether one bars it
pub barred_Decides : (pairs : List Pair) (act : ℕ) (state : List Bool) (free : Bool) → ((pair : Pair) → Contains pairs pair → length pair.cond ≡ length state) → Decides free (AllContradict pairs act (full_cube state)) → Decides (not free) (IsBarred pairs act state)
barred_Decides pairs act state true over decides = (
  λ e. absurd (false≢true e),
  λ barred. absurd (lies_not state barred.pair.cond barred.bars.1 (decides.0 refl barred.pair barred.one barred.bars.0)),
)
barred_Decides pairs act state false over decides = (
  λ e. ⊎_elim (λ barred. barred) (λ free. absurd (false≢true (decides.1 free))) (barred_or_free pairs act state over),
  λ barred. refl,
)
