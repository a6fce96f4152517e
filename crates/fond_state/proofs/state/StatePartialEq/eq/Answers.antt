use Rattle.std.proofs.Common.{◌≡◌, ◌∙◌, ℕ, List, Bool, true, false, Decides, length, nat_eq, refl, ap, sym, eq-eqb}
use Rattle.std.specs.Cmp.{booleans_Decides}
use Rattle.std.specs.Cmp.Lexicographic.{pointwise}
use Rattle.std.specs.Bool.{beq}
use Rattle.std.proofs.lemmas.Bool.{false_from_ne_true, false≢true, eqb-true, ne_eqb}
use Rattle.std.proofs.lemmas.Slice.Eq.{slice_eq-Decides}
use Rattle.fond_state.specs.Words.{packed, truths_from}
use Rattle.fond_state.proofs.Words.{length-truths_from}
use Rattle.fond_state.proofs.Packs.{words_packed}
use Rattle.fond_state.proofs.state.StatePartialEq.eq.Goals as goal

-- two tests that decide one fact are the same
same_tests : (a b : Bool) (P : Type 0) → Decides a P → Decides b P → a ≡ b
same_tests true b P x y = sym (y.1 (x.0 refl))
same_tests false b P x y = sym (false_from_ne_true b (λ is. false≢true (x.1 (y.0 is))))

same_numbers : (a b : ℕ) → Decides (nat_eq a b) (a ≡ b)
same_numbers a b = (λ e. eqb-true a b e, λ is. eq-eqb a b is)

same_values : (a b : List Bool) → Decides (pointwise beq a b) (a ≡ b)
same_values a b = slice_eq-Decides booleans_Decides a b (pointwise beq a b) refl

pub returns-then-self-other : goal.returns-then-self-other
returns-then-self-other c =
    let a = c.args.self.now in
    let b = c.args.other.now in
    let xs = c.as_slice.result.now in
    let ys = c.as_slice-then-self-other.result.now in
    let words = c.self.inside.words.items in
    let others = c.other.inside.words.items in
    let n = c.self.inside.atoms in
    let m = c.other.inside.atoms in
    let tells = slice_eq-Decides same_numbers xs ys c.eq.result c.eq.ensures in
    let self_is : packed a ≡ words = ap packed (sym c.self.view_is) ∙ words_packed words n c.self.invariant.1 c.self.invariant.2 (sym c.self.inside.words.ok.0 ∙ c.self.invariant.0) in
    let other_is : packed b ≡ others = ap packed (sym c.other.view_is) ∙ words_packed others m c.other.invariant.1 c.other.invariant.2 (sym c.other.inside.words.ok.0 ∙ c.other.invariant.0) in
    same_tests c.eq.result (pointwise beq a b) (a ≡ b) (
      λ e.
          let same : words ≡ others = sym c.as_slice.ensures.value ∙ tells.0 e ∙ c.as_slice-then-self-other.ensures.value in
          sym c.self.view_is ∙ ap (λ ws. truths_from ws 0 n) same ∙ ap (truths_from others 0) c.if-self-other.true ∙ c.other.view_is,
      λ same. tells.1 (c.as_slice.ensures.value ∙ sym self_is ∙ ap packed same ∙ other_is ∙ sym c.as_slice-then-self-other.ensures.value),
    ) (same_values a b)

pub returns-else-self-other : goal.returns-else-self-other
returns-else-self-other c =
    let a = c.args.self.now in
    let b = c.args.other.now in
    let words = c.self.inside.words.items in
    let others = c.other.inside.words.items in
    let differs : ¬ a ≡ b = λ same. c.if-self-other.false
    (sym (length-truths_from words 0 c.self.inside.atoms) ∙ ap length (c.self.view_is ∙ same ∙ sym c.other.view_is) ∙ length-truths_from others 0 c.other.inside.atoms) in
    ne_eqb _ _ c.if-self-other.false ∙ sym (false_from_ne_true (pointwise beq a b) (λ e. differs ((same_values a b).0 e)))
