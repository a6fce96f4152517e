-- The test of lying in a cube decides it, and a state of a cube lies in each cube around it.
use Rattle.std.proofs.Common.{◌≡◌, ℕ, zero, suc, ◌+◌, List, [], ◌∷◌, Bool, true, false, Option, Some, None, refl, ap, ◌∙◌, arith}
use Rattle.std.specs.Bool.{Decides}
use Rattle.std.specs.List.{list_all, enumerate_from}
use Rattle.std.proofs.lemmas.Bool.{and_parts, and_from, not-true, not_from_false}
use Rattle.std.proofs.lemmas.Option.{none-some, same_Some}
use Rattle.fond_state.specs.Cubes.{LiesIn, CubeLiesIn, truth_at, literal_at, agrees, lies_in}

said : (known : Option Bool) (truth sign : Bool) → agrees truth known ≡ true → known ≡ Some sign → truth ≡ sign
said None truth sign agreed is = absurd (none-some sign is)
said (Some true) truth sign agreed is = agreed ∙ same_Some true sign is
said (Some false) truth sign agreed is = not-true truth agreed ∙ same_Some false sign is

agreed_from : (known : Option Bool) (truth : Bool) → ((sign : Bool) → known ≡ Some sign → truth ≡ sign) → agrees truth known ≡ true
agreed_from None truth told = refl
agreed_from (Some true) truth told = told true refl
agreed_from (Some false) truth told = not_from_false truth (told false refl)

-- whether a state agrees with literals, the first of which is that of this atom
abbrev pub lies_from : List Bool → ℕ → List (Option Bool) → Bool
lies_from state n cube = list_all (λ item. agrees (truth_at state item.0) item.1) (enumerate_from n cube)

abbrev LiesFrom : List Bool → ℕ → List (Option Bool) → Type 0
LiesFrom state n cube = (atom : ℕ) (sign : Bool) → literal_at cube atom ≡ Some sign → truth_at state (n + atom) ≡ sign

tested : (state : List Bool) (n : ℕ) (cube : List (Option Bool)) → lies_from state n cube ≡ true → LiesFrom state n cube
tested state n [] lies atom sign is = absurd (none-some sign is)
tested state n (known ∷ cube) lies zero sign is =
    let same : n + zero ≡ n = omega arith in
    ap (truth_at state) same ∙ said known (truth_at state n) sign (and_parts _ _ lies).0 is
tested state n (known ∷ cube) lies (suc atom) sign is =
    let same : n + suc atom ≡ n + 1 + atom = omega arith in
    ap (truth_at state) same ∙ tested state (n + 1) cube (and_parts _ _ lies).1 atom sign is

test_from : (state : List Bool) (n : ℕ) (cube : List (Option Bool)) → LiesFrom state n cube → lies_from state n cube ≡ true
test_from state n [] lies = refl
test_from state n (known ∷ cube) lies =
    let first : n ≡ n + zero = omega arith in
    let here = agreed_from known (truth_at state n) (λ sign is. ap (truth_at state) first ∙ lies zero sign is) in
    let there = test_from state (n + 1) cube (λ atom sign is.
    let next : n + 1 + atom ≡ n + suc atom = omega arith in
    ap (truth_at state) next ∙ lies (suc atom) sign is) in
    and_from _ _ here there

-- the test is true if and only if the state lies in the cube
pub lies_in-Decides : (state : List Bool) (cube : List (Option Bool)) → Decides (lies_in state cube) (LiesIn state cube)
lies_in-Decides state cube = (
  λ lies atom sign is.
      let first : atom ≡ 0 + atom = omega arith in
      ap (truth_at state) first ∙ tested state 0 cube lies atom sign is,
  λ lies. test_from state 0 cube (λ atom sign is.
      let first : 0 + atom ≡ atom = omega arith in
      ap (truth_at state) first ∙ lies atom sign is),
)

-- a state of a cube that lies in another is a state of the other
pub LiesIn-through : (state : List Bool) (cube other : List (Option Bool)) → LiesIn state cube → CubeLiesIn cube other → LiesIn state other
LiesIn-through state cube other lies inner atom sign is = lies atom sign (inner atom sign is)
