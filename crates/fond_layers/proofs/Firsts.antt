-- The first cube of a layer that passes a test.
use Rattle.std.proofs.Common.{◌≡◌, ℕ, List, [], ◌∷◌, Bool, true, false, Option, Some, None, length, cond, get_or, slice_get, take, refl, sym, ◌∙◌, subst, arith}
use Rattle.std.specs.Prelude.{Contains, Decides, MatchOption, is_some, nat_lt, position}
use Rattle.std.specs.List.{position_or_len}
use Rattle.std.proofs.lemmas.Bool.{false≢true, ltb-false, ltb-true}
use Rattle.std.proofs.lemmas.List.Sums.{fails_before_first, passes_at_first}
use Rattle.std.proofs.lemmas.Option.{slice_get-get_or, slice_get_within, get_or_from_slice_get}
use Rattle.fond_state.specs.Cubes.{LiesIn, lies_in}
use Rattle.fond_state.proofs.Tested.{lies_in-Decides}
use Rattle.fond_match.specs.Lies.{cube_lies_in}
use Rattle.fond_match.specs.Lying.{cube_lies_in-Decides}
use Rattle.fond_task.specs.Layers.{CubeView, LiesInLayer}
use Rattle.fond_layers.specs.Deads.{IsFirstCube}
use Rattle.fond_layers.proofs.Tried.{all_front, all_of}

module _ {X : Type 0} (test : X → Bool) where
  -- the element of this number is the first that passes the test
  record IsFirst (xs : List X) (n : ℕ) : Type 0 where
    one : X
    has_one : slice_get xs n ≡ Some one
    passes : test one ≡ true
    first : (x : X) → Contains (take n xs) x → test x ≡ false

  first_of : (xs : List X) → MatchOption (position test xs) ((x : X) → Contains xs x → test x ≡ false) (IsFirst xs)
  first_of [] = λ x has. absurd (omega (arith, has.1))
  first_of (y ∷ ys) = by (nat_lt (position_or_len test (y ∷ ys)) (length (y ∷ ys))) refl
    where
      by : (b : Bool) → nat_lt (position_or_len test (y ∷ ys)) (length (y ∷ ys)) ≡ b →
          MatchOption (cond b (Some (position_or_len test (y ∷ ys))) None) ((x : X) → Contains (y ∷ ys) x → test x ≡ false) (IsFirst (y ∷ ys))
      by true lt =
          let small = ltb-true (position_or_len test (y ∷ ys)) (length (y ∷ ys)) lt in
          record {
            one = get_or (y ∷ ys) (position_or_len test (y ∷ ys)) y;
            has_one = slice_get-get_or (y ∷ ys) (position_or_len test (y ∷ ys)) y small;
            passes = passes_at_first test (y ∷ ys) y small;
            first = all_front (y ∷ ys) (λ x. test x ≡ false) (position_or_len test (y ∷ ys)) (omega (arith, small)) (λ k d below. fails_before_first test (y ∷ ys) k d below);
          }
      by false ge =
          all_of (y ∷ ys) (λ x. test x ≡ false) (position_or_len test (y ∷ ys)) (ltb-false (position_or_len test (y ∷ ys)) (length (y ∷ ys)) ge) (λ k d below. fails_before_first test (y ∷ ys) k d below)

to_first_cube : (state : List Bool) (cubes : List CubeView) (found : Option ℕ) → MatchOption found ((cube : CubeView) → Contains cubes cube → lies_in state cube ≡ false) (IsFirst (λ cube. lies_in state cube) cubes) →
    MatchOption found ((cube : CubeView) → Contains cubes cube → ¬ LiesIn state cube) (IsFirstCube state cubes)
to_first_cube state cubes None none = λ cube has lies. false≢true (sym (none cube has) ∙ (lies_in-Decides state cube).1 lies)
to_first_cube state cubes (Some n) one = record {
  cube = one.one;
  has_cube = one.has_one;
  lies = (lies_in-Decides state one.one).0 one.passes;
  first = λ other has lies. false≢true (sym (one.first other has) ∙ (lies_in-Decides state other).1 lies);
}

-- the first cube in which a state lies, by its place
pub first_cube : (state : List Bool) (read cubes : List CubeView) (found : Option ℕ) → read ≡ cubes → found ≡ position (λ cube. lies_in state cube) read →
    MatchOption found ((cube : CubeView) → Contains cubes cube → ¬ LiesIn state cube) (IsFirstCube state cubes)
first_cube state read cubes found same is =
    let P : List CubeView → Type 0 = λ cubes. MatchOption found ((cube : CubeView) → Contains cubes cube → ¬ LiesIn state cube) (IsFirstCube state cubes) in
    let Q : Option ℕ → Type 0 = λ found. MatchOption found ((cube : CubeView) → Contains read cube → lies_in state cube ≡ false) (IsFirst (λ cube. lies_in state cube) read) in
    subst P same (to_first_cube state read found (subst Q (sym is) (first_of (λ cube. lies_in state cube) read)))

to_around : (cube : CubeView) (cubes : List CubeView) (found : Option ℕ) → MatchOption found ((other : CubeView) → Contains cubes other → cube_lies_in cube other ≡ false) (IsFirst (cube_lies_in cube) cubes) →
    Decides (is_some found) (LiesInLayer cube cubes)
to_around cube cubes None none = (λ e. absurd (false≢true e), λ lies. absurd (false≢true (sym (none lies.other lies.one) ∙ (cube_lies_in-Decides cube lies.other).1 lies.lies)))
to_around cube cubes (Some n) one = (
  λ e. record {
    other = one.one;
    one = (n, slice_get_within cubes n one.one one.has_one, get_or_from_slice_get cubes n one.one one.one one.has_one);
    lies = (cube_lies_in-Decides cube one.one).0 one.passes;
  },
  λ lies. refl,
)

-- whether a cube lies in one of the cubes, by whether there is a first one
pub around : (cube : CubeView) (read cubes : List CubeView) (found : Option ℕ) → read ≡ cubes → found ≡ position (λ other. cube_lies_in cube other) read → Decides (is_some found) (LiesInLayer cube cubes)
around cube read cubes found same is =
    let P : List CubeView → Type 0 = λ cubes. Decides (is_some found) (LiesInLayer cube cubes) in
    let Q : Option ℕ → Type 0 = λ found. MatchOption found ((other : CubeView) → Contains read other → cube_lies_in cube other ≡ false) (IsFirst (cube_lies_in cube) read) in
    subst P same (to_around cube read found (subst Q (sym is) (first_of (cube_lies_in cube) read)))
