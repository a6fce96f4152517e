-- Rivals, by the cubes of a matrix.
use Rattle.std.proofs.Common.{◌≡◌, ℕ, ◌-◌, ◌<◌, ◌^◌, min, List, [], Bool, true, Option, None, length, take, sym, ap, subst, ◌∙◌, ⊎_elim, arith}
use Rattle.std.specs.Prelude.{slice_get, slice_index_or, All}
use Rattle.std.specs.Option.{IsSomeAnd}
use Rattle.std.proofs.lemmas.Bool.{cases_lt, cases_eq}
use Rattle.std.proofs.lemmas.List.{get_or-set_same, get_or-set_other, get_or-take, get_or_default, length-take}
use Rattle.std.proofs.lemmas.Option.{none-some, slice_get-get_or}
use Rattle.fond_state.specs.Cubes.{literal_at, without_literal, Contradicts}
use Rattle.fond_matrix.specs.Below.{TwoBelow}
use Rattle.fond_matrix.specs.Matrices.{cube_at, IsMatrixOf}
use Rattle.fond_matrix.specs.Rows.{clashes}
use Rattle.fond_matrix.specs.Rivals.{IsRival, IsSole, IsNoted}
use Rattle.fond_matrix.proofs.Cubes.{clash_literals, clash_from, contradicts_from, contradicts_to}
use Rattle.fond_matrix.proofs.Opposed.{clash_within}

module _ (cubes : List (List (Option Bool))) (rows : List (List ℕ)) (told : IsMatrixOf cubes rows) (cube : List (Option Bool)) (atom number : ℕ) where
  abbrev clash : ℕ → Bool
  clash = clashes rows cube number

  -- two atoms that clash, in either order
  pair : (a : ℕ) → ¬ a ≡ atom → clash a ≡ true → clash atom ≡ true → TwoBelow clash (length cube)
  pair a differs one two = ⊎_elim
      (λ lt. (a, atom, lt, clash_within rows cube number atom two, one, two))
      (λ le. (atom, a, omega (arith, le, differs), clash_within rows cube number a one, two, one))
      (cases_lt a atom)

  -- a cube that is contradicted by one literal is a rival
  pub sole_rival : IsSole rows cube atom number → IsRival cube atom (cube_at cubes number)
  sole_rival sole = (
    contradicts_from cubes rows told cube number (atom, clash_within rows cube number atom sole.0, sole.0),
    λ (a, sign, one, two). ⊎_elim
        (λ is. none-some sign (sym (ap (literal_at (without_literal cube atom)) is ∙ get_or-set_same cube atom None None (clash_within rows cube number atom sole.0)) ∙ one))
        (λ differs. sole.1 (pair a differs (clash_from cubes rows told cube number a sign (sym (get_or-set_other cube atom a None None differs) ∙ one) two) sole.0))
        (cases_eq a atom),
  )

  -- another atom that clashes still contradicts without the literal
  other_clash : (a : ℕ) → ¬ a ≡ atom → clash a ≡ true → Contradicts (without_literal cube atom) (cube_at cubes number)
  other_clash a differs passes =
      let parts = clash_literals cubes rows told cube number a passes in
      (a, parts.0, get_or-set_other cube atom a None None differs ∙ parts.1, parts.2)

  -- a rival is contradicted by one literal
  pub rival_sole : IsRival cube atom (cube_at cubes number) → IsSole rows cube atom number
  rival_sole rival = (
    let opposed = contradicts_to cubes rows told cube number rival.0 in
        ⊎_elim
        (λ is. sym (ap clash is) ∙ opposed.2)
        (λ differs. absurd (rival.1 (other_clash opposed.0 differs opposed.2)))
        (cases_eq opposed.0 atom),
    λ (j, k, lt, small, one, two). ⊎_elim
        (λ is. rival.1 (other_clash k (λ same. omega (arith, lt, is, same)) two))
        (λ differs. rival.1 (other_clash j differs one))
        (cases_eq j atom),
  )

module _ (cubes : List (List (Option Bool))) (rows : List (List ℕ)) (told : IsMatrixOf cubes rows) (cube : List (Option Bool)) (below end : ℕ) (is : end ≡ min below (length cubes)) (atom rival : ℕ) (noted : IsNoted rows cube end atom rival) where
  cube_taken : (k : ℕ) (d : List (Option Bool)) → k < end → slice_index_or (take below cubes) k d ≡ cube_at cubes k
  cube_taken k d lt = get_or_default (take below cubes) k d [] (omega (arith, lt, is, length-take below cubes)) ∙ get_or-take below cubes k [] (omega (arith, lt, is))

  -- a rival that is noted is one of the first cubes
  pub rival_of : rival < 2 ^ 32 - 1 → IsSomeAnd (slice_get (take below cubes) rival) (IsRival cube atom)
  rival_of lt =
      let known = noted.0 lt in
      let within : rival < length (take below cubes) = omega (arith, known.0, is, length-take below cubes) in
      let here : IsRival cube atom (slice_index_or (take below cubes) rival []) = subst (λ other. IsRival cube atom other) (sym (cube_taken rival [] known.0)) (sole_rival cubes rows told cube atom rival known.1) in
      subst (λ found. IsSomeAnd found (IsRival cube atom)) (sym (slice_get-get_or (take below cubes) rival [] within)) here

  -- if none is noted, none of the first cubes is one
  pub none_of : rival ≡ 2 ^ 32 - 1 → All (λ other. ¬ IsRival cube atom other) (take below cubes)
  none_of large = λ k d lt one.
      let small : k < end = omega (arith, lt, is, length-take below cubes) in
      noted.1 large k small (rival_sole cubes rows told cube atom k (subst (λ other. IsRival cube atom other) (cube_taken k d small) one))
