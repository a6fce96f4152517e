use Rattle.std.proofs.Common.{◌≡◌, ◌<◌, ◌∙◌, ℕ, List, Bool, Option, All, length, map, take, ap, sym, subst, arith}
use Rattle.std.specs.List.{range_with_len}
use Rattle.std.proofs.lemmas.List.{length-map, take_all}
use Rattle.fond_match.specs.Visits.{Keeps, visits}
use Rattle.fond_match.proofs.Members.{All-from_members, range_below}
use Rattle.fond_match.proofs.matcher.Matcher.build_near.Goals as goal

pub grow-requires : goal.grow-requires
grow-requires g c =
    let count = length c.args.items.now in
    let P : ℕ → Type 0 = λ number. number < count in
    let Q : List ℕ → Type 0 = λ numbers. All P numbers in
    subst Q (sym c.in_ok-numbers.ensures) (All-from_members P (range_with_len 0 count) (range_below count))

pub returns-clause-of : goal.returns-clause-of
returns-clause-of g c =
    let items = c.args.items.now in
    let cubes = map g.T.HasCube.cube items in
    let P : List ℕ → Type 0 = λ numbers. Keeps cubes (λ _. numbers) (λ has. visits has c.in_ok-root.root) in
    let Q : List (List (Option Bool)) → Type 0 = λ front. Keeps front (λ _. range_with_len 0 (length front)) (λ has. visits has c.in_ok-root.root) in
    let same : c.in_ok-numbers.numbers.items ≡ range_with_len 0 (length cubes) = c.in_ok-numbers.ensures ∙ ap (range_with_len 0) (sym (length-map items g.T.HasCube.cube)) in
    let all : take (length items) cubes ≡ cubes = take_all (length items) cubes (omega (arith, length-map items g.T.HasCube.cube)) in
    (omega (arith, length-map items g.T.HasCube.cube), subst Q (sym all) (subst P same c.in_ok-root.ensures))
