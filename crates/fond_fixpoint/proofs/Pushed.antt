-- Moves whose targets are ranges of one list, with more targets and one more move.
use Rattle.std.proofs.Common.{◌≡◌, ℕ, ◌+◌, ◌-◌, ◌≤◌, List, [], ◌∷◌, ◌++◌, length, map, take, drop, refl, ap, ◌∙◌, arith}
use Rattle.std.specs.List.{All}
use Rattle.std.proofs.lemmas.Grind.{common_steps}
use Rattle.std.proofs.lemmas.List.{map-append}
use Rattle.std.proofs.lemmas.List.Elements.{recursion_from_All}
use Rattle.std.specs.List.{AllByRecursion}
use Rattle.fond_fixpoint.specs.declared.moves.Head.{Head}
use Rattle.fond_fixpoint.specs.Heads.{move_of, IsHead}

range_kept : (targets more : List ℕ) (begin end : ℕ) → begin ≤ end → end ≤ length targets → take (end - begin) (drop begin (targets ++ more)) ≡ take (end - begin) (drop begin targets)
range_kept targets more begin end order within = grind (arith, common_steps)

range_new : (targets more : List ℕ) (begin end : ℕ) → begin ≡ length targets → end ≡ length targets + length more → take (end - begin) (drop begin (targets ++ more)) ≡ more
range_new targets more begin end is_begin is_end = grind (arith, common_steps)

kept : (targets more : List ℕ) (heads : List Head) → AllByRecursion (IsHead (length targets)) heads → map (move_of (targets ++ more)) heads ≡ map (move_of targets) heads
kept targets more [] within = refl
kept targets more (head ∷ heads) within =
    let here : move_of (targets ++ more) head ≡ move_of targets head = ap (λ range. record { source = head.source; act = head.act; unfair = head.unfair; targets = range }) (range_kept targets more head.begin head.end within.0.0 within.0.1) in
    ap (λ x. x ∷ map (move_of (targets ++ more)) heads) here ∙ ap (λ xs. move_of targets head ∷ xs) (kept targets more heads within.1)

-- a head over targets at the end of the list is one more move
pub pushed : (targets more : List ℕ) (heads : List Head) (head : Head) → All (IsHead (length targets)) heads → head.begin ≡ length targets → head.end ≡ length targets + length more →
    map (move_of (targets ++ more)) (heads ++ head ∷ []) ≡ map (move_of targets) heads ++ record { source = head.source; act = head.act; unfair = head.unfair; targets = more } ∷ []
pushed targets more heads head within is_begin is_end =
    let new : move_of (targets ++ more) head ≡ record { source = head.source; act = head.act; unfair = head.unfair; targets = more }
    = ap (λ range. record { source = head.source; act = head.act; unfair = head.unfair; targets = range }) (range_new targets more head.begin head.end is_begin is_end) in
    map-append (move_of (targets ++ more)) heads (head ∷ []) ∙ ap (λ xs. xs ++ move_of (targets ++ more) head ∷ []) (kept targets more heads (recursion_from_All (IsHead (length targets)) heads within))
    ∙ ap (λ x. map (move_of targets) heads ++ x ∷ []) new
