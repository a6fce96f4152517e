-- Leaves with their letters lowered are names.
use Rattle.std.proofs.Common.{◌≡◌, ℕ, List, map, get_or, sym, subst, arith}
use Rattle.std.specs.Prelude.{IsTrue}
use Rattle.std.proofs.lemmas.Bool.Decides.{nat_tests}
use Rattle.std.proofs.lemmas.List.{length-map, get_or-map}
use Rattle.fond_text.specs.Bytes.{is_leaf_byte, lower}
use Rattle.fond_text.specs.Name.{IsLeaf, IsName}

lowered_byte : (b : ℕ) → IsTrue (is_leaf_byte b) → IsTrue (is_leaf_byte (lower b))
lowered_byte b is = grind (arith, nat_tests)

lowered_twice : (b : ℕ) → lower (lower b) ≡ lower b
lowered_twice b = grind (arith, nat_tests)

pub lowered_name : (bytes : List ℕ) → IsLeaf bytes → IsName (map lower bytes)
lowered_name bytes leaf =
    let long = length-map bytes lower in (
      (
        omega (arith, long, leaf.0),
        λ k d small. subst (λ b. IsTrue (is_leaf_byte b)) (sym (get_or-map lower bytes k d d (omega (arith, long, small)))) (lowered_byte (get_or bytes k d) (leaf.1 k d (omega (arith, long, small)))),
      ),
      λ k d small. subst (λ b. lower b ≡ b) (sym (get_or-map lower bytes k d d (omega (arith, long, small)))) (lowered_twice (get_or bytes k d)),
    )
