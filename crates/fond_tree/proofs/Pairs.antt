-- Trees that are whole pairs, and members of a shape.
use Rattle.std.proofs.Common.{◌≡◌, ℕ, suc, ◌%◌, ◌≤◌, ◌<◌, false, List, [], ◌∷◌, length, drop, nat_eq, refl, ap, ◌∙◌, arith}
use Rattle.fond_tree.specs.declared.tree.Tree.{Tree}
use Rattle.fond_tree.specs.declared.role.Role.{Role}
use Rattle.fond_tree.specs.declared.role.Rest.{Rest}
use Rattle.fond_tree.specs.Parts.{are_pairs, is_rest, is_counted}

two_more : (n : ℕ) → nat_eq (suc (suc n) % 2) 0 ≡ nat_eq (n % 2) 0
two_more n = let e : suc (suc n) % 2 ≡ n % 2 = omega arith in ap (λ k. nat_eq k 0) e

pub pairs_are_even : (trees : List Tree) → nat_eq (length trees % 2) 0 ≡ are_pairs trees
pairs_are_even [] = refl
pairs_are_even (key ∷ []) = refl
pairs_are_even (key ∷ tree ∷ trees) = two_more (length trees) ∙ pairs_are_even trees

-- if no first member is missing, the rest decides
pub rest_counts : (roles : List Role) (rest : Rest) (trees : List Tree) → length roles ≤ length trees → is_rest rest (drop (length roles) trees) ≡ is_counted roles rest trees
rest_counts [] rest trees enough = refl
rest_counts (role ∷ roles) rest [] enough = absurd (omega arith)
rest_counts (role ∷ roles) rest (tree ∷ trees) enough = rest_counts roles rest trees (omega arith)

pub missing : (roles : List Role) (rest : Rest) (trees : List Tree) → length trees < length roles → is_counted roles rest trees ≡ false
missing [] rest trees few = absurd (omega arith)
missing (role ∷ roles) rest [] few = refl
missing (role ∷ roles) rest (tree ∷ trees) few = missing roles rest trees (omega arith)
