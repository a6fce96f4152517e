-- The literals of cubes, and the rows that they have.
use Rattle.std.proofs.Common.{◌≡◌, ℕ, Bool, true, false, refl, arith}
use Rattle.fond_matrix.specs.Rows.{row_number}

-- each literal has a row of its own
pub same_literal : (sign other : Bool) (atom a : ℕ) → row_number other a ≡ row_number sign atom → (other ≡ sign) × (a ≡ atom)
same_literal true true atom a is = (refl, omega (arith, is))
same_literal true false atom a is = absurd (omega (arith, is))
same_literal false true atom a is = absurd (omega (arith, is))
same_literal false false atom a is = (refl, omega (arith, is))
