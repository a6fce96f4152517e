-- A measure of conditions that falls from a condition to its parts, and from the ranges of a quantifier to its part.
use Rattle.std.proofs.Common.{◌≡◌, ℕ, zero, suc, ◌+◌, ◌<◌, ◌≤◌, List, [], ◌∷◌, Vec, Box, Global, map, length, get_or, sym, ap, ◌∙◌, arith}
use Rattle.fond_ast.specs.Ranges.{RangeList}
use Rattle.fond_ast.specs.declared.form.LCond.{LCond}
use Rattle.fond_ast.specs.declared.form.LCond.TheVariants.{And, Or, Not, Imply, Forall, Exists, rolls-And, rolls-Or, rolls-Not, rolls-Imply, rolls-Forall, rolls-Exists}
use Rattle.fond_ast.specs.declared.form.LCond.TheOpen as open_condition
use Rattle.fond_ast.specs.declared.form.LCond.TheOpen.{LCond-F}
use Rattle.fond_ast.specs.declared.form.LCond.TheFolds.{fold-LCond, fold-roll-LCond}

abbrev pub total : List ℕ → ℕ
total [] = 0
total (number ∷ numbers) = number + total numbers

abbrev weight_step : LCond-F ℕ → ℕ
weight_step open_condition.Truth = 0
weight_step (open_condition.Holds atom) = 0
weight_step (open_condition.Equal term other) = 0
weight_step (open_condition.And parts) = total parts.items + 2
weight_step (open_condition.Or parts) = total parts.items + 2
weight_step (open_condition.Not part) = part.value + 1
weight_step (open_condition.Imply part other) = part.value + other.value + 1
weight_step (open_condition.Forall ranges part) = part.value + length ranges + 3
weight_step (open_condition.Exists ranges part) = part.value + length ranges + 3

pub weight : LCond → ℕ
weight = fold-LCond ℕ weight_step

pub weight-And : (parts : Vec LCond Global) → weight (And parts) ≡ total (map weight parts.items) + 2
unfolding weight
weight-And parts = ap weight (sym (rolls-And parts)) ∙ fold-roll-LCond ℕ weight_step (open_condition.And parts)

pub weight-Or : (parts : Vec LCond Global) → weight (Or parts) ≡ total (map weight parts.items) + 2
unfolding weight
weight-Or parts = ap weight (sym (rolls-Or parts)) ∙ fold-roll-LCond ℕ weight_step (open_condition.Or parts)

pub weight-Not : (part : Box LCond Global) → weight (Not part) ≡ weight part.value + 1
unfolding weight
weight-Not part = ap weight (sym (rolls-Not part)) ∙ fold-roll-LCond ℕ weight_step (open_condition.Not part)

pub weight-Imply : (part other : Box LCond Global) → weight (Imply part other) ≡ weight part.value + weight other.value + 1
unfolding weight
weight-Imply part other = ap weight (sym (rolls-Imply part other)) ∙ fold-roll-LCond ℕ weight_step (open_condition.Imply part other)

pub weight-Forall : (ranges : RangeList) (part : Box LCond Global) → weight (Forall ranges part) ≡ weight part.value + length ranges + 3
unfolding weight
weight-Forall ranges part = ap weight (sym (rolls-Forall ranges part)) ∙ fold-roll-LCond ℕ weight_step (open_condition.Forall ranges part)

pub weight-Exists : (ranges : RangeList) (part : Box LCond Global) → weight (Exists ranges part) ≡ weight part.value + length ranges + 3
unfolding weight
weight-Exists ranges part = ap weight (sym (rolls-Exists ranges part)) ∙ fold-roll-LCond ℕ weight_step (open_condition.Exists ranges part)

-- a part weighs no more than all parts together
pub part_weight : (parts : List LCond) (i : ℕ) (part : LCond) → i < length parts → part ≡ get_or parts i part → weight part ≤ total (map weight parts)
part_weight [] i part within is = absurd (omega arith)
part_weight (first ∷ parts) zero part within is = let same : weight part ≡ weight first = ap weight is in omega arith
part_weight (first ∷ parts) (suc i) part within is = let later = part_weight parts i part (omega arith) is in omega arith
