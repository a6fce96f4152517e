use Rattle.std.proofs.Common.{◌≡◌, ℕ, ◌<◌, true}
use Rattle.std.specs.Prelude.{slice_index_or}
use Rattle.fond_ground.specs.Shares.{is_marked}
use Rattle.fond_ground.proofs.parameters.agree.Given as goal

-- both are equal at each marked number so far
abbrev pub invariant-loop-i : goal.invariant-loop-i
invariant-loop-i l = (number : ℕ) → number < l.i → is_marked l.marks number ≡ true → slice_index_or l.objects number 0 ≡ slice_index_or l.others number 0
