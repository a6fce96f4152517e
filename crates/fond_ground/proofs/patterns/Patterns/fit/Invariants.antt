use Rattle.std.proofs.Common.{◌≡◌, ◌<◌, List, Some, is_some, slice_get, true, ℕ}
use Rattle.fond_ast.specs.declared.form.LTerm.{LTerm}
use Rattle.fond_store.specs.Texts.{number_beside}
use Rattle.fond_ground.specs.Patterns.{code, renamed, Agrees}
use Rattle.fond_ground.proofs.patterns.Patterns.fit.Given as goal

-- no pattern of a shape so far fits
abbrev pub invariant-loop-i : goal.invariant-loop-i
invariant-loop-i l =
    (i at : ℕ) (pattern : List LTerm) → i < l.i → slice_get l.self.shapes i ≡ Some at → slice_get l.self.all.now at ≡ Some pattern
    → ¬ (Agrees pattern l.objects × (is_some (number_beside l.self.codes (code (renamed pattern l.objects))) ≡ true))
