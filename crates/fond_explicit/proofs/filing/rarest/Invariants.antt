use Rattle.std.specs.Prelude.{Contains, IfSome}
use Rattle.fond_task.specs.declared.form.Form.{Form}
use Rattle.fond_explicit.specs.Filings.{Needs}
use Rattle.fond_explicit.proofs.filing.rarest.Given as goal

abbrev pub invariant-loop-part : goal.invariant-loop-part
invariant-loop-part l = IfSome l.atom (λ atom. (part : Form) × Contains l.parts part × Needs part atom)
