-- Nothing may follow a whole tree, and what stops the first tree is a fault of the text.
use Rattle.std.proofs.Common.{◌∙◌, refl, sym, subst, inl, arith}
use Rattle.fond_text.specs.Faults.{Refuses}
use Rattle.fond_tree.specs.Faults.{IsFaultOf}
use Rattle.fond_tree.specs.Scanning.{marks_left, end_left}
use Rattle.fond_tree.proofs.NoTree.{fault_of, text_empty, text_stops, after_stops, text_read}
use Rattle.fond_tree.proofs.Stopped.{handed_on}
use Rattle.fond_tree.proofs.read.read_tree.Goals as goal

pub returns-in_err-tree-clause-refused : goal.returns-in_err-tree-clause-refused
returns-in_err-tree-clause-refused c =
    handed_on _ _ _ c.from_residual.ensures.1 (text_stops _ _ _ _ _ c.if-b-gt-LONGEST_TEXT.false (c.end.ensures.same ∙ c.new-scanner.ensures.tokens) (c.end.ensures.end ∙ c.new-scanner.ensures.end) c.in_err-tree.ensures.err)

pub returns-in-End-clause-ok : goal.returns-in-End-clause-ok
returns-in-End-clause-ok c = text_read _ _ _ _ c.if-b-gt-LONGEST_TEXT.false (c.end.ensures.same ∙ c.new-scanner.ensures.tokens) c.in_ok-tree.ensures.ok c.in-End.ensures.yields.0

pub returns-in-Stray-clause-refused : goal.returns-in-Stray-clause-refused
returns-in-Stray-clause-refused c =
    subst (Refuses (IsFaultOf c.args.file c.args.b.now)) (sym c.refused-in-Stray.ensures)
    (after_stops c.args.file _ _ _ _ _ _ _ c.if-b-gt-LONGEST_TEXT.false (c.end.ensures.same ∙ c.new-scanner.ensures.tokens) c.in_ok-tree.ensures.ok c.in-Stray.ensures.yields (λ before whole. refl))

pub returns-in-Open-clause-refused : goal.returns-in-Open-clause-refused
returns-in-Open-clause-refused c =
    subst (Refuses (IsFaultOf c.args.file c.args.b.now)) (sym c.refused-in-Open.ensures)
    (after_stops c.args.file _ _ _ _ _ _ _ c.if-b-gt-LONGEST_TEXT.false (c.end.ensures.same ∙ c.new-scanner.ensures.tokens) c.in_ok-tree.ensures.ok c.in-Open.ensures.yields (λ before whole. inl (whole, refl)))

pub returns-in-Close-clause-refused : goal.returns-in-Close-clause-refused
returns-in-Close-clause-refused c =
    subst (Refuses (IsFaultOf c.args.file c.args.b.now)) (sym c.refused-in-Close.ensures)
    (after_stops c.args.file _ _ _ _ _ _ _ c.if-b-gt-LONGEST_TEXT.false (c.end.ensures.same ∙ c.new-scanner.ensures.tokens) c.in_ok-tree.ensures.ok c.in-Close.ensures.yields (λ before whole. (omega (arith, whole.1), refl)))

pub returns-in-Leaf-clause-refused : goal.returns-in-Leaf-clause-refused
returns-in-Leaf-clause-refused c =
    subst (Refuses (IsFaultOf c.args.file c.args.b.now)) (sym c.refused-in-Leaf.ensures)
    (after_stops c.args.file _ _ _ _ _ _ _ c.if-b-gt-LONGEST_TEXT.false (c.end.ensures.same ∙ c.new-scanner.ensures.tokens) c.in_ok-tree.ensures.ok c.in-Leaf.ensures.yields.0 (λ before whole. (whole, refl)))

pub returns-then-b-gt-LONGEST_TEXT-clause-refused :
    goal.returns-then-b-gt-LONGEST_TEXT-clause-refused
returns-then-b-gt-LONGEST_TEXT-clause-refused c =
    subst (Refuses (IsFaultOf c.args.file c.args.b.now)) (sym c.refused.ensures)
    (fault_of c.args.file c.args.b.now _ _ (inl (c.if-b-gt-LONGEST_TEXT.true, refl, refl)))

pub returns-in-Some-clause-refused : goal.returns-in-Some-clause-refused
returns-in-Some-clause-refused c =
    let found = c.in-Some.ensures.found in
    subst (Refuses (IsFaultOf c.args.file c.args.b.now)) (sym c.refused-in-Some.ensures)
    (text_empty c.args.file c.args.b.now (marks_left c.new-scanner.result) c.in-Some.place (end_left c.new-scanner.result) c.if-b-gt-LONGEST_TEXT.false c.new-scanner.ensures.tokens c.new-scanner.ensures.end found.0 found.1)

pub read_next-requires-clause-unclosed : goal.read_next-requires-clause-unclosed
read_next-requires-clause-unclosed c = λ more. absurd (omega (arith, more))

pub read_next-requires-clause-some : goal.read_next-requires-clause-some
read_next-requires-clause-some c = λ _ none. c.in_default.ensures.found (sym c.end.ensures.same ∙ none)
