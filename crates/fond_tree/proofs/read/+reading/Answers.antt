use Rattle.std.proofs.Common.{◌∙◌, sym, ap, arith, length, subst, List}
use Rattle.fond_tree.specs.declared.tree.Tree.{Tree}
use Rattle.fond_tree.specs.declared.tree.Tree.TheVariants as made
use Rattle.fond_tree.specs.Left.{TakesClosing}
use Rattle.fond_tree.specs.Reading.{ReadsTree}
use Rattle.fond_tree.specs.Scanning.{marks_left}
use Rattle.fond_tree.proofs.Members.{Along, leaf_read, node_read, along_more, along_done, read_shortens}
use Rattle.fond_tree.proofs.Stopped.{handed_on, node_stops, along_stops}
use Rattle.fond_tree.proofs.read.+reading.Goals as goal

pub read_members-returns-in_err-read_next-clause-err :
    goal.read_members-returns-in_err-read_next-clause-err
read_members-returns-in_err-read_next-clause-err t c =
    let unclosed = subst (λ v. TakesClosing v (marks_left c.loop-alloc.scanner) (marks_left c.closes.new.self)) c.loop-alloc-test.true c.closes.ensures.taken in
    let along = subst (Along c.args.left (marks_left c.args.scanner.now) c.loop-alloc.members.items) unclosed.0 c.loop-alloc.invariant.along in
    handed_on _ _ _ c.from_residual-in_err-read_next.ensures.1
    (along_stops c.args.file _ _ _ _ _ _ _ c.requires along (c.closes.ensures.end ∙ c.loop-alloc.invariant.end) c.in_err-read_next.ensures.err)

pub read_members-loop-alloc-smaller : goal.read_members-loop-alloc-smaller
read_members-loop-alloc-smaller t c =
    let unclosed = subst (λ v. TakesClosing v (marks_left c.loop-alloc.scanner) (marks_left c.closes.new.self)) c.loop-alloc-test.true c.closes.ensures.taken in
    omega (arith, ap length unclosed.0, read_shortens _ _ _ _ c.in_ok-read_next.ensures.ok)

pub read_members-loop-alloc-preserved : goal.read_members-loop-alloc-preserved
read_members-loop-alloc-preserved t c =
    let unclosed = subst (λ v. TakesClosing v (marks_left c.loop-alloc.scanner) (marks_left c.closes.new.self)) c.loop-alloc-test.true c.closes.ensures.taken in
    let along = subst (Along c.args.left (marks_left c.args.scanner.now) c.loop-alloc.members.items) unclosed.0 c.loop-alloc.invariant.along in
    record {
      along = subst (λ trees. Along c.args.left (marks_left c.args.scanner.now) trees (marks_left c.read_next.new.scanner)) (sym {A = List Tree} c.in_ok-push.ensures.items)
          (along_more _ _ _ _ _ _ along c.in_ok-read_next.ensures.ok);
      end = c.in_ok-read_next.ensures.end ∙ c.closes.ensures.end ∙ c.loop-alloc.invariant.end;
    }

pub read_members-returns-clause-ok : goal.read_members-returns-clause-ok
read_members-returns-clause-ok t c =
    let closed = subst (λ v. TakesClosing v (marks_left c.loop-alloc.scanner) (marks_left c.closes.new.self)) c.loop-alloc-test.false c.closes.ensures.taken in
    along_done _ closed.0 _ _ _ _ c.loop-alloc.invariant.along closed.1

pub read_next-returns-in_err-members-in-Open-clause-err :
    goal.read_next-returns-in_err-members-in-Open-clause-err
read_next-returns-in_err-members-in-Open-clause-err t c =
    handed_on _ _ _ c.from_residual-in_err-members-in-Open.ensures.1
    (node_stops c.args.file _ c.in-Open.place _ _ _ _ _ c.if-left-gt0.true c.requires.within c.in-Open.ensures.yields c.next.ensures.end c.in_err-members-in-Open.ensures.err)

pub read_next-returns-in_ok-lower-in-Leaf-clause-ok :
    goal.read_next-returns-in_ok-lower-in-Leaf-clause-ok
read_next-returns-in_ok-lower-in-Leaf-clause-ok t c =
    subst (λ name. ReadsTree c.args.left (marks_left c.args.scanner.now) (made.Leaf c.in-Leaf.place name) (marks_left c.next.new.self)) (sym c.in_ok-lower-in-Leaf.ensures)
    (leaf_read _ c.in-Leaf.place _ _ _ c.in-Leaf.ensures.yields.0)

pub read_next-returns-in_ok-members-in-Open-clause-ok :
    goal.read_next-returns-in_ok-members-in-Open-clause-ok
read_next-returns-in_ok-members-in-Open-clause-ok t c =
    node_read _ c.in-Open.place c.in_ok-members-in-Open.members _ _ _ c.if-left-gt0.true c.in-Open.ensures.yields c.in_ok-members-in-Open.ensures.ok
