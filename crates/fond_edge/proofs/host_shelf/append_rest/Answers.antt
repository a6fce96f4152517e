use Rattle.std.proofs.Common.{◌≡◌, [], ◌++◌, take, sym, ap, ◌∙◌, append-nil, append_assoc, length-append, length-take, arith, rules}
use Rattle.std.proofs.KnownBytes.{Consumes-trans, Consumes-all}
use Rattle.fond_edge.proofs.host_shelf.append_rest.Goals as goal

pub returns-in_default-clause-further : goal.returns-in_default-clause-further
returns-in_default-clause-further g c =
    let so_far = c.loop-count.invariant in
    (so_far.more, so_far.grown, omega arith)

pub returns-then-count-eq0-clause-further : goal.returns-then-count-eq0-clause-further
returns-then-count-eq0-clause-further g c =
    let so_far = c.loop-count.invariant in
    (so_far.more, so_far.grown, omega arith)

pub returns-then-left-count-clause-further : goal.returns-then-left-count-clause-further
returns-then-left-count-clause-further g c =
    let so_far = c.loop-count.invariant in
    (so_far.more, so_far.grown, omega arith)

pub returns-then-is_err-clause-further : goal.returns-then-is_err-clause-further
returns-then-is_err-clause-further g c =
    let so_far = c.loop-count.invariant in
    let still : c.extend_from_slice.new.self.items ≡ c.loop-count.into.items = search rules in
    (so_far.more, still ∙ so_far.grown, omega arith)

pub returns-then-count-eq0-clause-whole : goal.returns-then-count-eq0-clause-whole
returns-then-count-eq0-clause-whole g c =
    let so_far = c.loop-count.invariant in
    let read = rw c.if-count-eq0.true at c.in-Ok.ensures.bytes.0 in
    let all = Consumes-trans _ _ _ so_far.more [] so_far.consumed read in
    Consumes-all _ _ _ _ _ all (c.in-Ok.ensures.bytes.1 c.if-count-eq0.true (omega arith)) (so_far.grown ∙ ap (λ more. c.args.into.now.items ++ more) (sym (append-nil so_far.more)))

pub loop-count-preserved : goal.loop-count-preserved
loop-count-preserved g c =
    let so_far = c.loop-count.invariant in
    let piece = take c.in-Ok.count c.read.new.buf in
    let wrote : c.extend_from_slice.new.self.items ≡ c.loop-count.into.items ++ piece = search rules in
    record {
      more = so_far.more ++ piece;
      grown = wrote ∙ ap (λ into. into ++ piece) so_far.grown ∙ append_assoc c.args.into.now.items so_far.more piece;
      counted = omega (arith, length-append so_far.more piece, length-take c.in-Ok.count c.read.new.buf, c.in-Ok.ensures.bound.0);
      consumed = Consumes-trans _ _ _ so_far.more piece so_far.consumed c.in-Ok.ensures.bytes.0;
    }
