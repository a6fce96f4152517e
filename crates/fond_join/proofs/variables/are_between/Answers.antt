use Rattle.std.proofs.Common.{arith}
use Rattle.fond_ast.specs.Patterns.{is_variable}
use Rattle.fond_join.proofs.Occurring.{any_next, any_end}
use Rattle.fond_join.proofs.variables.are_between.Goals as goal

pub loop-term-preserved : goal.loop-term-preserved
loop-term-preserved c = λ number from below rest.
    c.loop-term.invariant number from below
    (any_next (is_variable number) c.args.terms.now c.loop-term.term-index _ c.loop-term-test.true (c.is_between.ensures c.if-is_between.false number from below) rest)

pub returns : goal.returns
returns c = λ none number from below.
    let past = c.loop-term-test.false in
    c.loop-term.invariant number from below (any_end (is_variable number) c.args.terms.now c.loop-term.term-index (omega (arith, past)))
