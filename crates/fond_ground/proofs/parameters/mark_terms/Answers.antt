use Rattle.std.proofs.Common.{arith}
use Rattle.fond_ast.specs.Patterns.{is_variable}
use Rattle.fond_join.proofs.Occurring.{any_next, any_end}
use Rattle.fond_ground.proofs.parameters.mark_terms.Goals as goal

pub loop-term-init : goal.loop-term-init
loop-term-init c = λ number none rest. (none, rest)

pub loop-term-preserved : goal.loop-term-preserved
loop-term-preserved c = λ number none rest.
    let added = c.mark_term.ensures number none in
    c.loop-term.invariant number added.0 (any_next (is_variable number) c.args.terms.now c.loop-term.term-index _ c.loop-term-test.true added.1 rest)

pub returns : goal.returns
returns c = λ number none.
    let past = c.loop-term-test.false in
    c.loop-term.invariant number none (any_end (is_variable number) c.args.terms.now c.loop-term.term-index (omega (arith, past)))
