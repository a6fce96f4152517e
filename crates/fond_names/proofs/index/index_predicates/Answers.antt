use Rattle.std.proofs.Common.{arith, refl}
use Rattle.std.proofs.lemmas.Bool.Decides.{nat_tests}
use Rattle.fond_ast.specs.declared.files.Declared.{Declared}
use Rattle.fond_store.proofs.Firsts.{has_all, has_more}
use Rattle.fond_names.proofs.index.index_predicates.Goals as goal

pub loop-i-preserved : goal.loop-i-preserved
loop-i-preserved c =
    has_more (λ (predicate : Declared). predicate.name) c.args.predicates.now c.loop-i.index c.insert_name.new.index c.loop-i.i c.get.result.now _ c.get.ensures refl c.in_ok-insert_name.ensures c.loop-i.invariant

pub returns : goal.returns
returns c = has_all (λ (predicate : Declared). predicate.name) c.args.predicates.now c.loop-i.index c.loop-i.i (grind (arith, nat_tests)) c.loop-i.invariant
