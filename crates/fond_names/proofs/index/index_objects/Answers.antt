use Rattle.std.proofs.Common.{◌≡◌, ◌+◌, ◌++◌, length, arith, length-append, refl}
use Rattle.std.proofs.lemmas.Bool.Decides.{nat_tests}
use Rattle.fond_ast.specs.declared.names.TypedName.{TypedName}
use Rattle.fond_store.proofs.Firsts.{has_all, has_more}
use Rattle.fond_names.proofs.index.index_objects.Goals as goal

pub loop-i-preserved : goal.loop-i-preserved
loop-i-preserved c =
    has_more (λ (name : TypedName). name.name) (c.args.constants.now ++ c.args.objects.now) c.loop-i.index c.insert_name.new.index c.loop-i.i c.joined_get.result.now _ c.joined_get.ensures refl c.in_ok-insert_name.ensures c.loop-i.invariant

pub returns : goal.returns
returns c =
    let all : length (c.args.constants.now ++ c.args.objects.now) ≡ length c.args.constants.now + length c.args.objects.now = length-append c.args.constants.now c.args.objects.now in
    has_all (λ (name : TypedName). name.name) (c.args.constants.now ++ c.args.objects.now) c.loop-i.index c.loop-i.i (grind (arith, nat_tests, all)) c.loop-i.invariant
