use Rattle.std.proofs.Common.{◌∙◌, sym, subst, All, ◌++◌, ◌∷◌, [], ap}
use Rattle.fond_text.specs.Name.{IsName}
use Rattle.std.proofs.lemmas.List.Elements.{All-cons, All-nil, All-append}
use Rattle.fond_ground.proofs.Counts.{mapped_more}
use Rattle.fond_ground.proofs.ground.schema_names.Goals as goal

pub loop-i-preserved : goal.loop-i-preserved
loop-i-preserved c =
    let name = c.in_ok-copy.field-0 in record {
      listed = mapped_more (λ x. x.name) c.args.task.now.schemas c.loop-i.i c.get.result.now c.loop-i.names c.push.new.self _ c.get.ensures (c.in_ok-push.ensures.ok ∙ ap (λ x. c.loop-i.names ++ x ∷ []) c.in_ok-copy.ensures.copy) c.loop-i.invariant.listed;
      are_names = subst (All IsName) (sym c.in_ok-push.ensures.ok) (All-append IsName c.loop-i.names (name ∷ []) c.loop-i.invariant.are_names (All-cons IsName name [] c.in_ok-copy.ensures.name (All-nil IsName)));
    }
