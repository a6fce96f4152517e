use Rattle.std.proofs.Common.{◌||◌, ◌+◌, List, drop, is_some, sym, ap, ◌∙◌}
use Rattle.std.specs.List.{list_any}
use Rattle.fond_ast.specs.declared.files.Schema.{Schema}
use Rattle.fond_store.specs.Texts.{number_beside}
use Rattle.fond_types.specs.Resolves.{mentions}
use Rattle.fond_names.proofs.Differs.{next_left}
use Rattle.fond_names.proofs.Insertions.{or_again}
use Rattle.fond_types.proofs.mentioned.mentioned.Goals as goal

pub loop-i-preserved : goal.loop-i-preserved
loop-i-preserved c = λ name.
    let schemas = c.args.domain.now.schemas in
    let schema = c.get.result.now in
    let rest = list_any (λ (one : Schema). mentions name one.effect) (drop (c.loop-i.i + 1) schemas) in
    ap (λ b. b || rest) (c.in_ok-add_effect.ensures name) ∙ or_again (is_some (number_beside c.loop-i.index name)) (mentions name schema.effect) rest
    ∙ ap (λ (left : List Schema). is_some (number_beside c.loop-i.index name) || list_any (λ (one : Schema). mentions name one.effect) left) (sym (next_left schemas c.loop-i.i schema c.get.ensures))
    ∙ c.loop-i.invariant name
