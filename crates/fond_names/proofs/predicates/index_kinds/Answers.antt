use Rattle.std.proofs.Common.{◌||◌, ◌+◌, List, drop, is_some, sym, ap, ◌∙◌}
use Rattle.fond_ast.specs.declared.names.Kind.{Kind}
use Rattle.fond_store.specs.Texts.{number_beside}
use Rattle.fond_names.specs.Names.{is_among}
use Rattle.fond_names.specs.Same.{kind_names}
use Rattle.fond_names.proofs.Differs.{next_left}
use Rattle.fond_names.proofs.Insertions.{kept_more}
use Rattle.fond_names.proofs.predicates.index_kinds.Goals as goal

pub loop-i-preserved : goal.loop-i-preserved
loop-i-preserved c = λ name.
    let kinds = c.args.kinds.now in
    let kind = c.get.result.now in
    kept_more c.loop-i.index c.insert_name.new.index kind.name 0 (kind_names (drop (c.loop-i.i + 1) kinds)) name c.in_ok-insert_name.ensures
    ∙ ap (λ (left : List Kind). is_some (number_beside c.loop-i.index name) || is_among (kind_names left) name) (sym (next_left kinds c.loop-i.i kind c.get.ensures))
    ∙ c.loop-i.invariant name
