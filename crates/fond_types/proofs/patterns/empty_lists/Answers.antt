use Rattle.std.proofs.Common.{◌≡◌, ◌<◌, ◌+◌, Bool, List, [], ap, ◌∙◌, length, map, take, arith}
use Rattle.fond_ast.specs.declared.files.Domain.{Domain}
use Rattle.fond_ast.specs.declared.files.Schema.{Schema}
use Rattle.fond_ast.specs.declared.form.LTerm.{LTerm}
use Rattle.fond_text.specs.Lists.{each_passes}
use Rattle.fond_names.specs.Names.{Declarations}
use Rattle.fond_types.specs.Meanings.{meanings}
use Rattle.fond_types.specs.Patterns.{are_patterns}
use Rattle.fond_types.proofs.Passing.{passes_next}
use Rattle.fond_types.proofs.RangeLemmas.{got_some}
use Rattle.fond_types.proofs.patterns.empty_lists.Goals as goal

abbrev has_none : Declarations → Schema → List (List LTerm) → Bool
has_none files schema = are_patterns (meanings files) [] schema.name

pub loop-i-preserved : goal.loop-i-preserved
loop-i-preserved c =
    let files = c.args.table.now in
    let schemas = files.domain.schemas in
    let i = c.loop-i._i in
    let counted : length c.domain.result.now.schemas ≡ length schemas = ap (λ (domain : Domain). length domain.schemas) c.domain.ensures in
    let low : i < length schemas = omega (arith, counted) in
    let schema = got_some schemas i low in
    ap (each_passes (map (has_none files) (take (i + 1) schemas))) c.in_ok-push.ensures.items
    ∙ passes_next (has_none files) schemas i schema.0 c.loop-i.filed.items c.new.result schema.1 c.loop-i.invariant (ap (has_none files schema.0) c.new.ensures)
