use Rattle.std.proofs.Common.{◌≡◌, ◌++◌, ◌∷◌, [], List, Some, sym, ap, ◌∙◌, get_or, slice_get, take, arith}
use Rattle.std.proofs.Math.ListN.{set}
use Rattle.fond_ast.specs.declared.files.Schema.{Schema}
use Rattle.fond_ast.specs.declared.files.Side.{Side}
use Rattle.fond_ast.specs.declared.form.LTerm.{LTerm}
use Rattle.fond_names.proofs.Among.{next_taken}
use Rattle.fond_names.proofs.Members.{all_got}
use Rattle.fond_types.specs.Meanings.{meanings}
use Rattle.fond_types.specs.Patterns.{are_filed, are_patterns, is_sound_pattern}
use Rattle.fond_types.proofs.FilingLemmas.{filed_more, passes_counted}
use Rattle.fond_types.proofs.Passing.{on_ok}
use Rattle.fond_types.proofs.patterns.file_pattern.Goals as goal

pub numbered_pattern-requires : goal.numbered_pattern-requires
numbered_pattern-requires c =
    let files = c.args.table.now in
    let got : slice_get files.side.patterns c.args.i ≡ Some c.get-pattern.result.now = ap (λ (side : Side). slice_get side.patterns c.args.i) (sym c.side.ensures) ∙ c.get-pattern.ensures in
    all_got (is_sound_pattern files) files.side.patterns c.args.i c.get-pattern.result.now got c.is_well_named.ensures.patterns_sound

pub schema_position-at-requires : goal.schema_position-at-requires
schema_position-at-requires c =
    let files = c.args.table.now in
    let got : slice_get files.side.patterns c.args.i ≡ Some c.get-pattern.result.now = ap (λ (side : Side). slice_get side.patterns c.args.i) (sym c.side.ensures) ∙ c.get-pattern.ensures in
    all_got (is_sound_pattern files) files.side.patterns c.args.i c.get-pattern.result.now got c.is_well_named.ensures.patterns_sound

pub index_mut-requires : goal.index_mut-requires
index_mut-requires c =
    let files = c.args.table.now in
    let counted = passes_counted (λ (schema : Schema). are_patterns (meanings files) (take c.args.i files.side.patterns) schema.name) files.domain.schemas c.args.filed.now.items c.requires.filed in
    let low = c.schema_position-at.ensures.within in
    omega (arith, counted, low)

pub returns : goal.returns
returns c =
    let files = c.args.table.now in
    let patterns = files.side.patterns in
    let got : slice_get patterns c.args.i ≡ Some c.get-pattern.result.now = ap (λ (side : Side). slice_get side.patterns c.args.i) (sym c.side.ensures) ∙ c.get-pattern.ensures in
    let pattern = c.get-pattern.result.now in
    let filed = c.args.filed.now.items in
    let at = c.schema_position-at.result in
    let list = c.index_mut.result.now in
    let number = c.in_ok-numbers.numbers in
    on_ok c.push.result
    (λ (put : c.push.new.self ≡ list ++ number ∷ []).
    let into : c.push.new.self ≡ get_or filed at list ++ number ∷ [] = put ∙ ap (λ (some : List (List LTerm)). some ++ number ∷ []) c.index_mut.ensures.value in
    (λ k. are_filed files (next_taken patterns c.args.i pattern got k) (set filed at (into k)))
    ∙ filed_more (meanings files) (take c.args.i patterns) pattern files.domain.schemas filed at number list c.is_well_named.ensures.schemas_distinct c.schema_position-at.ensures.within c.schema_position-at.ensures.named c.in_ok-numbers.ensures c.requires.filed)
    c.push.ensures.ok
