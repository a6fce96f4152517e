use Rattle.std.proofs.Common.{◌∷◌, [], ◌++◌, ◌∙◌, ap, sym, set}
use Rattle.std.proofs.lemmas.List.{get_or_default}
use Rattle.fond_ast.specs.Ranges.{is_among}
use Rattle.fond_join.specs.Rows.{row_at}
use Rattle.fond_join.proofs.Rowed.{added_last}
use Rattle.fond_join.proofs.rows.add.Goals as goal

pub returns-in_ok-push-in-Some-clause-added : goal.returns-in_ok-push-in-Some-clause-added
returns-in_ok-push-in-Some-clause-added c =
    let numbers = c.args.rows.now.numbers in
    let lists = c.args.rows.now.lists.items in
    let there = sym c.find.ensures ∙ c.in-Some.is in
    let within = c.requires.numbered c.args.key.now c.in-Some.number there in
    let list = c.in_ok-push-in-Some.ensures.ok ∙ ap (λ list. list ++ c.args.object ∷ []) (c.index_mut.ensures.value ∙ get_or_default lists c.in-Some.number c.index_mut.result.now [] within) in
    ap (λ list. is_among (row_at numbers (set lists c.in-Some.number list) c.args.key.now) c.args.object) list ∙ added_last numbers lists c.args.key.now c.args.object c.requires.numbered c.in-Some.number there
