use Rattle.std.proofs.Common.{◌<◌, [], length, get_or, subst, ◌∙◌, arith}
use Rattle.std.proofs.lemmas.Grind.{common_steps}
use Rattle.std.proofs.lemmas.List.{get_or_default}
use Rattle.fond_store.specs.Texts.{InsertsText}
use Rattle.fond_join.proofs.Tables.{put_entered}
use Rattle.fond_join.proofs.facts.enter.Goals as goal

pub returns-clause-entered : goal.returns-clause-entered
returns-clause-entered c =
    let tables = c.args.tables.now.items in
    let atom = c.args.atom.now in
    let within : atom.predicate < length tables = grind (arith, common_steps) in
    let table = c.index_mut.ensures.value ∙ get_or_default tables atom.predicate c.index_mut.result.now [] within in
    let objects = c.in_ok-objects.ensures.items ∙ c.as_slice.ensures in
    let entries = c.insert.new.self in
    let grown = subst (λ old. InsertsText old c.in_ok-objects.objects.items 0 entries) table c.in_ok-insert.ensures.ok in
    put_entered tables atom 0 entries within (subst (λ list. InsertsText (get_or tables atom.predicate []) list 0 entries) objects grown)
