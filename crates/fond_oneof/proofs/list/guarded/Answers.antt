use Rattle.std.proofs.Common.{◌∷◌, ◌++◌, ◌+◌, ◌∙◌, List, map, drop, sym, ap}
use Rattle.fond_task.specs.declared.task.Entry.{Entry}
use Rattle.fond_oneof.specs.Shown.{shown, shown_under}
use Rattle.fond_oneof.proofs.Forms.{shown_both}
use Rattle.fond_oneof.proofs.Lists.{more_mapped}
use Rattle.fond_oneof.proofs.list.guarded.Goals as goal

pub loop-entry-preserved : goal.loop-entry-preserved
loop-entry-preserved c =
    let entries = c.as_slice-entry-items.result.now in
    let i = c.loop-entry.entry-index in
    let entry = c.entry-item.result in
    let under = shown_under c.args.condition.now in
    let rest = λ (list : List Entry). map under (map shown list) in
    let same = c.as_slice-entry-items.ensures in
    ap (λ list. map shown c.push.new.self ++ rest (drop (i + 1) list)) (sym same)
    ∙ more_mapped shown rest c.loop-entry.under c.push.new.self entries i entry (record { cond = c.in_ok-both.field-0; atom = entry.atom; add = entry.add }) (rest c.args.outcome.now)
    c.loop-entry-test.true c.entry-item.is c.in_ok-push.ensures.ok (ap (λ one. one ∷ rest (drop (i + 1) entries)) (sym (shown_both c.args.condition.now entry c.in_ok-both.field-0 c.in_ok-both.ensures)))
    (ap (λ list. map shown c.loop-entry.under ++ rest (drop i list)) same ∙ c.loop-entry.invariant)
