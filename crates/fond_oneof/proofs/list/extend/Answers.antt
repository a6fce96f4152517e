use Rattle.std.proofs.Common.{◌∷◌, ◌++◌, ◌+◌, map, drop, sym, ap}
use Rattle.fond_oneof.specs.Shown.{shown}
use Rattle.fond_oneof.proofs.Forms.{shown_same}
use Rattle.fond_oneof.proofs.Lists.{more_mapped}
use Rattle.fond_oneof.proofs.list.extend.Goals as goal

pub loop-entry-preserved : goal.loop-entry-preserved
loop-entry-preserved c =
    let more = c.args.more.now in
    let i = c.loop-entry.entry-index in
    let entry = c.entry-item.result in
    more_mapped shown (map shown) c.loop-entry.outcome c.push.new.self more i entry (record { cond = c.in_ok-copied.field-0; atom = entry.atom; add = entry.add }) (map shown c.args.outcome.now ++ map shown more)
    c.loop-entry-test.true c.entry-item.is c.in_ok-push.ensures.ok (ap (λ one. one ∷ map shown (drop (i + 1) more)) (sym (shown_same entry c.in_ok-copied.field-0 c.in_ok-copied.ensures))) c.loop-entry.invariant
