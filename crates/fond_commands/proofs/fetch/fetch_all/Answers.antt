use Rattle.std.proofs.Common.{Err, Ok, OnOk, Result, ◌≡◌, ◌∙◌, arith, false, is_err}
use Rattle.fond_commands.specs.Fetches.{IsContent}
use Rattle.fond_commands.proofs.Lists.{one_more}
use Rattle.fond_commands.proofs.fetch.fetch_all.Goals as goal

on_ok : {T E P : Type 0} (result : Result T E) → false ≡ is_err result → OnOk result P → P
on_ok (Ok x) is h = h
on_ok (Err e) is h = cc

pub loop-name-preserved : goal.loop-name-preserved
loop-name-preserved g c =
    let held = g.S.Shelf.held c.args.shelf.now in
    let before = c.loop-name.invariant in
    let made = on_ok _ c.if-is_err.ensures.value c.push.ensures.ok in
    record {
      fetched = one_more (IsContent held) c.args.names.now c.loop-name.name-index c.name-item.result c.loop-name.contents c.push.new.self c.in_ok-content.content c.loop-name-test.true c.name-item.is made (rw before.kept at c.in_ok-content.ensures.fetched) before.fetched;
      kept = c.in_ok-content.ensures.kept ∙ before.kept;
      counted = omega (arith, before.counted, c.in_ok-content.ensures.counted);
    }
