use Rattle.std.proofs.Common.{◌<◌, length, arith, sym, ◌∙◌}
use Rattle.std.proofs.lemmas.List.{at_drop_all}
use Rattle.std.specs.List.{flat_map}
use Rattle.fond_text.proofs.Outs.{adding_all, adding_at, adding_none, adding_lost}
use Rattle.fond_cert.proofs.listing.put_all.Goals as goal

pub loop-i-init : goal.loop-i-init
loop-i-init g c = adding_all g.O.Out.adds (g.met.O.Out.adds_nothing _)

pub loop-i-preserved : goal.loop-i-preserved
loop-i-preserved g c =
    let there : c.loop-i.i < length (g.L.Listing.items c.args.list.now) = omega (arith, c.loop-i-test.true, c.count-i-end.ensures.count) in
    let text = g.L.Listing.text c.args.task.now in
    adding_at g.O.Out.adds g.met.O.Out.adds_then {whole = flat_map text (g.L.Listing.items c.args.list.now)} text _ _ there c.put_at.ensures c.loop-i.invariant

pub returns-then-has_failed : goal.returns-then-has_failed
returns-then-has_failed g c = adding_lost g.O.Out.adds g.met.O.Out.adds_then (g.met.O.Out.adds_failed _ _ (sym c.has_failed.ensures ∙ c.if-has_failed.true)) c.loop-i.invariant

pub returns : goal.returns
returns g c =
    adding_none g.O.Out.adds (at_drop_all (flat_map (g.L.Listing.text c.args.task.now)) (g.L.Listing.items c.args.list.now) c.loop-i.i (omega (arith, c.loop-i-test.false, c.count-i-end.ensures.count))) c.loop-i.invariant
