use Rattle.std.proofs.Common.{◌<◌, ◌^◌, List, length, sym, ◌∙◌, subst, arith}
use Rattle.std.proofs.lemmas.Option.{slice_get_within}
use Rattle.fond_task.specs.Layers.{CubeView}
use Rattle.fond_weak.specs.Weak.{ShowsLost}
use Rattle.fond_weak.proofs.Closed.{opened_shows}
use Rattle.fond_weak.proofs.Found.{tree_past, more_long, opened_next}
use Rattle.fond_weak.proofs.breadth.open_all.Goals as goal

pub loop-at-preserved : goal.loop-at-preserved
loop-at-preserved c =
    let setting = c.args.setting.now in
    let old = c.loop-at.tree.states in
    let new = c.open_state.new.tree.states in
    let before = c.loop-at.invariant in
    let told = c.in_ok-open_state.ensures in
    let there : c.loop-at.at < length old = omega (arith, c.loop-at-test.true, c.len.ensures.counted) in
    let longer = more_long old new told.more in
    record {
      next_long = c.open_state.ensures.next_long ∙ before.next_long;
      tree = told.tree;
      within = omega (arith, there, longer);
      opened = opened_next setting.task.now setting.layers.now setting.pairs.now old new c.loop-at.at told.more there before.opened told.opened;
    }

pub returns : goal.returns
returns c =
    let setting = c.args.setting.now in
    let states = c.loop-at.tree.states in
    let before = c.loop-at.invariant in
    let few : length states < 2 ^ 32 = omega (arith, c.loop-at-test.false, c.len.ensures.counted, c.loop-at.auto.at-fits) in
    let P : List CubeView → Type 0 = λ layer. ShowsLost setting.task.now setting.layers.now setting.from.now layer in
    subst P (sym c.in_ok-full_cubes.ensures.full)
    (opened_shows setting.task.now setting.layers.now setting.pairs.now setting.layers_over setting.pairs_over c.requires.pairs_sure states few
    (λ number state is.
    let within = slice_get_within states number state is in
    (before.tree.long number state is, before.opened number state (omega (arith, within, c.loop-at-test.false, c.len.ensures.counted)) is))
    setting.from.now before.tree.first)

pub returns-then-len-limit : goal.returns-then-len-limit
returns-then-len-limit c =
    let setting = c.args.setting.now in
    let tree = c.loop-at.tree in
    tree_past setting.task.now setting.pairs.now setting.from.now tree.states tree.links.items c.loop-at.invariant.tree c.len-in-loop-at.ensures.distinct c.args.limit (omega (arith, c.len-in-loop-at.ensures.counted))
