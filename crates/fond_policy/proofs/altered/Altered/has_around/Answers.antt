use Rattle.std.proofs.Common.{◌<◌, length, ap, arith}
use Rattle.std.proofs.lemmas.Bool.{false≢true}
use Rattle.std.proofs.lemmas.Option.{slice_get_within}
use Rattle.fond_policy.specs.Items.{with_cube}
use Rattle.fond_policy.proofs.Placed.{length-altered, own_there, other_there, lies_by}
use Rattle.fond_policy.proofs.altered.Altered.has_around.Goals as goal

pub returns-then-number-len : goal.returns-then-number-len
returns-then-number-len c =
    let inside = c.self.inside in (
      λ e. absurd (false≢true e),
      λ into.
          let within = slice_get_within c.args.self.now c.args.number into.item into.numbered in
          let viewed = ap length c.self.view_is in
          let long = length-altered inside.items.now inside.at inside.cube.now in
          absurd (omega (arith, within, viewed, long, c.len.ensures, c.if-number-len.true)),
    )

pub covers-requires : goal.covers-requires
covers-requires c =
    let inside = c.self.inside in
    let within : c.args.number < length inside.items.now = omega (arith, c.len.ensures, c.if-number-len.false) in
    let own = own_there inside.items.now c.args.self.now inside.at c.args.number inside.cube.now c.self.view_is within c.if-number-self.true in
    c.requires c.args.number (with_cube own.0 inside.cube.now) own.1

pub returns-then-number-self : goal.returns-then-number-self
returns-then-number-self c =
    let inside = c.self.inside in
    let within : c.args.number < length inside.items.now = omega (arith, c.len.ensures, c.if-number-len.false) in
    let own = own_there inside.items.now c.args.self.now inside.at c.args.number inside.cube.now c.self.view_is within c.if-number-self.true in
    lies_by c.args.self.now c.args.cube.now c.args.number (with_cube own.0 inside.cube.now) c.covers.result own.1 c.covers.ensures

pub covers-requires-2 : goal.covers-requires-2
covers-requires-2 c =
    let inside = c.self.inside in
    let item = c.get.result.now in
    c.requires c.args.number item (other_there inside.items.now c.args.self.now inside.at c.args.number inside.cube.now c.self.view_is item c.if-number-self.false c.get.ensures)

pub returns : goal.returns
returns c =
    let inside = c.self.inside in
    let item = c.get.result.now in
    let at = other_there inside.items.now c.args.self.now inside.at c.args.number inside.cube.now c.self.view_is item c.if-number-self.false c.get.ensures in
    lies_by c.args.self.now c.args.cube.now c.args.number item c.covers-2.result at c.covers-2.ensures
