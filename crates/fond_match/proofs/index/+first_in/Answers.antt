use Rattle.std.proofs.Common.{◌∙◌, map, ap, refl, sym, rules}
use Rattle.std.specs.Prelude.{position}
use Rattle.fond_match.specs.Blocks.{AreBlocksOf}
use Rattle.fond_match.proofs.Growing.{rest_blocks}
use Rattle.fond_match.proofs.Joined.{found_front, found_back, found_none, parts_joined}
use Rattle.fond_match.proofs.index.+first_in.Goals as goal

pub returns-in-Some-first_indexed : goal.returns-in-Some-first_indexed
returns-in-Some-first_indexed g t c =
    let test = λ (item : g.row.T.Denot). g.Q.Query.lies c.args.query.now (g.T.HasCube.cube item) in
    let front = c.split_at.result.0.now in
    let back = c.split_at.result.1.now in
    let joined = parts_joined c.in-Some.block.now.count front back c.args.items.now c.args.items.now c.split_at.ensures.front c.split_at.ensures.back refl in
    sym (found_front test front back c.in-Some-first_indexed.number (sym c.in-Some-first_indexed.ensures)) ∙ ap (position test) joined

pub first_in-requires : goal.first_in-requires
first_in-requires g t c κs within =
    let rest : AreBlocksOf (map g.T.HasCube.cube c.split_at.result.1.now) c.in-Some.others.now = rest_blocks g.T.HasCube.cube c.args.items.now c.in-Some.block.now c.args.blocks.now c.in-Some.others.now
    c.in-Some.ensures.cases.0 c.requires.of c.split_at.result.1.now c.split_at.ensures.back in
    search rules

pub returns-in_err-number : goal.returns-in_err-number
returns-in_err-number g t c =
    let test = λ (item : g.row.T.Denot). g.Q.Query.lies c.args.query.now (g.T.HasCube.cube item) in
    let front = c.split_at.result.0.now in
    let back = c.split_at.result.1.now in
    let joined = parts_joined c.in-Some.block.now.count front back c.args.items.now c.args.items.now c.split_at.ensures.front c.split_at.ensures.back refl in
    c.from_residual-in_err-number.ensures ∙ sym (found_none test front back (sym c.in_default-first_indexed.ensures) (sym c.in_err-number.ensures)) ∙ ap (position test) joined

pub returns : goal.returns
returns g t c =
    let test = λ (item : g.row.T.Denot). g.Q.Query.lies c.args.query.now (g.T.HasCube.cube item) in
    let front = c.split_at.result.0.now in
    let back = c.split_at.result.1.now in
    let joined = parts_joined c.in-Some.block.now.count front back c.args.items.now c.args.items.now c.split_at.ensures.front c.split_at.ensures.back refl in
    sym (found_back test front back c.in_ok-number.number (sym c.in_default-first_indexed.ensures) (sym c.in_ok-number.ensures)) ∙ ap (position test) joined
