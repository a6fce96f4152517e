use Rattle.std.proofs.Common.{◌∙◌, ap, refl, sym}
use Rattle.std.specs.Prelude.{position}
use Rattle.fond_match.proofs.Joined.{found_front, found_back, found_none, parts_joined}
use Rattle.fond_match.proofs.matcher.Matcher.first.Goals as goal

pub returns-in-Some : goal.returns-in-Some
returns-in-Some g c =
    let test = λ (item : g.row.T.Denot). g.Q.Query.lies c.args.query.now (g.T.HasCube.cube item) in
    let front = c.split_at.result.0.now in
    let back = c.split_at.result.1.now in
    let joined = parts_joined c.args.self.now.count front back c.args.items.now c.args.items.now c.split_at.ensures.front c.split_at.ensures.back refl in
    sym (found_front test front back c.in-Some.number (sym c.in-Some.ensures)) ∙ ap (position test) joined

pub returns-in_err-number : goal.returns-in_err-number
returns-in_err-number g c =
    let test = λ (item : g.row.T.Denot). g.Q.Query.lies c.args.query.now (g.T.HasCube.cube item) in
    let front = c.split_at.result.0.now in
    let back = c.split_at.result.1.now in
    let joined = parts_joined c.args.self.now.count front back c.args.items.now c.args.items.now c.split_at.ensures.front c.split_at.ensures.back refl in
    c.from_residual.ensures ∙ sym (found_none test front back (sym c.in_default.ensures) (sym c.in_err-number.ensures)) ∙ ap (position test) joined

pub returns : goal.returns
returns g c =
    let test = λ (item : g.row.T.Denot). g.Q.Query.lies c.args.query.now (g.T.HasCube.cube item) in
    let front = c.split_at.result.0.now in
    let back = c.split_at.result.1.now in
    let joined = parts_joined c.args.self.now.count front back c.args.items.now c.args.items.now c.split_at.ensures.front c.split_at.ensures.back refl in
    sym (found_back test front back c.in_ok-number.number (sym c.in_default.ensures) (sym c.in_ok-number.ensures)) ∙ ap (position test) joined
