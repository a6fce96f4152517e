use Rattle.std.proofs.Common.{◌∙◌, ℕ, Some, None, length, map, cond, ap, sym, subst, arith}
use Rattle.std.proofs.lemmas.Bool.{lt-ltb, le-ltb}
use Rattle.std.proofs.lemmas.Option.{slice_get_within}
use Rattle.fond_match.specs.Visits.{IsLeast, visits}
use Rattle.fond_match.proofs.Found.{VisitsPassing, first_found}
use Rattle.fond_match.proofs.Members.{range_member}
use Rattle.fond_match.proofs.matcher.Matcher.first_indexed.Goals as goal

pub returns-then-found-self : goal.returns-then-found-self
returns-then-found-self g c =
    let items = c.args.items.now in
    let query = c.args.query.now in
    let has = g.Q.Query.has query in
    let found = c.search-found.result in
    let cubes = map g.T.HasCube.cube items in
    let complete : VisitsPassing g.T.HasCube.cube (g.Q.Query.lies query) (visits has c.args.self.now.root) items = λ number own at lies.
    c.requires.of.complete has number own at (λ atom sign is. g.met.Q.Query.has_each query own atom sign lies is) (range_member (length cubes) number (slice_get_within cubes number own at)) in
    let P : ℕ → Type 0 = λ best. IsLeast (g.Q.Query.lies query) cubes best (visits has c.args.self.now.root) found in
    let least = subst P (sym c.requires.all) c.search-found.ensures.least in
    ap (λ b. cond b (Some found) None) (sym (lt-ltb found (length items) (omega (arith, c.if-found-self.true, c.requires.all)))) ∙ sym (first_found g.T.HasCube.cube (g.Q.Query.lies query) (visits has c.args.self.now.root) items found complete least)

pub returns-else-found-self : goal.returns-else-found-self
returns-else-found-self g c =
    let items = c.args.items.now in
    let query = c.args.query.now in
    let has = g.Q.Query.has query in
    let found = c.search-found.result in
    let cubes = map g.T.HasCube.cube items in
    let complete : VisitsPassing g.T.HasCube.cube (g.Q.Query.lies query) (visits has c.args.self.now.root) items = λ number own at lies.
    c.requires.of.complete has number own at (λ atom sign is. g.met.Q.Query.has_each query own atom sign lies is) (range_member (length cubes) number (slice_get_within cubes number own at)) in
    let P : ℕ → Type 0 = λ best. IsLeast (g.Q.Query.lies query) cubes best (visits has c.args.self.now.root) found in
    let least = subst P (sym c.requires.all) c.search-found.ensures.least in
    ap (λ b. cond b (Some found) None) (sym (le-ltb found (length items) (omega (arith, c.if-found-self.false, c.requires.all)))) ∙ sym (first_found g.T.HasCube.cube (g.Q.Query.lies query) (visits has c.args.self.now.root) items found complete least)
