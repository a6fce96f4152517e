use Rattle.std.proofs.Common.{[], length, sym, refl}
use Rattle.fond_rules.specs.Groups.{cubes_of}
use Rattle.fond_rules.proofs.Grouped.{conditions_same, conditions_over, contradict_all, none_contradict}
use Rattle.fond_rules.proofs.pairs.Pairs.all_contradict.Goals as goal

pub first_beside-requires : goal.first_beside-requires
first_beside-requires c =
    let items = c.self.inside.items.items in
    let pairs = c.args.self.now in
    let act = c.args.act in
    let cubes = c.in-Some.list.now in
    conditions_over (length c.args.cond.now) pairs act cubes (conditions_same items pairs act (cubes_of c.self.inside.groups act) cubes c.self.view_is c.in-Some.ensures (c.self.invariant.1 act)) c.requires

pub returns-in-Some : goal.returns-in-Some
returns-in-Some c =
    let items = c.self.inside.items.items in
    let pairs = c.args.self.now in
    let act = c.args.act in
    let cubes = c.in-Some.list.now in
    contradict_all pairs act c.args.cond.now cubes (conditions_same items pairs act (cubes_of c.self.inside.groups act) cubes c.self.view_is c.in-Some.ensures (c.self.invariant.1 act)) c.first_beside.result c.is_none.result
    c.is_none.ensures c.first_beside.ensures

pub returns-in-None : goal.returns-in-None
returns-in-None c =
    let items = c.self.inside.items.items in
    let pairs = c.args.self.now in
    let act = c.args.act in
    (λ e. none_contradict pairs act c.args.cond.now (conditions_same items pairs act (cubes_of c.self.inside.groups act) [] c.self.view_is (sym c.in-None.ensures) (c.self.invariant.1 act)), λ all. refl)
