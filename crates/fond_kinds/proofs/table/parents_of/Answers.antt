use Rattle.std.proofs.Common.{◌≡◌, ◌<◌, [], ◌++◌, None, length, map, drop, sym, ap, ◌∙◌, arith}
use Rattle.std.proofs.lemmas.List.{append-nil, drop_all, length-map}
use Rattle.fond_kinds.specs.Parents.{parent_of}
use Rattle.fond_kinds.proofs.Numbers.{map_at, map_next, parent_number, parents_ascend, parents_within}
use Rattle.fond_kinds.proofs.Types.{number_within}
use Rattle.fond_kinds.specs.Tables.{type_names}
use Rattle.fond_kinds.proofs.table.parents_of.Goals as goal

pub returns-clause-ascends : goal.returns-clause-ascends
returns-clause-ascends c name number known =
    let low : number < length (type_names c.args.types.now) = number_within c.args.types.now name number known in
    let over : length c.args.firsts.now ≡ length (type_names c.args.types.now) = c.requires.over in
    let inside : number < length c.args.firsts.now = omega arith in
    let none : drop c.loop-first.first-index c.args.firsts.now ≡ [] = drop_all c.loop-first.first-index c.args.firsts.now c.loop-first-test.false in
    let all : c.loop-first.parents.items ≡ map (parent_number c.args.types.now c.args.numbers.now) c.args.firsts.now =
    sym (append-nil c.loop-first.parents.items) ∙ sym (ap (λ z. c.loop-first.parents.items ++ map (parent_number c.args.types.now c.args.numbers.now) z) none) ∙ c.loop-first.invariant in
    ap (λ z. parent_of z number) all ∙ map_at (parent_number c.args.types.now c.args.numbers.now) c.args.firsts.now number None None inside
    ∙ parents_ascend c.args.types.now c.args.numbers.now c.args.firsts.now c.requires.numbered c.requires.declared name number known

pub returns-clause-within : goal.returns-clause-within
returns-clause-within c =
    let none : drop c.loop-first.first-index c.args.firsts.now ≡ [] = drop_all c.loop-first.first-index c.args.firsts.now c.loop-first-test.false in
    let all : c.loop-first.parents.items ≡ map (parent_number c.args.types.now c.args.numbers.now) c.args.firsts.now =
    sym (append-nil c.loop-first.parents.items) ∙ sym (ap (λ z. c.loop-first.parents.items ++ map (parent_number c.args.types.now c.args.numbers.now) z) none) ∙ c.loop-first.invariant in
    parents_within c.args.types.now c.args.numbers.now c.args.firsts.now c.requires.numbered c.requires.over c.loop-first.parents.items all

pub loop-first-preserved : goal.loop-first-preserved
loop-first-preserved c =
    map_next (parent_number c.args.types.now c.args.numbers.now) c.loop-first.parents.items c.push.new.self.items _ c.args.firsts.now c.loop-first.first-index None c.parent_number.result
    c.loop-first-test.true c.parent_number.ensures c.in_ok-push.ensures.items c.loop-first.invariant

pub returns-clause-over : goal.returns-clause-over
returns-clause-over c =
    let none : drop c.loop-first.first-index c.args.firsts.now ≡ [] = drop_all c.loop-first.first-index c.args.firsts.now c.loop-first-test.false in
    let all : c.loop-first.parents.items ≡ map (parent_number c.args.types.now c.args.numbers.now) c.args.firsts.now =
    sym (append-nil c.loop-first.parents.items) ∙ sym (ap (λ z. c.loop-first.parents.items ++ map (parent_number c.args.types.now c.args.numbers.now) z) none) ∙ c.loop-first.invariant in
    ap length all ∙ length-map c.args.firsts.now (parent_number c.args.types.now c.args.numbers.now)
