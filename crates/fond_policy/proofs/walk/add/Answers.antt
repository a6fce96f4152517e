use Rattle.std.proofs.Common.{◌≡◌, refl, sym, ◌∙◌, List, Bool}
use Rattle.fond_policy.proofs.Walking.{added_grows, added_has, found_there, grows_none}
use Rattle.fond_policy.proofs.walk.add.Goals as goal

pub returns-then-is_some-clause-has : goal.returns-then-is_some-clause-has
returns-then-is_some-clause-has c = found_there c.args.states.now c.args.state.now c.find.result c.find.ensures (sym c.is_some.ensures ∙ c.if-is_some.true)

pub returns-then-is_some-clause-grows : goal.returns-then-is_some-clause-grows
returns-then-is_some-clause-grows c = grows_none _ c.args.states.now

pub returns-clause-has : goal.returns-clause-has
returns-clause-has c = added_has (λ (s : List Bool). s ≡ c.args.state.now) c.args.states.now c.add.new.self c.args.state.now c.in_ok-copy.field-0 c.in_ok-add.field-0 c.in_ok-copy.ensures c.in_ok-add.ensures.ok

pub returns-clause-grows : goal.returns-clause-grows
returns-clause-grows c = added_grows (λ (s : List Bool). s ≡ c.args.state.now) c.args.states.now c.add.new.self c.args.state.now c.in_ok-copy.field-0 c.in_ok-add.field-0 c.in_ok-copy.ensures c.in_ok-add.ensures.ok refl
