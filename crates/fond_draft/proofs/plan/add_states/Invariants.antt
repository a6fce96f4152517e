use Rattle.std.proofs.Common.{◌≡◌, ◌++◌, drop, map}
use Rattle.fond_explicit.specs.Answers.{ChoiceView}
use Rattle.fond_draft.proofs.plan.add_states.Given as goal

-- the states so far are those of the choices so far
abbrev pub invariant-loop-number : goal.invariant-loop-number
invariant-loop-number l = l.states ++ map (λ (choice : ChoiceView). choice.state) (drop l.number l.choices) ≡ map (λ (choice : ChoiceView). choice.state) l.choices
