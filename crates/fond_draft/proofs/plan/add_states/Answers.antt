use Rattle.std.proofs.Common.{◌≡◌, ◌∙◌, ◌+◌, List, Bool, ◌∷◌, ◌++◌, drop, map, sym, ap, subst, arith}
use Rattle.std.proofs.lemmas.List.{append-nil}
use Rattle.fond_text.specs.Lists.{AreDistinct}
use Rattle.fond_explicit.specs.Answers.{ChoiceView}
use Rattle.fond_draft.proofs.Listed.{added_state, drop_past, drop_step, new_state}
use Rattle.fond_draft.proofs.plan.add_states.Goals as goal

pub loop-number-preserved : goal.loop-number-preserved
loop-number-preserved c =
    let f : ChoiceView → List Bool = λ choice. choice.state in
    let choices = c.args.choices.now in
    let own = c.get.result.now in
    let rest = map f (drop (c.loop-number.number + 1) choices) in
    let whole : c.loop-number.states ++ own.state ∷ rest ≡ map f choices =
    ap (λ xs. c.loop-number.states ++ map f xs) (sym (drop_step choices c.loop-number.number own c.get.ensures)) ∙ c.loop-number.invariant in
    added_state c.loop-number.states own.state c.in_ok-copy.field-0 c.in_ok-add.field-0 c.add.new.self rest c.in_ok-copy.ensures
    (new_state c.loop-number.states own.state rest (subst AreDistinct (sym whole) c.requires.distinct)) c.in_ok-add.ensures.ok
    ∙ whole

pub returns : goal.returns
returns c =
    let f : ChoiceView → List Bool = λ choice. choice.state in
    sym (append-nil c.loop-number.states)
    ∙ ap (λ (xs : List ChoiceView). c.loop-number.states ++ map f xs) (sym (drop_past c.args.choices.now c.loop-number.number (omega (arith, c.loop-number-test.false, c.len-number-end.ensures))))
    ∙ c.loop-number.invariant
