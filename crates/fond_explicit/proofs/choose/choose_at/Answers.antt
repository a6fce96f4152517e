use Rattle.std.proofs.Common.{◌+◌, List, Some, sym, ap, ◌∙◌, subst}
use Rattle.fond_explicit.specs.Answers.{ChoiceView}
use Rattle.fond_explicit.specs.Spaces.{AreRanks}
use Rattle.fond_explicit.proofs.Choosing.{ranks_skip, ranks_more}
use Rattle.fond_explicit.proofs.choose.choose_at.Goals as goal

pub returns-in_default : goal.returns-in_default
returns-in_default c = λ before. ranks_skip c.args.states.now c.requires.distinct c.args.moves.now c.args.fates.now c.args.node c.args.choices.now before (λ rank by is. c.in_default.not-Ranked rank by (c.fate_of.ensures ∙ is))

pub act-act-requires : goal.act-act-requires
act-act-requires c = (c.requires.ranks c.args.node c.in-Ranked.rank c.in-Ranked.by (sym c.fate_of.ensures ∙ c.in-Ranked.is)).there

pub returns : goal.returns
returns c = λ before.
    let choice : ChoiceView = record { state = c.in_ok-state.state; act = c.act-act.result; rank = c.in-Ranked.rank } in
    let P : List ChoiceView → Type 0 = λ choices. AreRanks c.args.states.now c.args.moves.now c.args.fates.now (c.args.node + 1) choices in
    subst P (sym c.in_ok-push.ensures.ok)
    (ranks_more c.args.states.now c.requires.distinct c.args.moves.now c.args.fates.now c.args.node c.args.choices.now before choice c.in-Ranked.by
    (c.get.ensures ∙ ap (λ s. Some s) (sym c.in_ok-state.ensures)) (sym c.fate_of.ensures ∙ c.in-Ranked.is) c.act-act.ensures)
