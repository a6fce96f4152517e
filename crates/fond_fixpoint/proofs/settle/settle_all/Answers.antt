use Rattle.std.proofs.Common.{◌+◌, List, sym, ◌∙◌, subst, arith}
use Rattle.fond_fixpoint.specs.declared.fate.Fate.{Fate}
use Rattle.fond_fixpoint.specs.Rounds.{IsRound}
use Rattle.fond_fixpoint.proofs.Searched.{round_above}
use Rattle.fond_fixpoint.proofs.Rounds.{dropped_round, less_kept, settled_end}
use Rattle.fond_fixpoint.proofs.settle.settle_all.Goals as goal

pub rounds-init : goal.rounds-init
rounds-init c =
    let kept = c.in_ok-rank_all.ensures.keeps c.args.goals.now 0 c.requires.begun in
    record { bound = kept.0; now = kept.1; spent = c.in_ok-rank_all.ensures.spent }

pub overflow_add-round : goal.overflow_add-round
overflow_add-round c = omega (arith, c.rounds.invariant.now.few, less_kept c.rounds.round c.rounds.fates (sym c.has_open.ensures ∙ c.rounds-test.true), c.requires.few)

pub rounds-smaller : goal.rounds-smaller
rounds-smaller c = omega (arith, c.in_ok-round.ensures.later, c.rounds.invariant.now.few, less_kept c.rounds.round c.rounds.fates (sym c.has_open.ensures ∙ c.rounds-test.true))

pub rounds-preserved : goal.rounds-preserved
rounds-preserved c =
    let goals = c.args.goals.now in
    let moves = c.args.moves.now in
    let before = c.rounds.invariant in
    let P : List Fate → Type 0 = λ fates. IsRound goals moves (c.rounds.round + 1) 0 fates in
    let ended = dropped_round goals moves c.rounds.round before.bound c.rounds.fates before.now before.spent c.requires.within (sym c.has_open.ensures ∙ c.rounds-test.true) in
    let fallen = c.in_ok-round.ensures.keeps goals (subst P (sym c.drop_open.ensures) ended) in
    let kept = c.in_ok-rank_all-2.ensures.keeps goals c.in_ok-round.round (round_above goals moves c.in_ok-round.round 0 1 c.cascade.new.fates (omega arith) fallen) in
    record { bound = kept.0; now = kept.1; spent = c.in_ok-rank_all-2.ensures.spent }

pub returns : goal.returns
returns c = settled_end c.args.goals.now c.args.moves.now c.rounds.round c.rounds.invariant.bound c.rounds.fates c.rounds.invariant.now (sym c.has_open.ensures ∙ c.rounds-test.false)
