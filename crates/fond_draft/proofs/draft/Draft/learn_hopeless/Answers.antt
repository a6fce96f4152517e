use Rattle.std.proofs.Common.{subst}
use Rattle.std.proofs.lemmas.Bool.{false≢true}
use Rattle.std.proofs.lemmas.Result.{IfOk-weaker}
use Rattle.std.specs.Prelude.{Decides}
use Rattle.fond_regress.specs.Guesses.{IsGuess}
use Rattle.fond_regress.specs.declared.estimate.Guess.{Guess}
use Rattle.fond_regress.specs.Stable.{IsHopeless, IsHopelessBy}
use Rattle.fond_draft.specs.Learning.{IsDeadAround}
use Rattle.fond_draft.proofs.Spots.{hopeless_dead}
use Rattle.fond_draft.proofs.draft.Draft.learn_hopeless.Goals as goal

pub returns-in-Never-clause-decides : goal.returns-in-Never-clause-decides
returns-in-Never-clause-decides c =
    let task = c.args.t.now in
    let state = c.args.state.now in
    let layers = c.args.self.now.layers in
    let cube = c.in-Never.cube in
    let hopeless : IsHopelessBy task state cube = subst (λ (guess : Guess). IsGuess task state guess) c.in-Never.is c.in_ok-cube.ensures in
    IfOk-weaker c.learn_cube.result (λ learnt. Decides learnt (IsDeadAround task layers state cube)) (λ learnt. Decides learnt (IsHopeless task state))
    (λ learnt told. (λ yes. (cube, hopeless), λ has. told.1 (hopeless_dead task layers state cube hopeless))) c.learn_cube.ensures.decides

pub returns-in-Reach-clause-decides : goal.returns-in-Reach-clause-decides
returns-in-Reach-clause-decides c = (λ yes. absurd (false≢true yes), λ has. absurd (subst (λ (guess : Guess). IsGuess c.args.t.now c.args.state.now guess) c.in-Reach.is c.in_ok-cube.ensures has))
