use Rattle.std.proofs.Common.{◌≡◌, ◌∙◌, arith}
use Rattle.std.proofs.lemmas.Result.{IfOk-weaker}
use Rattle.fond_games.specs.Levels.{kind_at, level_at}
use Rattle.fond_games.proofs.Keeping.{kept_all, not_unfair}
use Rattle.fond_games.proofs.kept.kept_at.Goals as goal

pub returns-in-Goal : goal.returns-in-Goal
returns-in-Goal c =
    let none : level_at c.args.table.now c.args.node ≡ 0 = omega (arith, c.level_of.ensures, c.if-level_of-gt0.false) in
    IfOk-weaker c.copy.result _ _ (λ all is. kept_all c.args.kinds.now c.args.graph.now c.args.table.now c.requires.levels c.requires.moves_on c.args.node c.requires.within none all (is ∙ c.successors.ensures) (not_unfair (kind_at c.args.kinds.now c.args.node) c.in-Goal.is)) c.copy.ensures
