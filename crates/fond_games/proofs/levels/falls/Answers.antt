use Rattle.std.proofs.Common.{◌≡◌, length, sym, ◌∙◌, subst}
use Rattle.std.proofs.lemmas.Bool.{false≢true}
use Rattle.std.proofs.lemmas.Bool.Decides.{Decides-eqb}
use Rattle.fond_games.specs.declared.kind.Kind.{Kind}
use Rattle.fond_games.specs.Levels.{Falls}
use Rattle.fond_games.proofs.Raised.{falls_all, none_then}
use Rattle.fond_games.proofs.levels.falls.Goals as goal

pub returns-in-Unfair-clause-yes : goal.returns-in-Unfair-clause-yes
returns-in-Unfair-clause-yes c = λ is.
    let nexts = c.successors-nexts.result.now in
    let some : ¬ (length nexts ≡ 0) = λ none. false≢true (sym c.if-is_empty.false ∙ c.is_empty.ensures ∙ (Decides-eqb (length nexts) 0).1 none) in
    let each = none_then c.unlowered.result c.is_none.result c.is_none.ensures is c.unlowered.ensures.none in
    let all = falls_all c.args.graph.now c.args.table.now c.args.level c.args.node nexts c.successors-nexts.ensures some each in
    subst (λ (k : Kind). Falls k c.args.graph.now c.args.table.now c.args.level c.args.node) (sym c.in-Unfair.is) all
