use Rattle.std.proofs.Common.{◌≡◌, ◌∙◌, ap, length, List}
use Rattle.std.proofs.lemmas.Result.{IfOk-weaker}
use Rattle.std.proofs.Math.ListN.{set, replicate}
use Rattle.fond_games.specs.declared.kind.Kind.{Kind}
use Rattle.fond_games.specs.declared.kind.Kind.TheVariants.{Goal, Fair}
use Rattle.fond_games.proofs.Hopped.{hops}
use Rattle.fond_games.proofs.hops.toward.Goals as goal

pub returns : goal.returns
returns c =
    let graph = c.args.graph.now in
    let target = c.args.target in
    let items = c.in_ok-kinds.ensures.items_if_clones_equal (λ y is. is) in
    let kinds : c.deref.result.now ≡ set (replicate (length graph) Fair) target Goal = c.deref.ensures.value ∙ ap (λ (ks : List Kind). set ks target Goal) (items ∙ ap (λ n. replicate n Fair) c.len.ensures) in
    IfOk-weaker c.levels.result _ _ (λ table levels. hops graph target c.requires.there c.deref.result.now kinds table.items levels) c.levels.ensures
