use Rattle.std.proofs.Common.{[], ◌∷◌, ◌++◌, ◌∙◌, sym, ap, ℕ, List, subst}
use Rattle.std.specs.Prelude.{Contains}
use Rattle.fond_games.proofs.Keeping.{kept_one, not_all}
use Rattle.fond_games.proofs.kept.one_of.Goals.{in-Some+in_ok-push, in_default}
use Rattle.fond_games.proofs.kept.one_of.Goals as goal

pub returns : goal.returns
returns c =
    let kinds = c.args.kinds.now in
    let graph = c.args.graph.now in
    let table = c.args.table.now in
    let node = c.args.node in
    elim c.match-unlevelled.branch [
      | in-Some+in_ok-push w ↦
          let next = w.in-Some.next in
          let found = w.in-Some.ensures.found in
          let is = w.one-is ∙ w.in_ok-push.ensures.ok ∙ ap (λ (xs : List ℕ). xs ++ next ∷ []) c.new-one.ensures in
          kept_one kinds graph table c.requires.levels c.requires.moves_on node c.requires.within c.requires.open_ c.match-unlevelled.one next is c.requires.unfair (subst (λ (xs : List ℕ). Contains xs next) c.successors.ensures found.0) found.1
      | in_default w ↦ absurd (not_all kinds graph table c.requires.levels c.requires.moves_on node c.requires.within c.requires.open_ c.requires.unfair (λ after edge. w.in_default.ensures.none after (subst (λ (xs : List ℕ). Contains xs after) (sym c.successors.ensures) edge)))
    ]
