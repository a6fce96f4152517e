use Rattle.std.proofs.Common.{◌∙◌, [], ◌∷◌, List, sym, subst}
use Rattle.std.proofs.lemmas.Bool.{false≢true}
use Rattle.std.specs.Prelude.{Contains}
use Rattle.std.proofs.lemmas.List.Elements.{Contains-push}
use Rattle.fond_state.proofs.Tested.{lies_in-Decides}
use Rattle.fond_task.proofs.Lists.{Contains-here}
use Rattle.fond_task.specs.Layers.{CubeView}
use Rattle.fond_draft.proofs.draft.Draft.learn_cube.Goals as goal

pub returns-clause-lies : goal.returns-clause-lies
returns-clause-lies c = λ yes.
    let cube = c.args.cube in
    let made = c.in_ok-kept.ensures.kept yes in
    record {
      layer = cube ∷ [];
      one = subst (λ (layers : List (List CubeView)). Contains layers (cube ∷ [])) (sym made) (Contains-push c.args.self.now.layers (cube ∷ []));
      cube = cube;
      has = Contains-here cube [];
      lies = (lies_in-Decides c.args.state.now cube).0 (sym c.if-not-holds.ensures);
    }

pub returns-clause-decides : goal.returns-clause-decides
returns-clause-decides c =
    let lies = (lies_in-Decides c.args.state.now c.args.cube).0 (sym c.if-not-holds.ensures) in (
      λ yes. record { over = sym c.len.ensures.counted ∙ c.if-len.false ∙ c.len-2.ensures; lies = lies; sure = c.in_ok-kept.ensures.decides.0 yes },
      λ dead. c.in_ok-kept.ensures.decides.1 dead.sure,
    )

pub returns-then-not-holds-clause-decides : goal.returns-then-not-holds-clause-decides
returns-then-not-holds-clause-decides c = (
  λ yes. absurd (false≢true yes),
  λ dead. c.if-not-holds.ensures ∙ (lies_in-Decides c.args.state.now c.args.cube).1 dead.lies,
)
