use Rattle.std.proofs.Common.{◌∙◌, List, slice_get, sym, ap, subst}
use Rattle.fond_state.specs.Cubes.{CubeLiesIn}
use Rattle.fond_task.specs.declared.task.Entry.{Entry}
use Rattle.fond_task.specs.Images.{image}
use Rattle.fond_task.proofs.Found.{outcome_within, same_entries}
use Rattle.fond_task.specs.Layers.{CubeView}
use Rattle.fond_rules.proofs.pair_test.PairTest.leads_into.Goals as goal

pub image_of-requires-clause-within : goal.image_of-requires-clause-within
image_of-requires-clause-within c =
    let task = c.args.self.now.task.now in
    rw (c.requires.cond_long) (outcome_within _ task.acts c.args.self.now.act c.get-act.result.now c.args.self.now.outcome c.get.result.now task.acts_within c.get-act.ensures (ap (λ (all : List (List Entry)). slice_get all c.args.self.now.outcome) (sym c.deref-2.ensures) ∙ c.get.ensures))

pub returns-clause-decides : goal.returns-clause-decides
returns-clause-decides c =
    let task = c.args.self.now.task.now in
    let dead = c.args.self.now.dead.now in
    let pair = c.args.self.now in
    let cond = c.args.cond.now in
    let own = c.get.result.now in
    let Lies : CubeView → Type 0 = λ cube. CubeLiesIn cube dead in
    let Leads : List Entry → Type 0 = λ entries. CubeLiesIn (image cond entries) dead in (
      λ e. record {
        act = c.get-act.result.now;
        has_act = c.get-act.ensures;
        outcome = own;
        has_outcome = ap (λ (all : List (List Entry)). slice_get all c.args.self.now.outcome) (sym c.deref-2.ensures) ∙ c.get.ensures;
        leads = subst Lies c.image_of.ensures.image (c.covers.ensures.0 e);
      },
      λ leads.
          let same = same_entries task.acts pair.act pair.outcome c.get-act.result.now leads.act own leads.outcome c.get-act.ensures leads.has_act (ap (λ (all : List (List Entry)). slice_get all c.args.self.now.outcome) (sym c.deref-2.ensures) ∙ c.get.ensures) leads.has_outcome in
          c.covers.ensures.1 (subst Lies (sym c.image_of.ensures.image) (subst Leads (sym same) leads.leads)),
    )
