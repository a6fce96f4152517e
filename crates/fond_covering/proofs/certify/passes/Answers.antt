use Rattle.std.proofs.Common.{refl, sym, ap, subst, ◌∙◌, arith}
use Rattle.std.proofs.lemmas.Bool.{false≢true}
use Rattle.std.proofs.lemmas.Option.{slice_get_within}
use Rattle.fond_state.specs.Cubes.{lies_in}
use Rattle.fond_state.proofs.Tested.{lies_in-Decides}
use Rattle.fond_task.proofs.Lists.{same_numbered}
use Rattle.fond_policy.proofs.Ruled.{firsts_belong}
use Rattle.fond_policy.specs.declared.item.Item.{Item}
use Rattle.fond_policy.specs.Items.{AreItemsOver, AreSureItems, Belong}
use Rattle.fond_covering.proofs.certify.passes.Goals as goal

pub are_sure-requires-clause-belong : goal.are_sure-requires-clause-belong
are_sure-requires-clause-belong c = subst (Belong c.args.t.now) (sym c.in_ok-conditions.ensures) (firsts_belong c.args.t.now c.args.rules.now c.requires.belong)

pub returns-then-start-len : goal.returns-then-start-len
returns-then-start-len c = (
  λ yes. absurd (false≢true yes),
  λ sure. let within = slice_get_within c.args.items.now c.args.start sure.starts.item sure.starts.numbered in absurd (omega (arith, within, c.if-start-len.true, c.len.ensures)),
)

pub returns-then-not-are_over : goal.returns-then-not-are_over
returns-then-not-are_over c = (
  λ yes. absurd (false≢true yes),
  λ sure. absurd (false≢true (c.if-not-are_over.ensures.1 (subst (λ atoms. AreItemsOver atoms c.args.items.now) (sym c.len-2.ensures) sure.over))),
)

pub returns-then-not-holds : goal.returns-then-not-holds
returns-then-not-holds c = (
  λ yes. absurd (false≢true yes),
  λ sure.
      let init = c.args.t.now.init in
      let same = same_numbered c.args.items.now c.args.start c.get.result.now sure.starts.item c.get.ensures sure.starts.numbered in
      absurd (false≢true (c.if-not-holds.ensures ∙ ap (λ (item : Item). lies_in init item.cube) same ∙ (lies_in-Decides init sure.starts.item.cube).1 sure.starts.lies)),
)

pub returns : goal.returns
returns c =
    let task = c.args.t.now in
    let items = c.args.items.now in
    let own = c.get.result.now in (
      λ yes. record {
        few = omega (arith, c.len.ensures);
        over = subst (λ atoms. AreItemsOver atoms items) c.len-2.ensures (c.if-not-are_over.ensures.0 refl);
        sure = subst (λ firsts. AreSureItems task firsts items) c.in_ok-conditions.ensures (c.are_sure.ensures.decides.0 yes);
        starts = record {
          item = own;
          numbered = c.get.ensures;
          lies = (lies_in-Decides task.init own.cube).0 (sym c.if-not-holds.ensures);
        };
      },
      λ sure. c.are_sure.ensures.decides.1 (subst (λ firsts. AreSureItems task firsts items) (sym c.in_ok-conditions.ensures) sure.sure),
    )
