use Rattle.std.proofs.Common.{◌∙◌, List, length, sym, subst, refl, arith}
use Rattle.std.specs.List.{list_all}
use Rattle.std.specs.Prelude.{Contains, IsTrue}
use Rattle.std.proofs.lemmas.Bool.{false≢true, and_parts}
use Rattle.fond_task.specs.Within.{is_entry_within}
use Rattle.fond_task.proofs.Found.{all_at}
use Rattle.fond_layers.specs.Over.{AreOver}
use Rattle.fond_task.specs.declared.task.Entry.{Entry}
use Rattle.fond_task.specs.Images.{image}
use Rattle.fond_task.specs.Layers.{CubeView}
use Rattle.fond_layers.specs.Leads.{LiesInSome}
use Rattle.fond_layers.proofs.Tried.{read_at, read_Contains, all_more}
use Rattle.fond_layers.proofs.Forced.{none_earlier}
use Rattle.fond_layers.proofs.force.leads_earlier.Goals as goal

pub loop-outcome-init : goal.loop-outcome-init
loop-outcome-init c = record {
  long = c.requires.long;
  misses = λ k d small. absurd (omega (arith, small));
}

pub loop-outcome-preserved : goal.loop-outcome-preserved
loop-outcome-preserved c =
    let cube = c.args.cube.now in
    let earlier = c.args.earlier.now in
    let items = c.as_slice-outcome-items.result.now in
    let Misses : List Entry → Type 0 = λ outcome. ¬ LiesInSome (image cube outcome) earlier in
    let R : CubeView → Type 0 = λ cube. ¬ LiesInSome cube earlier in
    let missed = subst R c.image_of.ensures.image (λ lies. false≢true (c.if-lies_in_some.ensures.1 lies)) in
    record {
      long = c.image_of.ensures.same_length;
      misses = all_more items Misses c.loop-outcome.outcome-index c.outcome-item.result c.loop-outcome-test.true c.outcome-item.is missed c.loop-outcome.invariant.misses;
    }

pub returns-then-lies_in_some-clause-decides : goal.returns-then-lies_in_some-clause-decides
returns-then-lies_in_some-clause-decides c =
    let outcome = c.outcome-item.result in
    let items = c.as_slice-outcome-items.result.now in
    let P : List (List Entry) → Type 0 = λ os. Contains os outcome in
    let Q : CubeView → Type 0 = λ cube. LiesInSome cube c.args.earlier.now in
    let has = subst P (c.as_slice-outcome-items.ensures ∙ c.deref.ensures) (read_Contains items c.loop-outcome.outcome-index outcome c.loop-outcome-test.true c.outcome-item.is) in
    let lies = subst Q c.image_of.ensures.image (c.if-lies_in_some.ensures.0 refl) in
    (λ e. (lies.0, lies.1, (outcome, has, lies.2)), λ one. refl)

pub returns-clause-decides : goal.returns-clause-decides
returns-clause-decides c = (
  λ e. absurd (false≢true e),
  λ one. absurd (none_earlier c.args.earlier.now c.args.cube.now c.args.act.now c.as_slice-outcome-items.result.now (c.as_slice-outcome-items.ensures ∙ c.deref.ensures) c.loop-outcome.outcome-index (omega (arith, c.loop-outcome-test.false)) c.loop-outcome.invariant.misses one),
)

pub image_of-requires-clause-within : goal.image_of-requires-clause-within
image_of-requires-clause-within c =
    let items = c.as_slice-outcome-items.result.now in
    let outcome = c.outcome-item.result in
    let i = c.loop-outcome.outcome-index in
    let All : List (List Entry) → Type 0 = λ outcomes. IsTrue (list_all (list_all (is_entry_within (length c.args.cube.now))) outcomes) in
    let all = subst All (sym (c.as_slice-outcome-items.ensures ∙ c.deref.ensures)) (and_parts _ _ c.requires.within).1 in
    all_at (list_all (is_entry_within (length c.args.cube.now))) items i outcome all (read_at items i outcome c.loop-outcome-test.true c.outcome-item.is)

pub lies_in_some-requires : goal.lies_in_some-requires
lies_in_some-requires c = subst (λ atoms. AreOver atoms c.args.earlier.now) (sym c.image_of.ensures.same_length) c.requires.earlier_over
