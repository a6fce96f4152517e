use Rattle.std.proofs.Common.{◌∙◌, List, length, sym, subst, refl, arith, Decides}
use Rattle.std.specs.List.{list_all}
use Rattle.std.specs.Prelude.{IsTrue}
use Rattle.std.proofs.lemmas.Bool.{false≢true, and_parts}
use Rattle.fond_task.specs.Within.{is_entry_within}
use Rattle.fond_task.proofs.Found.{all_at}
use Rattle.fond_layers.specs.Over.{IsOver}
use Rattle.fond_task.specs.declared.task.Entry.{Entry}
use Rattle.fond_task.specs.Layers.{CubeView, Leads, LiesInLayer}
use Rattle.fond_layers.proofs.Tried.{read_at, some_more, each_more}
use Rattle.fond_layers.proofs.Forced.{again_by_some, again_by_each}
use Rattle.fond_layers.proofs.force.leads_again.Goals as goal

pub loop-outcome-init : goal.loop-outcome-init
loop-outcome-init c = record {
  long = c.requires.long;
  some_tried = (λ e. absurd (false≢true e), λ some. absurd (omega (arith, some.2)));
  each_tried = (λ e k d small. absurd (omega (arith, small)), λ each. refl);
}

pub loop-outcome-preserved : goal.loop-outcome-preserved
loop-outcome-preserved c =
    let cube = c.args.cube.now in
    let layer = c.args.layer.now in
    let items = c.as_slice-outcome-items.result.now in
    let i = c.loop-outcome.outcome-index in
    let outcome = c.outcome-item.result in
    let InLayer : List Entry → Type 0 = λ outcome. Leads cube outcome layer in
    let Q : CubeView → Type 0 = λ cube. Decides c.has_around-leads.result (LiesInLayer cube layer) in
    let tested = subst Q c.image_of.ensures.image c.has_around-leads.ensures in
    record {
      long = c.image_of.ensures.same_length;
      some_tried = some_more items InLayer i outcome c.loop-outcome-test.true c.outcome-item.is c.loop-outcome.some_leads c.has_around-leads.result tested c.loop-outcome.invariant.some_tried;
      each_tried = each_more items InLayer i outcome c.loop-outcome-test.true c.outcome-item.is c.loop-outcome.each_leads c.has_around-leads.result tested c.loop-outcome.invariant.each_tried;
    }

pub returns-then-act-clause-decides : goal.returns-then-act-clause-decides
returns-then-act-clause-decides c =
    again_by_some c.args.layer.now c.args.cube.now c.args.act.now c.as_slice-outcome-items.result.now (c.as_slice-outcome-items.ensures ∙ c.deref.ensures)
    c.loop-outcome.outcome-index c.loop-outcome.auto.outcome-index-end (omega arith) c.loop-outcome.some_leads c.if-act.true c.loop-outcome.invariant.some_tried

pub returns-else-act-clause-decides : goal.returns-else-act-clause-decides
returns-else-act-clause-decides c =
    again_by_each c.args.layer.now c.args.cube.now c.args.act.now c.as_slice-outcome-items.result.now (c.as_slice-outcome-items.ensures ∙ c.deref.ensures)
    c.loop-outcome.outcome-index c.loop-outcome.auto.outcome-index-end (omega arith) c.loop-outcome.each_leads c.if-act.false c.loop-outcome.invariant.each_tried

pub image_of-requires-clause-within : goal.image_of-requires-clause-within
image_of-requires-clause-within c =
    let items = c.as_slice-outcome-items.result.now in
    let outcome = c.outcome-item.result in
    let i = c.loop-outcome.outcome-index in
    let All : List (List Entry) → Type 0 = λ outcomes. IsTrue (list_all (list_all (is_entry_within (length c.args.cube.now))) outcomes) in
    let all = subst All (sym (c.as_slice-outcome-items.ensures ∙ c.deref.ensures)) (and_parts _ _ c.requires.within).1 in
    all_at (list_all (is_entry_within (length c.args.cube.now))) items i outcome all (read_at items i outcome c.loop-outcome-test.true c.outcome-item.is)

pub has_around-leads-requires : goal.has_around-leads-requires
has_around-leads-requires c = subst (λ atoms. IsOver atoms c.args.layer.now) (sym c.image_of.ensures.same_length) c.requires.layer_over
