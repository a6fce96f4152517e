use Rattle.std.proofs.Common.{◌+◌, Bool, List, map, drop, length, sym, ap, ◌∙◌}
use Rattle.std.specs.Prelude.{◌&&◌, ◌||◌}
use Rattle.std.specs.List.{list_all, list_any}
use Rattle.std.proofs.lemmas.Bool.{and_parts}
use Rattle.std.proofs.lemmas.List.{at_drop_all}
use Rattle.fond_task.specs.declared.form.Form.{Form}
use Rattle.fond_task.specs.Truth.{is_true}
use Rattle.fond_task.specs.Within.{is_form_within}
use Rattle.fond_task.proofs.Folded.{all_next, any_next}
use Rattle.fond_task.proofs.Junctions.{is_true-And, is_true-Or, within-parts-And, within-parts-Or}
use Rattle.fond_task.proofs.truth.+evaluate.Goals as goal

pub returns-then-not-evaluate : goal.returns-then-not-evaluate
returns-then-not-evaluate t c =
    let holds = is_true c.args.state.now in
    let items = c.deref-part-items.result.now in
    let rest : Bool = list_all (λ b. b) (map holds (drop (c.loop-part.part-index + 1) items)) in
    ap (λ b. b && rest) c.if-not-evaluate.ensures
    ∙ sym (all_next holds items c.loop-part.part-index c.part-item.result c.loop-part-test.true c.part-item.is) ∙ c.loop-part.invariant.truth

pub loop-part-preserved : goal.loop-part-preserved
loop-part-preserved t c =
    let holds = is_true c.args.state.now in
    let items = c.deref-part-items.result.now in
    let rest : Bool = list_all (λ b. b) (map holds (drop (c.loop-part.part-index + 1) items)) in
    record {
      within = (and_parts _ _ (sym (all_next (is_form_within (length c.args.state.now)) items c.loop-part.part-index c.part-item.result c.loop-part-test.true c.part-item.is) ∙ c.loop-part.invariant.within)).1;
      truth = ap (λ b. b && rest) c.if-not-evaluate.ensures
          ∙ sym (all_next holds items c.loop-part.part-index c.part-item.result c.loop-part-test.true c.part-item.is) ∙ c.loop-part.invariant.truth;
    }

pub returns-then-evaluate : goal.returns-then-evaluate
returns-then-evaluate t c =
    let holds = is_true c.args.state.now in
    let items = c.deref-part-items-in-Or.result.now in
    let rest : Bool = list_any (λ b. b) (map holds (drop (c.loop-part-2.part-index + 1) items)) in
    ap (λ b. b || rest) c.if-evaluate.ensures
    ∙ sym (any_next holds items c.loop-part-2.part-index c.part-item-in-loop-part-2.result c.loop-part-2-test.true c.part-item-in-loop-part-2.is) ∙ c.loop-part-2.invariant.truth

pub loop-part-2-preserved : goal.loop-part-2-preserved
loop-part-2-preserved t c =
    let holds = is_true c.args.state.now in
    let items = c.deref-part-items-in-Or.result.now in
    let rest : Bool = list_any (λ b. b) (map holds (drop (c.loop-part-2.part-index + 1) items)) in
    record {
      within = (and_parts _ _ (sym (all_next (is_form_within (length c.args.state.now)) items c.loop-part-2.part-index c.part-item-in-loop-part-2.result c.loop-part-2-test.true c.part-item-in-loop-part-2.is) ∙ c.loop-part-2.invariant.within)).1;
      truth = ap (λ b. b || rest) c.if-evaluate.ensures
          ∙ sym (any_next holds items c.loop-part-2.part-index c.part-item-in-loop-part-2.result c.loop-part-2-test.true c.part-item-in-loop-part-2.is) ∙ c.loop-part-2.invariant.truth;
    }

pub loop-part-init : goal.loop-part-init
loop-part-init t c =
    let size = length c.args.state.now in
    record {
      within = ap (λ (l : List Form). list_all (λ b. b) (map (is_form_within size) l)) c.deref-part-items.ensures.value ∙ sym (within-parts-And size c.in-And.parts) ∙ ap (is_form_within size) (sym c.in-And.is) ∙ c.requires;
      truth = ap (λ (l : List Form). list_all (λ b. b) (map (is_true c.args.state.now) l)) c.deref-part-items.ensures.value ∙ sym (is_true-And c.args.state.now c.in-And.parts) ∙ ap (is_true c.args.state.now) (sym c.in-And.is);
    }

pub loop-part-2-init : goal.loop-part-2-init
loop-part-2-init t c =
    let size = length c.args.state.now in
    record {
      within = ap (λ (l : List Form). list_all (λ b. b) (map (is_form_within size) l)) c.deref-part-items-in-Or.ensures.value ∙ sym (within-parts-Or size c.in-Or.parts) ∙ ap (is_form_within size) (sym c.in-Or.is) ∙ c.requires;
      truth = ap (λ (l : List Form). list_any (λ b. b) (map (is_true c.args.state.now) l)) c.deref-part-items-in-Or.ensures.value ∙ sym (is_true-Or c.args.state.now c.in-Or.parts) ∙ ap (is_true c.args.state.now) (sym c.in-Or.is);
    }

pub returns-after-loop-part : goal.returns-after-loop-part
returns-after-loop-part t c = sym (at_drop_all (λ (left : List Form). list_all (λ b. b) (map (is_true c.args.state.now) left)) c.deref-part-items.result.now c.loop-part.part-index c.loop-part-test.false) ∙ c.loop-part.invariant.truth

pub returns-after-loop-part-2 : goal.returns-after-loop-part-2
returns-after-loop-part-2 t c = sym (at_drop_all (λ (left : List Form). list_any (λ b. b) (map (is_true c.args.state.now) left)) c.deref-part-items-in-Or.result.now c.loop-part-2.part-index c.loop-part-2-test.false) ∙ c.loop-part-2.invariant.truth
