use Rattle.std.proofs.Common.{◌≡◌, ◌∙◌, ℕ, List, length, sym, subst, arith}
use Rattle.std.specs.Prelude.{Contains, IsTrue}
use Rattle.std.specs.List.{list_all}
use Rattle.fond_task.specs.declared.form.Kleene.TheVariants.{No}
use Rattle.fond_task.specs.declared.task.Act.{Act}
use Rattle.fond_task.specs.Values.{value}
use Rattle.fond_task.specs.Layers.{Forces}
use Rattle.fond_layers.specs.Faults.{IsFirstEscape}
use Rattle.fond_task.specs.Within.{is_act_within}
use Rattle.fond_task.proofs.Found.{all_at}
use Rattle.fond_layers.specs.Over.{IsOver, AreOver}
use Rattle.fond_layers.proofs.Tried.{read_at, all_front, all_more, all_of}
use Rattle.fond_layers.proofs.sure.first_escape.Goals as goal

pub returns-then-escapes-clause-first : goal.returns-then-escapes-clause-first
returns-then-escapes-clause-first c =
    let cube = c.args.cube.now in
    let earlier = c.args.earlier.now in
    let layer = c.args.layer.now in
    let items = c.as_slice-act-items.result.now in
    let i = c.loop-number.number in
    let Held : Act → Type 0 = λ act. ¬ value cube act.pre ≡ No → Forces earlier layer cube act in
    let P : List Act → Type 0 = λ acts. IsFirstEscape acts earlier layer cube i in
    let found : IsFirstEscape items earlier layer cube i = record {
      act = c.act-item.result;
      has_act = read_at items i c.act-item.result c.loop-number-test.true c.act-item.is;
      escapes = c.if-escapes.ensures.answer;
      first = λ other has escapes. escapes.1 (all_front items Held i (omega (arith, c.loop-number-test.true)) c.loop-number.invariant.held other has escapes.0);
    } in
    subst P c.as_slice-act-items.ensures found

pub loop-number-preserved : goal.loop-number-preserved
loop-number-preserved c =
    let cube = c.args.cube.now in
    let Held : Act → Type 0 = λ act. ¬ value cube act.pre ≡ No → Forces c.args.earlier.now c.args.layer.now cube act in
    record {
      long = c.escapes.ensures.same_length ∙ c.loop-number.invariant.long;
      held = all_more c.as_slice-act-items.result.now Held c.loop-number.number c.act-item.result c.loop-number-test.true c.act-item.is c.if-escapes.ensures.answer c.loop-number.invariant.held;
    }

pub escapes-requires-clause-within : goal.escapes-requires-clause-within
escapes-requires-clause-within c =
    let items = c.as_slice-act-items.result.now in
    let act = c.act-item.result in
    let Within : ℕ → Type 0 = λ atoms. IsTrue (is_act_within atoms act) in
    let All : List Act → Type 0 = λ acts. IsTrue (list_all (is_act_within (length c.args.t.now.atoms)) acts) in
    let all = subst All (sym c.as_slice-act-items.ensures) c.args.t.now.acts_within in
    subst Within (sym c.requires.cube_long) (all_at (is_act_within _) items c.loop-number.number act all (read_at items c.loop-number.number act c.loop-number-test.true c.act-item.is))

pub escapes-requires-clause-earlier_over : goal.escapes-requires-clause-earlier_over
escapes-requires-clause-earlier_over c = subst (λ atoms. AreOver atoms c.args.earlier.now) (sym c.requires.cube_long) c.requires.earlier_over

pub escapes-requires-clause-layer_over : goal.escapes-requires-clause-layer_over
escapes-requires-clause-layer_over c = subst (λ atoms. IsOver atoms c.args.layer.now) (sym c.requires.cube_long) c.requires.layer_over

pub returns-clause-first : goal.returns-clause-first
returns-clause-first c =
    let cube = c.args.cube.now in
    let items = c.as_slice-act-items.result.now in
    let Held : Act → Type 0 = λ act. ¬ value cube act.pre ≡ No → Forces c.args.earlier.now c.args.layer.now cube act in
    λ act has. all_of items Held c.loop-number.number (omega (arith, c.loop-number-test.false)) c.loop-number.invariant.held act (subst (λ acts. Contains acts act) (sym c.as_slice-act-items.ensures) has)
