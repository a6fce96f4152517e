use Rattle.std.proofs.Common.{◌∷◌, ◌++◌, ◌+◌, ◌∙◌, map, drop, sym, ap, subst}
use Rattle.std.proofs.lemmas.List.{append-nil, drop_all}
use Rattle.fond_task.specs.declared.form.Form.TheVariants.{And, Or}
use Rattle.fond_task.specs.Values.{value}
use Rattle.fond_task.specs.Within.{is_form_within}
use Rattle.fond_oneof.specs.Shown.{AreSameForms, IsSameForm}
use Rattle.fond_oneof.proofs.Forms.{same_and, same_or}
use Rattle.fond_oneof.proofs.Lists.{more_mapped}
use Rattle.fond_oneof.proofs.form.+copying.Goals as goal

pub all_copied-loop-part-preserved : goal.all_copied-loop-part-preserved
all_copied-loop-part-preserved t c =
    let parts = c.args.parts.now in
    let i = c.loop-part.part-index in
    let part = c.part-item.result in
    let copy = c.in_ok-copied.field-0 in
    record {
      valued = λ cube. more_mapped (value cube) (map (value cube)) c.loop-part.copies.items c.push.new.self.items parts i part copy (map (value cube) parts) c.loop-part-test.true c.part-item.is c.in_ok-push.ensures.items
          (ap (λ v. v ∷ map (value cube) (drop (i + 1) parts)) (sym (c.in_ok-copied.ensures.valued cube))) (c.loop-part.invariant.valued cube);
      over = λ atoms. more_mapped (is_form_within atoms) (map (is_form_within atoms)) c.loop-part.copies.items c.push.new.self.items parts i part copy (map (is_form_within atoms) parts) c.loop-part-test.true c.part-item.is c.in_ok-push.ensures.items
          (ap (λ v. v ∷ map (is_form_within atoms) (drop (i + 1) parts)) (sym (c.in_ok-copied.ensures.over atoms))) (c.loop-part.invariant.over atoms);
    }

pub all_copied-returns : goal.all_copied-returns
all_copied-returns t c =
    let none = drop_all c.loop-part.part-index c.args.parts.now c.loop-part-test.false in
    record {
      valued = λ cube. sym (append-nil (map (value cube) c.loop-part.copies.items)) ∙ ap (λ rest. map (value cube) c.loop-part.copies.items ++ map (value cube) rest) (sym none) ∙ c.loop-part.invariant.valued cube;
      over = λ atoms. sym (append-nil (map (is_form_within atoms) c.loop-part.copies.items)) ∙ ap (λ rest. map (is_form_within atoms) c.loop-part.copies.items ++ map (is_form_within atoms) rest) (sym none) ∙ c.loop-part.invariant.over atoms;
    }

pub copied-returns-in_ok-all_copied-in-And : goal.copied-returns-in_ok-all_copied-in-And
copied-returns-in_ok-all_copied-in-And t c =
    let same = subst (λ parts. AreSameForms parts c.in_ok-all_copied-in-And.field-0.items) c.deref.ensures.value c.in_ok-all_copied-in-And.ensures in
    subst (λ form. IsSameForm form (And c.in_ok-all_copied-in-And.field-0)) (sym c.in-And.is) (same_and c.in-And.parts c.in_ok-all_copied-in-And.field-0 same)

pub copied-returns-in_ok-all_copied-in-Or : goal.copied-returns-in_ok-all_copied-in-Or
copied-returns-in_ok-all_copied-in-Or t c =
    let same = subst (λ parts. AreSameForms parts c.in_ok-all_copied-in-Or.field-0.items) c.deref-in-Or.ensures.value c.in_ok-all_copied-in-Or.ensures in
    subst (λ form. IsSameForm form (Or c.in_ok-all_copied-in-Or.field-0)) (sym c.in-Or.is) (same_or c.in-Or.parts c.in_ok-all_copied-in-Or.field-0 same)
