use Rattle.std.proofs.Common.{◌≡◌, ◌+◌, length, sum, ◌++◌, ◌∷◌, inl, inr, IfOk, List, map, ap, ◌∙◌, sym, subst, arith}
use Rattle.std.specs.List.{flat_map}
use Rattle.std.proofs.lemmas.List.{take_all}
use Rattle.fond_ast.specs.Read.{condition_variables}
use Rattle.fond_ast.specs.declared.syntax.Cond.{Cond, out-Cond}
use Rattle.fond_ast.specs.declared.syntax.Cond.TheOpen as open_condition
use Rattle.fond_ast.specs.declared.syntax.Cond.TheVariants as made
use Rattle.fond_ast.specs.declared.syntax.Cond.TheViews.{size-Cond, sized-And, sized-Or, sized-Not, sized-Imply, sized-Forall, sized-Exists}
use Rattle.fond_text.specs.declared.code.TheConstants.{LONGEST_TEXT}
use Rattle.fond_text.specs.Firsts.{IsFirst}
use Rattle.fond_ast.specs.declared.names.TypedName.{TypedName}
use Rattle.fond_names.specs.Faults.{OccursAmong}
use Rattle.fond_names.specs.Files.{declarations_of}
use Rattle.fond_names.specs.Sites.{Site, AnAtom, AnEquality, AList, condition_sites}
use Rattle.fond_names.proofs.SiteLemmas.{condition_sites_by, condition_variables_by, site_one, site_alone, sites_both, site_then, sites_next, fewer_left}
use Rattle.fond_names.proofs.sites.+condition_fault.Goals as goal

pub condition_fault-returns-in-Holds-clause-first : goal.condition_fault-returns-in-Holds-clause-first
condition_fault-returns-in-Holds-clause-first t c =
    let files = declarations_of c.args.files.now in
    let around = c.args.around.now in
    let same = condition_sites_by c.args.condition.now (open_condition.Holds c.in-Holds.atom) (ap out-Cond c.in-Holds.is ∙ made.outs-Holds c.in-Holds.atom) around in
    subst (λ (sites : List Site). IfOk c.atom_fault.result (IsFirst (OccursAmong files sites))) (sym same) (site_alone files (AnAtom around c.in-Holds.atom) c.atom_fault.result c.atom_fault.ensures.first)

pub condition_fault-returns-in-Equal-clause-first : goal.condition_fault-returns-in-Equal-clause-first
condition_fault-returns-in-Equal-clause-first t c =
    let files = declarations_of c.args.files.now in
    let around = c.args.around.now in
    let same = condition_sites_by c.args.condition.now (open_condition.Equal c.in-Equal.term c.in-Equal.other) (ap out-Cond c.in-Equal.is ∙ made.outs-Equal c.in-Equal.term c.in-Equal.other) around in
    subst (λ (sites : List Site). IsFirst (OccursAmong files sites) c.equality_fault.result) (sym same) (site_one files (AnEquality around c.in-Equal.term c.in-Equal.other) c.equality_fault.result c.equality_fault.ensures)

pub condition_fault-returns-in_ok-condition_fault-in-Imply-clause-first : goal.condition_fault-returns-in_ok-condition_fault-in-Imply-clause-first
condition_fault-returns-in_ok-condition_fault-in-Imply-clause-first t c =
    let files = declarations_of c.args.files.now in
    let around = c.args.around.now in
    let same = condition_sites_by c.args.condition.now (open_condition.Imply c.in-Imply.part c.in-Imply.other) (ap out-Cond c.in-Imply.is ∙ made.outs-Imply c.in-Imply.part c.in-Imply.other) around in
    let parts : condition_sites c.deref-in-Imply.result.now around ++ condition_sites c.deref-in-Imply-2.result.now around ≡ condition_sites c.in-Imply.part.value around ++ condition_sites c.in-Imply.other.value around =
    λ i. condition_sites (c.deref-in-Imply.ensures i) around ++ condition_sites (c.deref-in-Imply-2.ensures i) around in
    subst (λ (sites : List Site). IsFirst (OccursAmong files sites) c.earlier.result) (parts ∙ sym same)
    (sites_both files (condition_sites c.deref-in-Imply.result.now around) (condition_sites c.deref-in-Imply-2.result.now around) c.in_ok-first-in-Imply.first c.in_ok-condition_fault-in-Imply.field-0 c.earlier.result
    c.in_ok-first-in-Imply.ensures.first c.in_ok-condition_fault-in-Imply.ensures.first c.earlier.ensures)

pub condition_fault-returns-in-Forall-clause-first : goal.condition_fault-returns-in-Forall-clause-first
condition_fault-returns-in-Forall-clause-first t c =
    let files = declarations_of c.args.files.now in
    let around = c.args.around.now in
    let names = c.in-Forall.names in
    let part = c.in-Forall.part in
    let same : condition_sites c.args.condition.now around ≡ AList names ∷ condition_sites part.value (names ∷ around) =
    elim c.in-Forall.is [
      | inl e ↦ condition_sites_by c.args.condition.now (open_condition.Forall names part) (ap out-Cond e ∙ made.outs-Forall names part) around
      | inr e ↦ condition_sites_by c.args.condition.now (open_condition.Exists names part) (ap out-Cond e ∙ made.outs-Exists names part) around
    ] in
    let inner : AList names ∷ condition_sites c.deref-in-Forall.result.now (names ∷ around) ≡ AList names ∷ condition_sites part.value (names ∷ around) = λ i. AList names ∷ condition_sites (c.deref-in-Forall.ensures i) (names ∷ around) in
    subst (λ (sites : List Site). IfOk c.quantified_fault.result (IsFirst (OccursAmong files sites))) (inner ∙ sym same) c.quantified_fault.ensures

pub quantified_fault-returns : goal.quantified_fault-returns
quantified_fault-returns t c =
    let files = declarations_of c.args.files.now in
    subst (λ (list : List TypedName). IfOk c.quantified_inside.result (IsFirst (OccursAmong files (AList list ∷ condition_sites c.args.part.now (list ∷ c.args.around.now))))) c.in_ok-variables.ensures c.quantified_inside.ensures

pub quantified_inside-returns : goal.quantified_inside-returns
quantified_inside-returns t c =
    let files = declarations_of c.args.files.now in
    let around = c.args.around.now in
    let names = c.args.variables.now in
    let found = c.in_ok-inner.inner in
    site_then files (AList names) (condition_sites c.args.part.now (names ∷ around)) c.list_fault-first.result found c.earlier.result c.list_fault-first.ensures
    (subst (λ (sites : List Site). IsFirst (OccursAmong files sites) found) (ap (condition_sites c.args.part.now) c.inside-within.ensures) c.in_ok-inner.ensures.first)
    c.earlier.ensures

pub conditions_fault-loop-condition-preserved : goal.conditions_fault-loop-condition-preserved
conditions_fault-loop-condition-preserved t c =
    let parts = c.args.conditions.now in
    let part = c.condition-item.result in
    record {
      first = sites_next (declarations_of c.args.files.now) condition_sites c.args.around.now parts c.loop-condition.condition-index part c.loop-condition.first c.in_ok-condition_fault.field-0 c.earlier-first.result
          c.loop-condition-test.true c.condition-item.is c.loop-condition.invariant.first c.in_ok-condition_fault.ensures.first c.earlier-first.ensures;
      few = fewer_left condition_variables parts c.loop-condition.condition-index LONGEST_TEXT part c.loop-condition-test.true c.condition-item.is c.loop-condition.invariant.few;
      told = c.in_ok-condition_fault.ensures.told;
    }

pub conditions_fault-returns-clause-first : goal.conditions_fault-returns-clause-first
conditions_fault-returns-clause-first t c =
    let files = declarations_of c.args.files.now in
    let parts = c.args.conditions.now in
    let all = take_all c.loop-condition.condition-index parts (omega arith) in
    subst (λ (some : List Cond). IsFirst (OccursAmong files (flat_map (λ part. part c.args.around.now) (map condition_sites some))) c.loop-condition.first) all c.loop-condition.invariant.first

pub condition_fault-returns-in-And-clause-first : goal.condition_fault-returns-in-And-clause-first
condition_fault-returns-in-And-clause-first t c =
    let files = declarations_of c.args.files.now in
    let around = c.args.around.now in
    let parts = c.in-And.parts in
    let same : condition_sites c.args.condition.now around ≡ flat_map (λ part. part around) (map condition_sites parts.items) =
    elim c.in-And.is [
      | inl e ↦ condition_sites_by c.args.condition.now (open_condition.And parts) (ap out-Cond e ∙ made.outs-And parts) around
      | inr e ↦ condition_sites_by c.args.condition.now (open_condition.Or parts) (ap out-Cond e ∙ made.outs-Or parts) around
    ] in
    let inner : flat_map (λ part. part around) (map condition_sites c.deref-in-And.result.now) ≡ flat_map (λ part. part around) (map condition_sites parts.items) =
    ap (λ (some : List Cond). flat_map (λ part. part around) (map condition_sites some)) c.deref-in-And.ensures.value in
    subst (λ (sites : List Site). IfOk c.conditions_fault.result (IsFirst (OccursAmong files sites))) (inner ∙ sym same) c.conditions_fault.ensures.first

pub condition_fault-condition_fault-requires : goal.condition_fault-condition_fault-requires
condition_fault-condition_fault-requires t c =
    let part = c.in-Not.part in
    let counted : condition_variables c.args.condition.now ≡ condition_variables part.value = condition_variables_by c.args.condition.now (open_condition.Not part) (ap out-Cond c.in-Not.is ∙ made.outs-Not part) in
    let deep = ap (λ (one : Cond). size-Cond one) c.in-Not.is ∙ sized-Not part in
    let same = ap condition_variables c.deref.ensures in
    let few = c.requires.few in
    (grind (arith, c.decreases, deep, c.deref.ensures), (omega (arith, few, counted, same), c.requires.told))

pub condition_fault-condition_fault-requires-in-Imply : goal.condition_fault-condition_fault-requires-in-Imply
condition_fault-condition_fault-requires-in-Imply t c =
    let part = c.in-Imply.part in
    let other = c.in-Imply.other in
    let counted : condition_variables c.args.condition.now ≡ condition_variables part.value + condition_variables other.value =
    condition_variables_by c.args.condition.now (open_condition.Imply part other) (ap out-Cond c.in-Imply.is ∙ made.outs-Imply part other) in
    let deep = ap (λ (one : Cond). size-Cond one) c.in-Imply.is ∙ sized-Imply part other in
    let same = ap condition_variables c.deref-in-Imply.ensures in
    let few = c.requires.few in
    (grind (arith, c.decreases, deep, c.deref-in-Imply.ensures), (omega (arith, few, counted, same), c.requires.told))

pub condition_fault-condition_fault-requires-in-Imply-2 : goal.condition_fault-condition_fault-requires-in-Imply-2
condition_fault-condition_fault-requires-in-Imply-2 t c =
    let part = c.in-Imply.part in
    let other = c.in-Imply.other in
    let counted : condition_variables c.args.condition.now ≡ condition_variables part.value + condition_variables other.value =
    condition_variables_by c.args.condition.now (open_condition.Imply part other) (ap out-Cond c.in-Imply.is ∙ made.outs-Imply part other) in
    let deep = ap (λ (one : Cond). size-Cond one) c.in-Imply.is ∙ sized-Imply part other in
    let same = ap condition_variables c.deref-in-Imply-2.ensures in
    let few = c.requires.few in
    (grind (arith, c.decreases, deep, c.deref-in-Imply-2.ensures), (omega (arith, few, counted, same), c.in_ok-first-in-Imply.ensures.told))

pub condition_fault-quantified_fault-requires : goal.condition_fault-quantified_fault-requires
condition_fault-quantified_fault-requires t c =
    let names = c.in-Forall.names in
    let part = c.in-Forall.part in
    let few = c.requires.few in
    let same = ap condition_variables c.deref-in-Forall.ensures in
    elim c.in-Forall.is [
      | inl e ↦
          let deep = ap (λ (one : Cond). size-Cond one) e ∙ sized-Forall names part in
          let counted : condition_variables c.args.condition.now ≡ length names + condition_variables part.value = condition_variables_by c.args.condition.now (open_condition.Forall names part) (ap out-Cond e ∙ made.outs-Forall names part) in
          (grind (arith, c.decreases, deep, c.deref-in-Forall.ensures), omega (arith, few, counted, same))
      | inr e ↦
          let deep = ap (λ (one : Cond). size-Cond one) e ∙ sized-Exists names part in
          let counted : condition_variables c.args.condition.now ≡ length names + condition_variables part.value = condition_variables_by c.args.condition.now (open_condition.Exists names part) (ap out-Cond e ∙ made.outs-Exists names part) in
          (grind (arith, c.decreases, deep, c.deref-in-Forall.ensures), omega (arith, few, counted, same))
    ]

pub condition_fault-conditions_fault-requires : goal.condition_fault-conditions_fault-requires
condition_fault-conditions_fault-requires t c =
    let parts = c.in-And.parts in
    let few = c.requires.few in
    let same = ap (λ (some : List Cond). sum (map condition_variables some)) c.deref-in-And.ensures.value in
    elim c.in-And.is [
      | inl e ↦
          let deep = ap (λ (one : Cond). size-Cond one) e ∙ sized-And parts in
          let counted : condition_variables c.args.condition.now ≡ sum (map condition_variables parts.items) = condition_variables_by c.args.condition.now (open_condition.And parts) (ap out-Cond e ∙ made.outs-And parts) in
          (grind (arith, c.decreases, deep, c.deref-in-And.ensures.value), (omega (arith, few, counted, same), c.requires.told))
      | inr e ↦
          let deep = ap (λ (one : Cond). size-Cond one) e ∙ sized-Or parts in
          let counted : condition_variables c.args.condition.now ≡ sum (map condition_variables parts.items) = condition_variables_by c.args.condition.now (open_condition.Or parts) (ap out-Cond e ∙ made.outs-Or parts) in
          (grind (arith, c.decreases, deep, c.deref-in-And.ensures.value), (omega (arith, few, counted, same), c.requires.told))
    ]
