use Rattle.std.proofs.Common.{◌≡◌, ◌+◌, length, sum, ◌++◌, ◌∷◌, [], inl, inr, IfOk, List, map, ap, ◌∙◌, sym, subst, arith}
use Rattle.std.specs.List.{flat_map}
use Rattle.std.proofs.lemmas.List.{take_all}
use Rattle.fond_ast.specs.Read.{condition_variables, effect_variables}
use Rattle.fond_ast.specs.declared.syntax.Effect.{Effect, out-Effect}
use Rattle.fond_ast.specs.declared.syntax.Effect.TheOpen as open_effect
use Rattle.fond_ast.specs.declared.syntax.Effect.TheVariants as made
use Rattle.fond_ast.specs.declared.syntax.Effect.TheViews.{size-Effect, sized-And, sized-OneOf, sized-Forall, sized-When}
use Rattle.fond_text.specs.declared.code.TheConstants.{LONGEST_TEXT}
use Rattle.fond_text.specs.Firsts.{IsFirst}
use Rattle.fond_ast.specs.declared.names.TypedName.{TypedName}
use Rattle.fond_names.specs.Faults.{OccursAmong}
use Rattle.fond_names.specs.Files.{declarations_of}
use Rattle.fond_names.specs.Sites.{Site, AnAtom, AList, condition_sites, effect_sites}
use Rattle.fond_names.proofs.SiteLemmas.{effect_sites_by, effect_variables_by, site_alone, sites_both, site_then, sites_next, fewer_left}
use Rattle.fond_names.proofs.sites.+effect_fault.Goals as goal

pub effect_fault-returns-in-Add-clause-first : goal.effect_fault-returns-in-Add-clause-first
effect_fault-returns-in-Add-clause-first t c =
    let files = declarations_of c.args.files.now in
    let around = c.args.around.now in
    let atom = c.in-Add.atom in
    let same : effect_sites c.args.effect.now around ≡ AnAtom around atom ∷ [] =
    elim c.in-Add.is [
      | inl e ↦ effect_sites_by c.args.effect.now (open_effect.Add atom) (ap out-Effect e ∙ made.outs-Add atom) around
      | inr e ↦ effect_sites_by c.args.effect.now (open_effect.Delete atom) (ap out-Effect e ∙ made.outs-Delete atom) around
    ] in
    subst (λ (sites : List Site). IfOk c.atom_fault.result (IsFirst (OccursAmong files sites))) (sym same) (site_alone files (AnAtom around atom) c.atom_fault.result c.atom_fault.ensures.first)

pub effect_fault-returns-in_ok-effect_fault-in-When-clause-first : goal.effect_fault-returns-in_ok-effect_fault-in-When-clause-first
effect_fault-returns-in_ok-effect_fault-in-When-clause-first t c =
    let files = declarations_of c.args.files.now in
    let around = c.args.around.now in
    let condition = c.in-When.condition in
    let part = c.in-When.part in
    let same = effect_sites_by c.args.effect.now (open_effect.When condition part) (ap out-Effect c.in-When.is ∙ made.outs-When condition part) around in
    let parts : condition_sites condition around ++ effect_sites c.deref-in-When.result.now around ≡ condition_sites condition around ++ effect_sites part.value around =
    λ i. condition_sites condition around ++ effect_sites (c.deref-in-When.ensures i) around in
    subst (λ (sites : List Site). IsFirst (OccursAmong files sites) c.earlier.result) (parts ∙ sym same)
    (sites_both files (condition_sites condition around) (effect_sites c.deref-in-When.result.now around) c.in_ok-first-in-When.first c.in_ok-effect_fault-in-When.field-0 c.earlier.result
    c.in_ok-first-in-When.ensures.first c.in_ok-effect_fault-in-When.ensures.first c.earlier.ensures)

pub effect_fault-returns-in-Forall-clause-first : goal.effect_fault-returns-in-Forall-clause-first
effect_fault-returns-in-Forall-clause-first t c =
    let files = declarations_of c.args.files.now in
    let around = c.args.around.now in
    let names = c.in-Forall.names in
    let part = c.in-Forall.part in
    let same : effect_sites c.args.effect.now around ≡ AList names ∷ effect_sites part.value (names ∷ around) =
    effect_sites_by c.args.effect.now (open_effect.Forall names part) (ap out-Effect c.in-Forall.is ∙ made.outs-Forall names part) around in
    let inner : AList names ∷ effect_sites c.deref.result.now (names ∷ around) ≡ AList names ∷ effect_sites part.value (names ∷ around) = λ i. AList names ∷ effect_sites (c.deref.ensures i) (names ∷ around) in
    subst (λ (sites : List Site). IfOk c.universal_fault.result (IsFirst (OccursAmong files sites))) (inner ∙ sym same) c.universal_fault.ensures

pub universal_fault-returns : goal.universal_fault-returns
universal_fault-returns t c =
    let files = declarations_of c.args.files.now in
    subst (λ (list : List TypedName). IfOk c.universal_inside.result (IsFirst (OccursAmong files (AList list ∷ effect_sites c.args.part.now (list ∷ c.args.around.now))))) c.in_ok-variables.ensures c.universal_inside.ensures

pub universal_inside-returns : goal.universal_inside-returns
universal_inside-returns t c =
    let files = declarations_of c.args.files.now in
    let around = c.args.around.now in
    let names = c.args.variables.now in
    let found = c.in_ok-inner.inner in
    site_then files (AList names) (effect_sites c.args.part.now (names ∷ around)) c.list_fault-first.result found c.earlier.result c.list_fault-first.ensures
    (subst (λ (sites : List Site). IsFirst (OccursAmong files sites) found) (ap (effect_sites c.args.part.now) c.inside-within.ensures) c.in_ok-inner.ensures.first)
    c.earlier.ensures

pub effects_fault-loop-effect-preserved : goal.effects_fault-loop-effect-preserved
effects_fault-loop-effect-preserved t c =
    let parts = c.args.effects.now in
    let part = c.effect-item.result in
    record {
      first = sites_next (declarations_of c.args.files.now) effect_sites c.args.around.now parts c.loop-effect.effect-index part c.loop-effect.first c.in_ok-effect_fault.field-0 c.earlier-first.result
          c.loop-effect-test.true c.effect-item.is c.loop-effect.invariant.first c.in_ok-effect_fault.ensures.first c.earlier-first.ensures;
      few = fewer_left effect_variables parts c.loop-effect.effect-index LONGEST_TEXT part c.loop-effect-test.true c.effect-item.is c.loop-effect.invariant.few;
      told = c.in_ok-effect_fault.ensures.told;
    }

pub effects_fault-returns-clause-first : goal.effects_fault-returns-clause-first
effects_fault-returns-clause-first t c =
    let files = declarations_of c.args.files.now in
    let parts = c.args.effects.now in
    let all = take_all c.loop-effect.effect-index parts (omega arith) in
    subst (λ (some : List Effect). IsFirst (OccursAmong files (flat_map (λ part. part c.args.around.now) (map effect_sites some))) c.loop-effect.first) all c.loop-effect.invariant.first

pub effect_fault-returns-in-And-clause-first : goal.effect_fault-returns-in-And-clause-first
effect_fault-returns-in-And-clause-first t c =
    let files = declarations_of c.args.files.now in
    let around = c.args.around.now in
    let parts = c.in-And.parts in
    let same : effect_sites c.args.effect.now around ≡ flat_map (λ part. part around) (map effect_sites parts.items) =
    elim c.in-And.is [
      | inl e ↦ effect_sites_by c.args.effect.now (open_effect.And parts) (ap out-Effect e ∙ made.outs-And parts) around
      | inr e ↦ effect_sites_by c.args.effect.now (open_effect.OneOf parts) (ap out-Effect e ∙ made.outs-OneOf parts) around
    ] in
    let inner : flat_map (λ part. part around) (map effect_sites c.deref-in-And.result.now) ≡ flat_map (λ part. part around) (map effect_sites parts.items) =
    ap (λ (some : List Effect). flat_map (λ part. part around) (map effect_sites some)) c.deref-in-And.ensures.value in
    subst (λ (sites : List Site). IfOk c.effects_fault.result (IsFirst (OccursAmong files sites))) (inner ∙ sym same) c.effects_fault.ensures.first

pub effect_fault-universal_fault-requires : goal.effect_fault-universal_fault-requires
effect_fault-universal_fault-requires t c =
    let names = c.in-Forall.names in
    let part = c.in-Forall.part in
    let counted : effect_variables c.args.effect.now ≡ length names + effect_variables part.value = effect_variables_by c.args.effect.now (open_effect.Forall names part) (ap out-Effect c.in-Forall.is ∙ made.outs-Forall names part) in
    let deep = ap (λ (one : Effect). size-Effect one) c.in-Forall.is ∙ sized-Forall names part in
    let same = ap effect_variables c.deref.ensures in
    let few = c.requires.few in
    (grind (arith, c.decreases, deep, c.deref.ensures), omega (arith, few, counted, same))

pub effect_fault-condition_fault-requires-clause-few : goal.effect_fault-condition_fault-requires-clause-few
effect_fault-condition_fault-requires-clause-few t c =
    let condition = c.in-When.condition in
    let part = c.in-When.part in
    let counted : effect_variables c.args.effect.now ≡ condition_variables condition + effect_variables part.value = effect_variables_by c.args.effect.now (open_effect.When condition part) (ap out-Effect c.in-When.is ∙ made.outs-When condition part) in
    let few = c.requires.few in
    omega (arith, few, counted)

pub effect_fault-effect_fault-requires : goal.effect_fault-effect_fault-requires
effect_fault-effect_fault-requires t c =
    let condition = c.in-When.condition in
    let part = c.in-When.part in
    let counted : effect_variables c.args.effect.now ≡ condition_variables condition + effect_variables part.value = effect_variables_by c.args.effect.now (open_effect.When condition part) (ap out-Effect c.in-When.is ∙ made.outs-When condition part) in
    let deep = ap (λ (one : Effect). size-Effect one) c.in-When.is ∙ sized-When condition part in
    let same = ap effect_variables c.deref-in-When.ensures in
    let few = c.requires.few in
    (grind (arith, c.decreases, deep, c.deref-in-When.ensures), (omega (arith, few, counted, same), c.in_ok-first-in-When.ensures.told))

pub effect_fault-effects_fault-requires : goal.effect_fault-effects_fault-requires
effect_fault-effects_fault-requires t c =
    let parts = c.in-And.parts in
    let few = c.requires.few in
    let same = ap (λ (some : List Effect). sum (map effect_variables some)) c.deref-in-And.ensures.value in
    elim c.in-And.is [
      | inl e ↦
          let deep = ap (λ (one : Effect). size-Effect one) e ∙ sized-And parts in
          let counted : effect_variables c.args.effect.now ≡ sum (map effect_variables parts.items) = effect_variables_by c.args.effect.now (open_effect.And parts) (ap out-Effect e ∙ made.outs-And parts) in
          (grind (arith, c.decreases, deep, c.deref-in-And.ensures.value), (omega (arith, few, counted, same), c.requires.told))
      | inr e ↦
          let deep = ap (λ (one : Effect). size-Effect one) e ∙ sized-OneOf parts in
          let counted : effect_variables c.args.effect.now ≡ sum (map effect_variables parts.items) = effect_variables_by c.args.effect.now (open_effect.OneOf parts) (ap out-Effect e ∙ made.outs-OneOf parts) in
          (grind (arith, c.decreases, deep, c.deref-in-And.ensures.value), (omega (arith, few, counted, same), c.requires.told))
    ]
