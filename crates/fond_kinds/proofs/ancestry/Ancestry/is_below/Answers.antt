use Rattle.std.proofs.Common.{◌≡◌, ◌<◌, Some, None, true, false, length, refl, sym, ap, ◌∙◌, subst}
use Rattle.fond_kinds.specs.Parents.{parent_of, IsBelow}
use Rattle.std.specs.Prelude.{slice_index}
use Rattle.fond_kinds.proofs.Unwind.{is_above, is_below}
use Rattle.fond_kinds.proofs.Below.{within, around}
use Rattle.fond_kinds.proofs.ancestry.Ancestry.is_below.Goals as goal

pub returns-then-is_under : goal.returns-then-is_under
returns-then-is_under c =
    let there : c.args.number < length c.self.inside.parents.items = subst (λ z. c.args.number < length z) (sym c.self.view_is) c.requires.number in (
      (λ on. subst (λ z. IsBelow z c.args.number c.args.above) c.self.view_is (is_below c.self.inside.parents.items c.self.inside.links c.self.invariant c.args.number c.args.above there (within (c.if-is_under.ensures.0 refl)))),
      λ below. refl,
    )

pub returns-in-None : goal.returns-in-None
returns-in-None c =
    let its : None ≡ parent_of c.self.inside.parents.items (slice_index c.self.inside.links.roots c.args.number) = sym c.in-None.is ∙ c.parent_at.ensures ∙ ap (λ z. parent_of z c.root.result) c.deref.ensures.value ∙ ap (λ z. parent_of c.self.inside.parents.items z) c.root.ensures in (
      (λ off. cc),
      λ below. elim (is_above c.self.inside.parents.items c.self.inside.links c.self.invariant c.args.number c.args.above (subst (λ z. IsBelow z c.args.number c.args.above) (sym c.self.view_is) below)) [
        | within under ↦ c.if-is_under.ensures.1 under
        | around lost parent under ↦ let clash : None ≡ Some lost = its ∙ parent in cc
      ],
    )

pub returns-in-Some : goal.returns-in-Some
returns-in-Some c =
    let there : c.args.number < length c.self.inside.parents.items = subst (λ z. c.args.number < length z) (sym c.self.view_is) c.requires.number in
    let its : Some c.in-Some.lost ≡ parent_of c.self.inside.parents.items (slice_index c.self.inside.links.roots c.args.number) = sym c.in-Some.is ∙ c.parent_at.ensures ∙ ap (λ z. parent_of z c.root.result) c.deref.ensures.value ∙ ap (λ z. parent_of c.self.inside.parents.items z) c.root.ensures in (
      (λ on. subst (λ z. IsBelow z c.args.number c.args.above) c.self.view_is (is_below c.self.inside.parents.items c.self.inside.links c.self.invariant c.args.number c.args.above there (around c.in-Some.lost (sym its) (c.is_under-in-Some.ensures.0 on)))),
      λ below. elim (is_above c.self.inside.parents.items c.self.inside.links c.self.invariant c.args.number c.args.above (subst (λ z. IsBelow z c.args.number c.args.above) (sym c.self.view_is) below)) [
        | within under ↦ let off : false ≡ true = c.if-is_under.ensures.1 under in cc
        | around lost parent under ↦
            let same : Some c.in-Some.lost ≡ Some lost = its ∙ parent in
            let equal : lost ≡ c.in-Some.lost = cc in
            c.is_under-in-Some.ensures.1 (subst (λ z. IsBelow c.self.inside.links.ups z c.args.above) equal under)
      ],
    )
