use Rattle.std.proofs.Common.{sym, ◌∙◌}
use Rattle.fond_kinds.proofs.Types.{own_ancestor, own_ancestor_below, not_own_ancestor}
use Rattle.fond_kinds.proofs.table.TypeTable.is_own_ancestor.Goals as goal

pub returns-in-Some-parent : goal.returns-in-Some-parent
returns-in-Some-parent c =
    let known = sym (c.args.self.now.numbered c.args.name.now) ∙ sym c.find.ensures ∙ c.in-Some.is in
    let its = sym c.parent.ensures.parent ∙ c.in-Some-parent.is in (
      (λ on. own_ancestor c.args.self.now.types.now c.args.self.now.ancestry c.args.self.now.ascends c.args.name.now c.in-Some.number c.in-Some-parent.parent known its (c.is_below.ensures.0 on)),
      λ own. c.is_below.ensures.1 (own_ancestor_below c.args.self.now.types.now c.args.self.now.ancestry c.args.self.now.ascends c.args.name.now c.in-Some.number c.in-Some-parent.parent known its own),
    )

pub returns-in-None-parent : goal.returns-in-None-parent
returns-in-None-parent c = ((λ off. cc), λ own. absurd (not_own_ancestor c.args.self.now.types.now c.args.self.now.ancestry c.args.self.now.ascends c.args.name.now c.in-Some.number (sym (c.args.self.now.numbered c.args.name.now) ∙ sym c.find.ensures ∙ c.in-Some.is) (sym c.parent.ensures.parent ∙ c.in-None-parent.is) own))
