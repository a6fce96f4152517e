use Rattle.std.proofs.Common.{◌≡◌, ◌∙◌, length, sym, subst, refl}
use Rattle.std.proofs.lemmas.Bool.{false≢true}
use Rattle.std.proofs.lemmas.Option.{same_Some}
use Rattle.fond_state.specs.Cubes.{CubeLiesIn}
use Rattle.fond_policy.specs.Items.{First, first_of}
use Rattle.fond_policy.proofs.Ruled.{first_at, over_at}
use Rattle.fond_policy.proofs.conditions.is_first_on.Goals as goal

pub covers-requires : goal.covers-requires
covers-requires c = over_at c.args.rules.now c.args.rule c.get.result.now (length c.args.c.now) c.requires.over c.get.ensures

pub returns-then-covers : goal.returns-then-covers
returns-then-covers c =
    let rule = c.get.result.now in (
      λ e. record {
        first = first_of rule;
        numbered = first_at c.args.rules.now c.args.rule rule c.get.ensures;
        lies = c.if-covers.ensures.0 refl;
        apart = c.is_apart.ensures.0 e;
      },
      λ on. c.is_apart.ensures.1 on.apart,
    )

pub returns-else-covers : goal.returns-else-covers
returns-else-covers c =
    let rule = c.get.result.now in (
      λ e. absurd (false≢true (sym c.if-covers.false ∙ e)),
      λ on.
          let same : on.first ≡ first_of rule = same_Some on.first (first_of rule) (sym on.numbered ∙ first_at c.args.rules.now c.args.rule rule c.get.ensures) in
          c.covers.ensures.1 (subst (λ (f : First). CubeLiesIn c.args.c.now f.cond) same on.lies),
    )
