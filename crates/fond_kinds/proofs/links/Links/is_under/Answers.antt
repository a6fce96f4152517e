use Rattle.std.proofs.Common.{◌≡◌, ℕ, List, Option, None, Some, refl, sym, ap, ◌∙◌, subst, arith, eq-eqb}
use Rattle.std.proofs.lemmas.Bool.Decides.{Decides-eqb}
use Rattle.std.specs.Prelude.{slice_index}
use Rattle.fond_kinds.specs.Parents.{parent_of, IsBelow, here, up}
use Rattle.fond_kinds.proofs.Unwind.{same_time}
use Rattle.fond_kinds.proofs.links.Links.is_under.Goals as goal

-- a number without a parent is below itself alone
alone : (parents : List (Option ℕ)) (a b : ℕ) → parent_of parents a ≡ None → IsBelow parents a b → a ≡ b
alone parents a b last (here n) = refl
alone parents a b last (up n p m known rest) = let clash : None ≡ Some p = sym last ∙ known in cc

pub returns-in-None : goal.returns-in-None
returns-in-None c = (
  (λ off. cc),
  λ below.
      let last : parent_of c.args.self.now.ups c.loop-at.at ≡ None = c.in-None.ensures.none in
      let same : c.loop-at.at ≡ c.args.above = alone c.args.self.now.ups c.loop-at.at c.args.above last (c.loop-at.invariant.on below) in
      let times : slice_index c.args.self.now.times c.loop-at.at ≡ slice_index c.args.self.now.times c.args.above = ap (λ z. slice_index c.args.self.now.times z) same in
      absurd (omega arith),
)

pub returns : goal.returns
returns c =
    let (parents, whole) = c.requires.whole in (
      (λ same. c.loop-at.invariant.back (subst (λ z. IsBelow c.args.self.now.ups c.loop-at.at z) ((Decides-eqb c.loop-at.at c.args.above).0 same) (here c.loop-at.at))),
      λ below. eq-eqb c.loop-at.at c.args.above (same_time parents c.args.self.now whole c.loop-at.at c.args.above (omega arith) (c.loop-at.invariant.on below)),
    )
