use Rattle.std.proofs.Common.{[], ◌∷◌, ◌++◌, length, ap, ◌∙◌, arith}
use Rattle.std.specs.List.{zip}
use Rattle.fond_cert.proofs.Zipped.{zip_long, zip_more}
use Rattle.fond_cert.proofs.ranked.RankedItems.push.Goals as goal

pub push-requires-2 : goal.push-requires-2
push-requires-2 c = omega (arith, c.requires, zip_long c.self.inside.items c.self.inside.ranks.items c.self.invariant, ap length c.self.view_is)

pub returns : goal.returns
returns c =
    (λ i. zip (c.in_default.ensures.ok i) (c.in_ok-push.ensures.items i)) ∙ zip_more c.self.inside.items c.self.inside.ranks.items c.args.item c.args.rank c.self.invariant
    ∙ ap (λ l. l ++ ((c.args.item, c.args.rank) ∷ [])) c.self.view_is
