use Rattle.std.proofs.Common.{ℕ, map, sym, ap, ◌∙◌}
use Rattle.std.proofs.lemmas.Slice.Zip.{firsts-zip, seconds-zip}
use Rattle.fond_policy.specs.declared.item.Item.{Item}
use Rattle.fond_cert.proofs.ranked.RankedItems.split.Goals as goal

pub returns-clause-items : goal.returns-clause-items
returns-clause-items c = sym (firsts-zip c.self.inside.items c.self.inside.ranks.items c.self.invariant) ∙ ap (map (λ (entry : Item × ℕ). entry.0)) c.self.view_is

pub returns-clause-ranks : goal.returns-clause-ranks
returns-clause-ranks c = c.of.ensures ∙ sym (seconds-zip c.self.inside.items c.self.inside.ranks.items c.self.invariant) ∙ ap (map (λ (entry : Item × ℕ). entry.1)) c.self.view_is
