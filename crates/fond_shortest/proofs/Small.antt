-- The numbers of a correct certificate fit their types.
use Rattle.std.proofs.Common.{◌≡◌, ℕ, ◌<◌, ◌^◌, List, [], Some, length, slice_get, arith}
use Rattle.std.specs.Prelude.{All as Each}
use Rattle.std.proofs.lemmas.Option.{slice_get_within}
use Rattle.fond_task.specs.declared.task.Task.{Task}
use Rattle.fond_task.specs.declared.rule.Rule.{Rule}
use Rattle.fond_policy.specs.declared.best.BestCert.{BestCert}
use Rattle.fond_policy.specs.declared.item.Item.{Item}
use Rattle.fond_policy.specs.Belongs.{BelongsAsBest}
use Rattle.fond_policy.specs.Sizes.{AreSmallTargets, IsSmallWay}
use Rattle.fond_cert.specs.Smalls.{HasSmallBest}
use Rattle.fond_covering.proofs.Certified.{has_small}
use Rattle.fond_draft.proofs.Lists.{all_numbered}
use Rattle.fond_planner.proofs.Right.{small_targets}
use Rattle.fond_best.specs.Certificates.{IsRightBest}
use Rattle.fond_shortest.specs.Bests.{IsGoodBest}

module _ (task : Task) (cert : BestCert) (belongs : BelongsAsBest task cert) (rank : ℕ) (right : IsRightBest task cert rank) (ranks : Each (λ one. one < 2 ^ 64) cert.ranks) where
  small : HasSmallBest cert
  small = (
    all_numbered (λ (rule : Rule). AreSmallTargets rule.targets) cert.rules (λ number rule at.
        let sure = right.cover.sure.rules_sure number rule at in
        small_targets task cert.rules belongs.as_rules.few number rule.cond sure.act rule.act rule.targets sure.has_act (slice_get_within cert.rules number rule at) sure.met),
    all_numbered (λ (item : Item). IsSmallWay item.way) cert.items (λ number item at.
        has_small task cert.rules cert.items belongs.as_items.few belongs.as_rules.few item item.way (right.cover.items_sure number item at)),
    ranks,
    (let start = right.cover.starts in let within = slice_get_within cert.items cert.start start.item start.numbered in omega (arith, within, belongs.as_items.few)),
  )

  pub good : IsGoodBest task cert
  good = record { belongs = belongs; small = small; rank = rank; right = right }
