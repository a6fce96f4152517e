-- The sizes of the numbers of a certificate of least rank.
use Rattle.std.specs.Prelude.{◌<◌, ◌^◌, All as Each}
use Rattle.fond_policy.specs.Sizes.{AreSmallTargets, IsSmallWay}
use Rattle.fond_policy.specs.declared.best.BestCert.{BestCert}

-- the numbers of a certificate of least rank fit their types: those of its rules and items and its start number are below 2^32, and its
-- ranks are below 2^64
abbrev pub HasSmallBest : BestCert → Type 0
HasSmallBest cert = Each (λ rule. AreSmallTargets rule.targets) cert.rules × Each (λ item. IsSmallWay item.way) cert.items × Each (λ rank. rank < 2 ^ 64) cert.ranks × (cert.start < 2 ^ 32)
