-- The sizes of the numbers of a certificate.
use Rattle.std.specs.Prelude.{◌<◌, ◌^◌, All as Each, ⊤}
use Rattle.fond_task.specs.declared.rule.Pair.{Pair}
use Rattle.fond_task.specs.declared.rule.Target.{Target}
use Rattle.fond_task.specs.declared.rule.Target.TheVariants.{Goal, Rule as ToRule}
use Rattle.fond_task.specs.declared.rule.Targets.{Targets}
use Rattle.fond_task.specs.declared.rule.Targets.TheVariants.{One, All}
use Rattle.fond_policy.specs.declared.item.Way.{Way}
use Rattle.fond_policy.specs.declared.item.Way.TheVariants.{Goal as ToGoal, Rule as ByRule}
use Rattle.fond_policy.specs.declared.cert.Cert.{Cert}
use Rattle.fond_policy.specs.declared.cert.Cert.TheVariants.{Policy, Refusal, Covered}

-- the numbers of a pair are below 2^32
abbrev pub IsSmallPair : Pair → Type 0
IsSmallPair pair = (pair.outcome < 2 ^ 32) × (pair.layer < 2 ^ 32) × (pair.cube < 2 ^ 32)

-- a target is the goal, or a rule whose number is below 2^32
abbrev pub IsSmallTarget : Target → Type 0
IsSmallTarget Goal = ⊤
IsSmallTarget (ToRule number) = number < 2 ^ 32

-- the numbers of the targets of a rule are below 2^32
abbrev pub AreSmallTargets : Targets → Type 0
AreSmallTargets (One outcome target) = (outcome < 2 ^ 32) × IsSmallTarget target
AreSmallTargets (All targets) = Each IsSmallTarget targets

-- the numbers of a way are below 2^32
abbrev pub IsSmallWay : Way → Type 0
IsSmallWay ToGoal = ⊤
IsSmallWay (ByRule rule numbers) = (rule < 2 ^ 32) × Each (λ number. number < 2 ^ 32) numbers

-- the numbers of a certificate fit their types: those of its pairs, rules and items and its start number are below 2^32, and
-- its reach number is below 2^64
abbrev pub HasSmallNumbers : Cert → Type 0
HasSmallNumbers (Policy layers pairs rules reach) = Each IsSmallPair pairs × Each (λ rule. AreSmallTargets rule.targets) rules × (reach < 2 ^ 64)
HasSmallNumbers (Refusal layers) = ⊤
HasSmallNumbers (Covered layers pairs rules items start) =
    Each IsSmallPair pairs × Each (λ rule. AreSmallTargets rule.targets) rules × Each (λ item. IsSmallWay item.way) items × (start < 2 ^ 32)
