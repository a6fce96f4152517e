-- Whether a rule is sure depends on the rules before it alone.
use Rattle.std.proofs.Common.{◌≡◌, ℕ, zero, suc, ◌<◌, List, [], ◌∷◌, take, slice_get, refl, sym, ◌∙◌, arith}
use Rattle.fond_task.specs.declared.task.Act.{Act}
use Rattle.fond_task.specs.declared.task.Task.{Task}
use Rattle.fond_task.specs.Images.{image}
use Rattle.fond_task.specs.declared.rule.Pair.{Pair}
use Rattle.fond_task.specs.declared.rule.Rule.{Rule}
use Rattle.fond_task.specs.declared.rule.Target.{Target}
use Rattle.fond_task.specs.declared.rule.Target.TheVariants.{Goal, Rule as ToRule}
use Rattle.fond_task.specs.declared.rule.Targets.{Targets}
use Rattle.fond_task.specs.declared.rule.Targets.TheVariants.{One, All}
use Rattle.fond_task.specs.Layers.{CubeView}
use Rattle.fond_task.specs.Rules.{Meets, IsEarlier, AreMet, IsSureRule}

-- an element before a number is among those before it
slice_get-take : {X : Type 0} (xs : List X) (n i : ℕ) → i < n → slice_get (take n xs) i ≡ slice_get xs i
slice_get-take xs zero i small = absurd (omega (arith, small))
slice_get-take [] (suc n) i small = refl
slice_get-take (x ∷ xs) (suc n) zero small = refl
slice_get-take (x ∷ xs) (suc n) (suc i) small = slice_get-take xs n i (omega (arith, small))

module _ (task : Task) (rules : List Rule) (number : ℕ) where
  meets_all : (cube : CubeView) (target : Target) → IsEarlier number target → Meets task (take number rules) cube target → Meets task rules cube target
  meets_all cube Goal earlier meets = meets
  meets_all cube (ToRule other) earlier meets = (meets.0, sym (slice_get-take rules number other earlier) ∙ meets.1, meets.2)

  meets_front : (cube : CubeView) (target : Target) → IsEarlier number target → Meets task rules cube target → Meets task (take number rules) cube target
  meets_front cube Goal earlier meets = meets
  meets_front cube (ToRule other) earlier meets = (meets.0, slice_get-take rules number other earlier ∙ meets.1, meets.2)

  met_all : (cond : CubeView) (act : Act) (targets : Targets) → AreMet task (take number rules) number cond act targets → AreMet task rules number cond act targets
  met_all cond act (One outcome target) met = (met.0, met.1, (met.2.0, met.2.1, meets_all (image cond met.2.0) target met.1 met.2.2))
  met_all cond act (All targets) met = (met.0, met.1, λ at target entries is there. let one = met.2 at target entries is there in (one.0, meets_all (image cond entries) target one.0 one.1))

  met_front : (cond : CubeView) (act : Act) (targets : Targets) → AreMet task rules number cond act targets → AreMet task (take number rules) number cond act targets
  met_front cond act (One outcome target) met = (met.0, met.1, (met.2.0, met.2.1, meets_front (image cond met.2.0) target met.1 met.2.2))
  met_front cond act (All targets) met = (met.0, met.1, λ at target entries is there. let one = met.2 at target entries is there in (one.0, meets_front (image cond entries) target one.0 one.1))

pub sure_all : (task : Task) (pairs : List Pair) (rules : List Rule) (number : ℕ) (rule : Rule) → IsSureRule task pairs (take number rules) number rule → IsSureRule task pairs rules number rule
sure_all task pairs rules number rule sure =
    record { act = sure.act; has_act = sure.has_act; applicable = sure.applicable; barred = sure.barred; met = met_all task rules number rule.cond sure.act rule.targets sure.met }

pub sure_front : (task : Task) (pairs : List Pair) (rules : List Rule) (number : ℕ) (rule : Rule) → IsSureRule task pairs rules number rule → IsSureRule task pairs (take number rules) number rule
sure_front task pairs rules number rule sure =
    record { act = sure.act; has_act = sure.has_act; applicable = sure.applicable; barred = sure.barred; met = met_front task rules number rule.cond sure.act rule.targets sure.met }
