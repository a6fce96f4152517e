-- A sure rule is sure with more literals.
use Rattle.std.proofs.Common.{◌≡◌, ℕ, List, length}
use Rattle.fond_state.specs.Cubes.{CubeLiesIn}
use Rattle.fond_task.specs.declared.task.Act.{Act}
use Rattle.fond_task.specs.declared.task.Task.{Task}
use Rattle.fond_task.specs.Images.{image}
use Rattle.fond_task.specs.declared.rule.Pair.{Pair}
use Rattle.fond_task.specs.declared.rule.Rule.{Rule}
use Rattle.fond_task.specs.declared.rule.Target.{Target}
use Rattle.fond_task.specs.declared.rule.Target.TheVariants.{Goal, Rule as ToRule}
use Rattle.fond_task.specs.declared.rule.Targets.{Targets}
use Rattle.fond_task.specs.declared.rule.Targets.TheVariants.{One, All}
use Rattle.fond_task.specs.Layers.{CubeView}
use Rattle.fond_task.specs.Rules.{Meets, AreMet, IsSureRule}
use Rattle.fond_task.proofs.CubeImages.{image_more}
use Rattle.fond_task.proofs.Values.{yes_stays}

module _ (task : Task) where
  module _ (pairs : List Pair) (rules : List Rule) (number : ℕ) where
    meets_more : (cube more : CubeView) (target : Target) → CubeLiesIn more cube → Meets task rules cube target → Meets task rules more target
    meets_more cube more Goal lies meets = yes_stays cube more lies task.goal meets
    meets_more cube more (ToRule other) lies meets = (meets.0, meets.1, λ atom sign is. lies atom sign (meets.2 atom sign is))

    module _ (cube more : CubeView) (long : length more ≡ length cube) (lies : CubeLiesIn more cube) where
      met_more : (act : Act) (targets : Targets) → AreMet task rules number cube act targets → AreMet task rules number more act targets
      met_more act (One outcome target) met = (met.0, met.1, (met.2.0, met.2.1, meets_more (image cube met.2.0) (image more met.2.0) target (image_more cube more lies met.2.0 long) met.2.2))
      met_more act (All targets) met = (
        met.0,
        met.1,
        λ at target entries is there.
            let one = met.2 at target entries is there in
            (one.0, meets_more (image cube entries) (image more entries) target (image_more cube more lies entries long) one.1),
      )

    -- a sure rule is sure with more literals
    pub sure_more : (rule : Rule) (more : CubeView) → length more ≡ length rule.cond → CubeLiesIn more rule.cond → IsSureRule task pairs rules number rule → IsSureRule task pairs rules number (record rule { cond = more })
    sure_more rule more long lies sure = record {
      act = sure.act;
      has_act = sure.has_act;
      applicable = yes_stays rule.cond more lies sure.act.pre sure.applicable;
      barred = λ pair has is. let against = sure.barred pair has is in (against.0, against.1, lies against.0 against.1 against.2, against.3);
      met = met_more rule.cond more long lies sure.act rule.targets sure.met;
    }
