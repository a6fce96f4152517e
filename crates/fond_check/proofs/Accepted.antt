-- Each verdict on a correct certificate is that it is accepted.
use Rattle.std.proofs.Common.{◌≡◌, ℕ, suc, ◌<◌, List, Bool, true, false, take, drop, refl, sym, ◌∙◌, arith}
use Rattle.fond_task.specs.declared.task.Task.{Task}
use Rattle.fond_task.specs.declared.rule.Pair.{Pair}
use Rattle.fond_task.specs.declared.rule.Rule.{Rule}
use Rattle.fond_task.specs.Policies.{selected}
use Rattle.fond_task.specs.Layers.{CubeView, AreSureLayers, IsSureCube}
use Rattle.fond_task.specs.Certificates.{IsRightPolicy, IsRightRefusal}
use Rattle.fond_task.proofs.Lists.{Contains_numbered, something}
use Rattle.std.proofs.lemmas.Option.{none-some}
use Rattle.fond_layers.specs.Faults.{IsWrong, cube_number}
use Rattle.fond_layers.specs.declared.fault.Spot.{Spot}
use Rattle.fond_layers.specs.declared.fault.Spot.TheVariants.{Goal, NotSure}
use Rattle.fond_policy.specs.declared.cert.Cert.{Cert}
use Rattle.fond_policy.specs.declared.cert.Cert.TheVariants.{Policy, Refusal, Covered}
use Rattle.fond_policy.specs.Parts.{ArePartsSure, IsRight, IsRightCover}
use Rattle.fond_policy.specs.declared.item.Item.{Item}
use Rattle.fond_check.specs.Verdicts.{IsCoverVerdict, IsFirstBadLayer, IsPartFault, IsPolicyVerdict, IsRefusalVerdict, IsVerdict}
use Rattle.fond_check.specs.declared.verdict.Verdict.{Verdict}
use Rattle.fond_check.specs.declared.verdict.Verdict.TheVariants.{Accepted, Rule as BadRule, Pair as BadPair, LayerGoal, LayerAct, NoRule, Count, Outside, Item as BadItem, Start as BadStart}
use Rattle.fond_policy.proofs.Counted.{split_at, more_counted, counted_once}

-- a sure cube is not wrong
pub not_wrong : (task : Task) (earlier : List (List CubeView)) (layer : List CubeView) (cube : CubeView) (spot : Spot) → IsSureCube task earlier layer cube → ¬ IsWrong task earlier layer cube spot
not_wrong task earlier layer cube (Goal number) sure wrong = wrong sure.no_goal
not_wrong task earlier layer cube (NotSure number act) sure wrong =
    wrong.1.escapes.1 (sure.forced wrong.1.act (Contains_numbered task.acts act wrong.1.act wrong.1.has_act) wrong.1.escapes.0)

-- sure layers have no bad one
pub not_bad : (task : Task) (layers : List (List CubeView)) (number : ℕ) (spot : Spot) → AreSureLayers task layers → ¬ IsFirstBadLayer task layers number spot
not_bad task layers number spot sure bad =
    let layer_sure = sure (take number layers) bad.layer (drop (suc number) layers) (split_at layers number bad.layer bad.has_layer) in
    not_wrong task (take number layers) bad.layer bad.wrong.cube spot
    (layer_sure bad.wrong.cube (Contains_numbered bad.layer (cube_number spot) bad.wrong.cube bad.wrong.has_cube)) bad.wrong.wrong

-- if the layers, the pairs and the rules are sure, no verdict says that one is not
not_faulted : (task : Task) (layers : List (List CubeView)) (pairs : List Pair) (rules : List Rule) (verdict : Verdict) → ArePartsSure task layers pairs rules → ¬ IsPartFault task layers pairs rules verdict
not_faulted task layers pairs rules (LayerGoal layer cube) sure found = not_bad task layers layer (Goal cube) sure.layers_sure found
not_faulted task layers pairs rules (LayerAct layer cube act) sure found = not_bad task layers layer (NotSure cube act) sure.layers_sure found
not_faulted task layers pairs rules (BadPair number) sure found = found.1.bad (sure.pairs_sure found.1.pair (Contains_numbered pairs number found.1.pair found.1.has_pair))
not_faulted task layers pairs rules (BadRule number) sure found = found.2.bad (sure.rules_sure number found.2.rule found.2.has_rule)
not_faulted task layers pairs rules verdict sure found = found

policy_accepted : (task : Task) (layers : List (List CubeView)) (pairs : List Pair) (rules : List Rule) (reach : ℕ) (verdict : Verdict) → IsRightPolicy task layers pairs rules reach
    → IsPolicyVerdict task layers pairs rules reach verdict → (lean : Bool) × (verdict ≡ Accepted lean)
policy_accepted task layers pairs rules reach (Accepted lean) right found = (lean, refl)
policy_accepted task layers pairs rules reach (Count true) right found =
    let past : reach < reach = more_counted task (selected rules) reach reach found.1 right.counted in
    absurd (omega (arith, past))
policy_accepted task layers pairs rules reach (Count false) right found =
    let fits = counted_once task (selected rules) reach found.1.0 right.counted found.1.1 in
    absurd (omega (arith, fits, found.1.2))
policy_accepted task layers pairs rules reach (NoRule state) right found =
    let one = something (selected rules state) (right.ruled state found.2.reached found.2.open_) in
    absurd (none-some one.0 (sym found.2.none ∙ one.1))
policy_accepted task layers pairs rules reach verdict right found =
    absurd (not_faulted task layers pairs rules verdict (record { layers_sure = right.layers_sure; pairs_sure = right.pairs_sure; rules_sure = right.rules_sure }) found)

cover_accepted : (task : Task) (layers : List (List CubeView)) (pairs : List Pair) (rules : List Rule) (items : List Item) (start : ℕ) (verdict : Verdict) → IsRightCover task layers pairs rules items start
    → IsCoverVerdict task layers pairs rules items start verdict → (lean : Bool) × (verdict ≡ Accepted lean)
cover_accepted task layers pairs rules items start (Accepted lean) right found = (lean, refl)
cover_accepted task layers pairs rules items start (BadItem number) right found = absurd (found.1.bad (right.items_sure number found.1.item found.1.has_item))
cover_accepted task layers pairs rules items start BadStart right found = absurd (found.2 right.starts)
cover_accepted task layers pairs rules items start verdict right found = absurd (not_faulted task layers pairs rules verdict right.sure found)

refusal_accepted : (task : Task) (layers : List (List CubeView)) (verdict : Verdict) → IsRightRefusal task layers → IsRefusalVerdict task layers verdict → (lean : Bool) × (verdict ≡ Accepted lean)
refusal_accepted task layers (Accepted lean) right found = (lean, refl)
refusal_accepted task layers (LayerGoal layer cube) right found = absurd (not_bad task layers layer (Goal cube) right.layers_sure found)
refusal_accepted task layers (LayerAct layer cube act) right found = absurd (not_bad task layers layer (NotSure cube act) right.layers_sure found)
refusal_accepted task layers Outside right found = absurd (found.1 right.start)
refusal_accepted task layers verdict right found = absurd found

pub right_accepted : (task : Task) (cert : Cert) (verdict : Verdict) → IsRight task cert → IsVerdict task cert verdict → (lean : Bool) × (verdict ≡ Accepted lean)
right_accepted task (Policy layers pairs rules reach) verdict right found = policy_accepted task layers pairs rules reach verdict right found
right_accepted task (Refusal layers) verdict right found = refusal_accepted task layers verdict right found
right_accepted task (Covered layers pairs rules items start) verdict right found = cover_accepted task layers pairs rules items start verdict right found
